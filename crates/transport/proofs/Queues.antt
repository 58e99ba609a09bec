-- A room that is read from a place on: one more, the first ones less, one of them.
use Rattle.std.proofs.Common.{◌≡◌, ℕ, ◌+◌, ◌-◌, ◌<◌, ◌≤◌, ltb, ◌⊎◌, List, ◌++◌, length, get_or, take, drop, set, sym, ap, ◌∙◌, inl, inr, append_assoc, append-nil, arith, length-append, length-drop, length-set, length-take, drop-drop}
use lib.Seq.{take-set-lt}
use Rattle.std.proofs.lemmas.Bool.{cases_lt, cond-true, cond-false, lt-ltb, le-ltb}
use Rattle.std.proofs.lemmas.List.{take_all, take-take, take-append-le, take-append-drop, take-set-le, drop_all, drop_at, drop-append-le, drop-set-add, drop-set-lt, drop-take, set-append_left, set-append_right, get_or_append_left, get_or-append_right, get_or-take, get_or-drop}
use Rattle.transport.specs.Rings.{rotated, start, place}

-- the head as it counts: inside the room, or the first place
start_cases : (n h : ℕ) → ((h < n) × (start n h ≡ h)) ⊎ ((n ≤ h) × (start n h ≡ 0))
start_cases n h = elim (cases_lt h n) [
  | inl l ↦ inl (l, cond-true (ltb h n) h 0 (lt-ltb h n l))
  | inr l ↦ inr (l, cond-false (ltb h n) h 0 (le-ltb h n l))
]

start_in : (n h : ℕ) → start n h ≤ n
start_in n h = elim (start_cases n h) [ inl w ↦ omega (arith, w.0, w.1) | inr w ↦ omega (arith, w.0, w.1) ]

place_cases : (n h i : ℕ) → ((i < n - start n h) × (place n h i ≡ start n h + i)) ⊎ ((n - start n h ≤ i) × (place n h i ≡ i - (n - start n h)))
place_cases n h i = elim (cases_lt i (n - start n h)) [
  | inl l ↦ inl (l, cond-true (ltb i (n - start n h)) (start n h + i) (i - (n - start n h)) (lt-ltb i (n - start n h) l))
  | inr l ↦ inr (l, cond-false (ltb i (n - start n h)) (start n h + i) (i - (n - start n h)) (le-ltb i (n - start n h) l))
]

module _ {X : Type 0} where
  take_split : (n m : ℕ) (xs : List X) → take (n + m) xs ≡ take n xs ++ take m (drop n xs)
  take_split n m xs = let a = take-append-drop n (take (n + m) xs) in let b = take-take n (n + m) xs (omega arith) in let c = drop-take n m xs in cc

  drop_behind : (p q : List X) (n k : ℕ) → length p ≡ n → n ≤ k → drop k (p ++ q) ≡ drop (k - n) q
  drop_behind p q n k e h =
      let m : n + (k - n) ≡ k = omega arith in
      let a = drop-drop (k - n) n (p ++ q) in let b = drop_at p q n e in cc

  module _ (h : ℕ) (xs : List X) where
    rotated_start : rotated (start (length xs) h) xs ≡ rotated h xs
    rotated_start = elim (start_cases (length xs) h) [
      | inl w ↦ ap (λ (k : ℕ). rotated k xs) w.1
      | inr w ↦ ap (λ (k : ℕ). rotated k xs) w.1 ∙ append-nil xs ∙ sym (let a = drop_all h xs w.0 in let b = take_all h xs w.0 in cc)
    ]

    pub length-rotated : length (rotated h xs) ≡ length xs
    length-rotated = omega (arith, length-append (drop h xs) (take h xs), length-drop h xs, length-take h xs)

  -- one place written
  set_at_place : (xs : List X) (s i p : ℕ) (x : X) → s ≤ length xs → i < length xs → ((i < length xs - s) × (p ≡ s + i)) ⊎ ((length xs - s ≤ i) × (p ≡ i - (length xs - s))) → rotated s (set xs p x) ≡ set (rotated s xs) i x
  set_at_place xs s i p x h k (inl w) =
      let e = w.1 in
      let l = w.0 in
      let a = drop-set-add s xs i x in
      let b = take-set-le s xs (s + i) x (omega arith) in
      let c = set-append_left (drop s xs) (take s xs) i x (omega (arith, length-drop s xs)) in
      cc
  set_at_place xs s i p x h k (inr w) =
      let e = w.1 in
      let l = w.0 in
      let a = drop-set-lt s xs p x (omega arith) in
      let b = take-set-lt s xs p x (omega arith) in
      let c = set-append_right (drop s xs) (take s xs) (length xs - s) i x (length-drop s xs) l in
      cc

  pub rotated-set : (xs : List X) (h i : ℕ) (x : X) → i < length xs → rotated h (set xs (place (length xs) h i) x) ≡ set (rotated h xs) i x
  rotated-set xs h i x k =
      let p : ℕ = place (length xs) h i in
      let a = rotated_start h (set xs p x) in
      let n = length-set xs p x in
      let b = set_at_place xs (start (length xs) h) i p x (start_in (length xs) h) k (place_cases (length xs) h i) in
      let c = rotated_start h xs in
      cc

  -- one place read
  read_at_place : (xs : List X) (s i p : ℕ) (d : X) → s ≤ length xs → i < length xs → ((i < length xs - s) × (p ≡ s + i)) ⊎ ((length xs - s ≤ i) × (p ≡ i - (length xs - s))) → get_or (rotated s xs) i d ≡ get_or xs p d
  read_at_place xs s i p d h k (inl w) =
      let e = w.1 in
      let l = w.0 in
      let a = get_or_append_left (drop s xs) (take s xs) d i (omega (arith, length-drop s xs)) in
      let b = get_or-drop s xs i d in
      cc
  read_at_place xs s i p d h k (inr w) =
      let e = w.1 in
      let l = w.0 in
      let a = get_or-append_right (drop s xs) (take s xs) (length xs - s) i d (length-drop s xs) l in
      let b = get_or-take s xs p d (omega arith) in
      cc

  pub rotated-read : (xs : List X) (h i : ℕ) (d : X) → i < length xs → get_or (rotated h xs) i d ≡ get_or xs (place (length xs) h i) d
  rotated-read xs h i d k =
      ap (λ (l : List X). get_or l i d) (sym (rotated_start h xs)) ∙ read_at_place xs (start (length xs) h) i (place (length xs) h i) d (start_in (length xs) h) k (place_cases (length xs) h i)

  -- the first k of c let go
  drop_to_place : (xs : List X) (s k c p : ℕ) → s ≤ length xs → k ≤ c → c ≤ length xs → ((k < length xs - s) × (p ≡ s + k)) ⊎ ((length xs - s ≤ k) × (p ≡ k - (length xs - s))) → take (c - k) (rotated p xs) ≡ take (c - k) (drop k (rotated s xs))
  drop_to_place xs s k c p h g f (inl w) =
      let e = w.1 in
      let l = w.0 in
      let a = drop-append-le k (drop s xs) (take s xs) (omega (arith, length-drop s xs)) in
      let b = drop-drop k s xs in
      let t = take_split s k xs in
      let u = append_assoc (drop (s + k) xs) (take s xs) (take k (drop s xs)) in
      let n : c - k ≤ length (drop (s + k) xs ++ take s xs) = omega (arith, length-append (drop (s + k) xs) (take s xs), length-drop (s + k) xs, length-take s xs) in
      let v = take-append-le (c - k) (drop (s + k) xs ++ take s xs) (take k (drop s xs)) n in
      cc
  drop_to_place xs s k c p h g f (inr w) =
      let e = w.1 in
      let l = w.0 in
      let a = drop_behind (drop s xs) (take s xs) (length xs - s) k (length-drop s xs) l in
      let m : p + (s - p) ≡ s = omega arith in
      let b = drop-take p (s - p) xs in
      let t = take-take (c - k) (s - p) (drop p xs) (omega arith) in
      let v = take-append-le (c - k) (drop p xs) (take p xs) (omega (arith, length-drop p xs)) in
      cc

  pub rotated-drop : (xs : List X) (h k c : ℕ) → k ≤ c → c ≤ length xs → take (c - k) (rotated (place (length xs) h k) xs) ≡ drop k (take c (rotated h xs))
  rotated-drop xs h k c g f =
      let m : k + (c - k) ≡ c = omega arith in
      let a = drop-take k (c - k) (rotated h xs) in
      let b = drop_to_place xs (start (length xs) h) k c (place (length xs) h k) (start_in (length xs) h) g f (place_cases (length xs) h k) in
      let r = rotated_start h xs in
      cc
