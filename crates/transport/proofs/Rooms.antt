-- Rooms written from their start, a part more each time.
use Rattle.std.proofs.Common.{◌≡◌, ℕ, ◌+◌, ◌-◌, ◌<◌, min, List, [], ◌∷◌, ◌++◌, length, get_or, take, drop, set, sym, refl, ap, ◌∙◌, inl, inr, append_assoc, arith, length-append, length-drop, length-take, drop-drop}
use Rattle.std.proofs.lemmas.List.{take_at, drop_at, drop_more, set_at, length_push, take_all, take-take, drop_all}
use Rattle.std.proofs.lemmas.Bool.{cases_lt}
use borrow.Rule.Slice.PartMut.{put_mid}
use Rattle.transport.specs.Layout.{overwritten, written}

module _ {X : Type 0} where
  pub written_more : (t ys room : List X) → overwritten (length t) ys (written t room) ≡ written (t ++ ys) room
  written_more t ys room =
      let a = take_at t (drop (length t) room) (length t) refl in
      let b = drop-drop (length ys) (length t) (t ++ drop (length t) room) in
      let c = drop_at t (drop (length t) room) (length t) refl in
      let d = drop-drop (length ys) (length t) room in
      let e = length-append t ys in
      let f = append_assoc t ys (drop (length t + length ys) room) in
      cc

  pub written_push : (t room : List X) (y : X) → length t < length room → set (written t room) (length t) y ≡ written (t ++ y ∷ []) room
  written_push t room y h =
      let a = drop_more room (length t) y h in
      let b = set_at t (get_or room (length t) y) (drop (length t + 1) room) y (length t) refl in
      let c = length_push t y in
      let d = append_assoc t (y ∷ []) (drop (length t + 1) room) in
      cc

  pub take_min : (n : ℕ) (xs : List X) → take (min (length xs) n) xs ≡ take n xs
  take_min n xs = elim (cases_lt n (length xs)) [
    | inl h ↦ let e : min (length xs) n ≡ n = omega arith in ap (λ (k : ℕ). take k xs) e
    | inr h ↦ let a = take_all (min (length xs) n) xs (omega arith) in let b = take_all n xs h in cc
  ]

  pub take_same : (i j : ℕ) (xs : List X) → min (length xs) i ≡ min (length xs) j → take i xs ≡ take j xs
  take_same i j xs e = sym (take_min i xs) ∙ ap (λ (k : ℕ). take k xs) e ∙ take_min j xs

  pub take_twice : (a b : ℕ) (xs : List X) → take a (take b xs) ≡ take (min a b) xs
  take_twice a b xs = elim (cases_lt a b) [
    | inl h ↦ let e : min a b ≡ a = omega arith in take-take a b xs (omega arith) ∙ ap (λ (k : ℕ). take k xs) (sym e)
    | inr h ↦ let e : min a b ≡ b = omega arith in take_all a (take b xs) (omega (arith, length-take b xs)) ∙ ap (λ (k : ℕ). take k xs) (sym e)
  ]

  pub drop_same : (i : ℕ) (xs : List X) → drop (min i (length xs)) xs ≡ drop i xs
  drop_same i xs = elim (cases_lt i (length xs)) [
    | inl h ↦ let e : min i (length xs) ≡ i = omega arith in ap (λ (k : ℕ). drop k xs) e
    | inr h ↦ drop_all (min i (length xs)) xs (omega arith) ∙ sym (drop_all i xs h)
  ]

  -- at most `left` elements of a part of a text, as far as there are any
  pub part_wanted : (text : List X) (from size left start n : ℕ) → start ≡ min from (length text) → n ≡ min (min size (length text - start)) left
      → take n (take (length text - start) (drop start text)) ≡ take left (take size (drop from text))
  part_wanted text from size left start n s l =
      let m = length-drop start text in
      ap (take n) (take_all (length text - start) (drop start text) (omega arith)) ∙ take_same n (min left size) (drop start text) (omega arith)
      ∙ ap (take (min left size)) (ap (λ (k : ℕ). drop k text) s ∙ drop_same from text) ∙ sym (take_twice left size (drop from text))

  -- copied to the place `at` of a room
  pub copied : (at : ℕ) (room part p q : List X) → part ≡ p → p ≡ q → put_mid at ((at + length p) - at) room part ≡ overwritten at q room
  copied at room part p q c e =
      let n : (at + length p) - at ≡ length q = omega (arith, ap length e) in
      let d = drop-drop ((at + length p) - at) at room in
      cc
