-- What one write to a store changes.
use Rattle.std.proofs.Common.{◌≡◌, ℕ, ◌+◌, ◌<◌, ◌≤◌, max, false, cond, ltb, ◌≢◌, List, length, get_or, take, set, is_some, Some, None, Option, refl, ap, ◌∙◌, inl, inr, arith}
use lib.Seq.{take-set-lt}
use Rattle.std.proofs.lemmas.List.{get_or-set_same, get_or-set_other, get_or_past, set_past, get_or-take, length-take, take_more_set}
use Rattle.std.proofs.lemmas.List.Sums.{sum_by-set, sum_by_push}
use Rattle.std.proofs.lemmas.Bool.{cases_lt, cond-true, cond-false, lt-ltb, le-ltb}
use Rattle.std.proofs.lemmas.Bool.Decides.{nat_tests}
use Rattle.object_map.specs.Laws.{occupied_in}
use Rattle.object_map.specs.Store.{Store, store_of, at, fill, vacate}

-- one for an occupied slot
abbrev pub one : {R : Type 0} → Option R → ℕ
one o = cond (is_some o) 1 0

-- a place in use, and a place past those in use
pub at_below : {R : Type 0} (i : ℕ) (s : Store R) → i < s.used → at i s ≡ get_or s.slots i None
at_below i s h = cond-true (ltb i s.used) (get_or s.slots i None) None (lt-ltb i s.used h)

pub at_above : {R : Type 0} (i : ℕ) (s : Store R) → s.used ≤ i → at i s ≡ None
at_above i s h = cond-false (ltb i s.used) (get_or s.slots i None) None (le-ltb i s.used h)

-- a write to the slot at i
abbrev pub write : {R : Type 0} → Option R → ℕ → Store R → Store R
write x i s = store_of (set s.slots i x) s.used

pub write_same : {R : Type 0} (x : Option R) (i : ℕ) (s : Store R) → i < s.used → i < length s.slots → at i (write x i s) ≡ x
write_same x i s u l = at_below i (write x i s) u ∙ get_or-set_same s.slots i x None l

pub write_other : {R : Type 0} (x : Option R) (i k : ℕ) (s : Store R) → k ≢ i → at k (write x i s) ≡ at k s
write_other x i k s ne = rw (get_or-set_other s.slots i k x None ne)

pub write_count : {R : Type 0} (x : Option R) (i : ℕ) (s : Store R) → i < s.used → i < length s.slots → occupied_in (write x i s) + one (at i s) ≡ occupied_in s + one x
write_count x i s u l =
    let n = length-take s.used s.slots in
    let e = sum_by-set one (take s.used s.slots) i x None (omega arith) in
    let g = get_or-take s.used s.slots i None u in
    let a = at_below i s u in
    rw (a, take-set-lt s.used s.slots i x u) (rw g at e)

-- a record at the next place
pub next_same : {R : Type 0} (r : R) (s : Store R) → s.used < length s.slots → at s.used (fill r s.used s) ≡ Some r
next_same r s l = at_below s.used (fill r s.used s) (omega arith) ∙ get_or-set_same s.slots s.used (Some r) None l

pub next_count : {R : Type 0} (r : R) (s : Store R) → s.used < length s.slots → occupied_in (fill r s.used s) ≡ occupied_in s + 1
next_count r s l =
    let m : max s.used (s.used + 1) ≡ s.used + 1 = omega arith in
    rw (m, take_more_set s.slots s.used (Some r) l) (sum_by_push one (take s.used s.slots) (Some r))

-- a record put at an empty place in use or at the next one
pub fill_same : {R : Type 0} (r : R) (i : ℕ) (s : Store R) → i < length s.slots → at i (fill r i s) ≡ Some r
fill_same r i s l = at_below i (fill r i s) (omega arith) ∙ get_or-set_same s.slots i (Some r) None l

pub fill_other : {R : Type 0} (r : R) (i k : ℕ) (s : Store R) → i ≤ s.used → k ≢ i → at k (fill r i s) ≡ at k s
fill_other r i k s le ne = rw (get_or-set_other s.slots i k (Some r) None ne) (grind (arith, nat_tests))

pub fill_count : {R : Type 0} (r : R) (i : ℕ) (s : Store R) → i ≤ s.used → i < length s.slots → at i s ≡ None → occupied_in (fill r i s) ≡ occupied_in s + 1
fill_count {R} r i s le l e =
    elim (cases_lt i s.used) [
      | inl u ↦
          let m : max s.used (i + 1) ≡ s.used = omega arith in
          let w : occupied_in (write (Some r) i s) + one (at i s) ≡ occupied_in s + 1 = write_count (Some r) i s u l in
          let w' : occupied_in (write (Some r) i s) + one {R = R} None ≡ occupied_in s + 1 = rw e at w in
          rw m (omega (arith, w'))
      | inr past ↦
          let same : i ≡ s.used = omega arith in
          rw same (next_count r s (omega arith))
    ]

-- a place made empty
emptied_slot : {R : Type 0} (i : ℕ) (room : List (Option R)) → get_or (set room i None) i None ≡ None
emptied_slot i room =
    elim (cases_lt i (length room)) [
      | inl l ↦ get_or-set_same room i None None l
      | inr past ↦ rw (set_past room i None past) (get_or_past room i None past)
    ]

pub vacate_below : {R : Type 0} (i : ℕ) (s : Store R) → i < s.used → vacate i s ≡ write None i s
vacate_below i s u = ap (λ b. store_of (cond b (set s.slots i None) s.slots) s.used) (lt-ltb i s.used u)

pub vacate_above : {R : Type 0} (i : ℕ) (s : Store R) → s.used ≤ i → vacate i s ≡ s
vacate_above i s past = ap (λ b. store_of (cond b (set s.slots i None) s.slots) s.used) (le-ltb i s.used past)

pub vacate_same : {R : Type 0} (i : ℕ) (s : Store R) → at i (vacate i s) ≡ None
vacate_same i s =
    elim (cases_lt i s.used) [
      | inl u ↦ ap (at i) (vacate_below i s u) ∙ (at_below i (write None i s) u ∙ emptied_slot i s.slots)
      | inr past ↦ ap (at i) (vacate_above i s past) ∙ at_above i s past
    ]

pub vacate_other : {R : Type 0} (i k : ℕ) (s : Store R) → k ≢ i → at k (vacate i s) ≡ at k s
vacate_other i k s ne =
    elim (cases_lt i s.used) [
      | inl u ↦ ap (at k) (vacate_below i s u) ∙ write_other None i k s ne
      | inr past ↦ ap (at k) (vacate_above i s past)
    ]

none_count : {R : Type 0} (i : ℕ) (s : Store R) → i < s.used → length s.slots ≤ i → occupied_in (write None i s) + one (at i s) ≡ occupied_in s
none_count i s u past =
    let a = ap one (at_below i s u ∙ get_or_past s.slots i None past) in
    let b = ap (λ room. occupied_in (store_of room s.used)) (set_past s.slots i None past) in
    omega (arith, a, b)

pub vacate_count : {R : Type 0} (i : ℕ) (s : Store R) → occupied_in (vacate i s) + one (at i s) ≡ occupied_in s
vacate_count {R} i s =
    elim (cases_lt i s.used) [
      | inl u ↦
          let v = ap occupied_in (vacate_below i s u) in
          elim (cases_lt i (length s.slots)) [
            | inl l ↦ let w = write_count {R = R} None i s u l in omega (arith, w, v)
            | inr past ↦ let w = none_count i s u past in omega (arith, w, v)
          ]
      | inr past ↦ omega (arith, ap occupied_in (vacate_above i s past), ap one (at_above i s past))
    ]

pub none_is : {R : Type 0} (o : Option R) → is_some o ≡ false → o ≡ None
none_is None e = refl
none_is (Some x) e = cc
