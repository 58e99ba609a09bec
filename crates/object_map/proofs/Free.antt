-- The first free place, as a search from the start comes to it.
use Rattle.std.proofs.Common.{◌≡◌, ℕ, ◌-◌, ◌<◌, ◌≤◌, true, false, length, get_or, take, is_some, None, sym, ap, ◌∙◌, inl, inr, arith}
use Rattle.std.proofs.lemmas.List.{get_or-take, get_or_past, length-take}
use Rattle.std.proofs.lemmas.List.Sums.{prefix_len_is, prefix_len_passes, prefix_len_stops, prefix_len-le-length}
use Rattle.std.proofs.lemmas.Bool.{cases_lt}
use Rattle.std.proofs.lemmas.Bool.Decides.{nat_tests}
use Rattle.object_map.specs.Store.{Store, at, first_free}
use Rattle.object_map.proofs.Stores.{at_below, at_above, none_is}

-- a place that holds a record is in use, and one of the room's
pub held_within : {R : Type 0} (i : ℕ) (s : Store R) → is_some (at i s) ≡ true → (i < s.used) × (i < length s.slots)
held_within i s e = grind (arith, nat_tests, get_or_past)

-- a place among those in use
slot_at : {R : Type 0} (i : ℕ) (s : Store R) → i < s.used → at i s ≡ get_or (take s.used s.slots) i None
slot_at i s u = at_below i s u ∙ sym (get_or-take s.used s.slots i None u)

-- the search ends at the first free place: all below it hold records, and it holds none
pub first_free_is : {R : Type 0} (i : ℕ) (s : Store R) → ((k : ℕ) → k < i → is_some (at k s) ≡ true) → is_some (at i s) ≡ false → first_free s ≡ i
first_free_is i s below none =
    let n = length-take s.used s.slots in
    let within : i ≤ length (take s.used s.slots) =
    elim (cases_lt 0 i) [
      | inl some ↦ let w = held_within (i - 1) s (below (i - 1) (omega arith)) in omega arith
      | inr start ↦ omega arith
    ] in
    prefix_len_is is_some (take s.used s.slots) i None within (λ k h. ap is_some (sym (slot_at k s (omega arith))) ∙ below k h) (λ h. ap is_some (sym (slot_at i s (omega arith))) ∙ none)

-- the first free place is in use and empty or the next one, and all below it are occupied
pub free_le : {R : Type 0} (s : Store R) → first_free s ≤ s.used
free_le s = omega (arith, prefix_len-le-length is_some (take s.used s.slots), length-take s.used s.slots)

pub free_below : {R : Type 0} (k : ℕ) (s : Store R) → k < first_free s → is_some (at k s) ≡ true
free_below k s h =
    let u = free_le s in
    ap is_some (slot_at k s (omega arith)) ∙ prefix_len_passes is_some (take s.used s.slots) k None h

pub free_empty : {R : Type 0} (s : Store R) → at (first_free s) s ≡ None
free_empty s =
    let n = length-take s.used s.slots in
    elim (cases_lt (first_free s) s.used) [
      | inl u ↦ elim (cases_lt (first_free s) (length s.slots)) [
        | inl l ↦ slot_at (first_free s) s u ∙ none_is _ (prefix_len_stops is_some (take s.used s.slots) None (omega arith))
        | inr past ↦ at_below (first_free s) s u ∙ get_or_past s.slots (first_free s) None past
      ]
      | inr past ↦ at_above (first_free s) s past
    ]
