-- A store: one range's room of slots, and how many of its places have been in use.
use Rattle.std.specs.Prelude.{◌≡◌, ℕ, ◌+◌, max, cond, List, map, length, take, is_some, Some, None, Ok, Err, Option, Result, nat_lt, slice_index_or, slice_set}
use Rattle.std.specs.List.{prefix_len}
use Rattle.object_map.specs.declared.refusal.Refusal.{Refusal}
use Rattle.object_map.specs.declared.refusal.Refusal.TheVariants.{Vacant, ClientFull, Occupied, Gap, NoSlot}

-- the slots, and the length: the places from the start that have been in use
pub record Store (R : Type 0) : Type 0 where
  pub slots : List (Option R)
  pub used : ℕ

-- the store that a room and a length make
abbrev pub store_of : {R : Type 0} → List (Option R) → ℕ → Store R
store_of room n = record { slots = room; used = n }

-- every slot empty
abbrev pub emptied : {R : Type 0} → List (Option R) → List (Option R)
emptied room = map (λ _. None) room

-- the record at a place; a place that has never been in use has none
abbrev pub at : {R : Type 0} → ℕ → Store R → Option R
at i s = cond (nat_lt i s.used) (slice_index_or s.slots i None) None

-- a place in use made empty
abbrev pub vacate : {R : Type 0} → ℕ → Store R → Store R
vacate i s = store_of (cond (nat_lt i s.used) (slice_set s.slots i None) s.slots) s.used

-- a record put at a place, which has then been in use
abbrev pub fill : {R : Type 0} → R → ℕ → Store R → Store R
fill r i s = store_of (slice_set s.slots i (Some r)) (max s.used (i + 1))

-- a record goes to an empty place in use or to the next one, if the room has it
abbrev pub insert : {R : Type 0} → R → ℕ → Store R → Result (Unit {0}) Refusal × Store R
insert r i s =
    cond (nat_lt s.used i) (Err Gap, s)
    (cond (nat_lt i (length s.slots)) (cond (is_some (at i s)) (Err Occupied, s) (Ok tt, fill r i s)) (Err NoSlot, s))

-- the first empty place in use, else the next one: as many places as are occupied from the start
abbrev pub first_free : {R : Type 0} → Store R → ℕ
first_free s = prefix_len is_some (take s.used s.slots)

-- a record goes to the first free place, if the room has it
abbrev pub insert_free : {R : Type 0} → R → Store R → Result ℕ Refusal × Store R
insert_free r s = cond (nat_lt (first_free s) (length s.slots)) (Ok (first_free s), fill r (first_free s) s) (Err ClientFull, s)

-- the record at a place changed, by what the slot holds
abbrev pub rewrite_slot : {R : Type 0} → (R → R) → Option R → ℕ → Store R → Result (Unit {0}) Refusal × Store R
rewrite_slot f None i s = (Err Vacant, s)
rewrite_slot f (Some r) i s = (Ok tt, store_of (slice_set s.slots i (Some (f r))) s.used)

-- the record at a place changed, where there is one
abbrev pub rewrite : {R : Type 0} → (R → R) → ℕ → Store R → Result (Unit {0}) Refusal × Store R
rewrite f i s = rewrite_slot f (at i s) i s

-- what a call that may give r' for r leaves and answers, by what the slot holds
abbrev pub RewritesSlot : {R : Type 0} → (R → R → Type 0) → Option R → ℕ → Store R → Result (Unit {0}) Refusal → Store R → Type 0
RewritesSlot may_give None i s answer s' = (answer ≡ Err Vacant) × (s' ≡ s)
RewritesSlot may_give (Some r) i s answer s' = (r' : _) × may_give r r' × (answer ≡ Ok tt) × (s' ≡ store_of (slice_set s.slots i (Some r')) s.used)

-- the record at a place changed by a call, where there is one
abbrev pub RewritesBy : {R : Type 0} → (R → R → Type 0) → ℕ → Store R → Result (Unit {0}) Refusal → Store R → Type 0
RewritesBy may_give i s answer s' = RewritesSlot may_give (at i s) i s answer s'
