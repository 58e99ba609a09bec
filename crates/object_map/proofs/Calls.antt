-- What each call does to a map, by number: the definitions of the calls come to the laws.
use Rattle.std.proofs.Common.{◌≡◌, ℕ, ◌+◌, ◌-◌, ◌^◌, ◌<◌, ◌≤◌, true, eqb, ltb, ◌≢◌, ◌⊎◌, length, is_some, Some, None, Ok, Err, Option, Result, sym, refl, ap, ◌∙◌, subst, inl, inr, arith}
use Rattle.std.proofs.lemmas.Bool.{cases_lt, cases_Bool, lt-ltb, le-ltb, cond-true, cond-false, eqb-true, and_parts}
use Rattle.object_map.specs.Laws.{occupied, occupied_in, Others, Put, Emptied, Changed, Smallest, Inserts, InsertsNew, Removes, Updates}
use Rattle.object_map.specs.Map.{Map, with_client, with_server, fits, at_place, lookup, guarded, remove_at, removing, insert_at, inserting_at, insert_new, inserting_new, update_at, updating}
use Rattle.object_map.specs.Number.{place}
use Rattle.object_map.specs.Store.{Store, at, fill, vacate, insert, first_free, insert_free, rewrite, rewrite_slot}
use Rattle.object_map.specs.declared.number.Place.{Place}
use Rattle.object_map.specs.declared.number.Place.TheVariants.{Client, Server}
use Rattle.object_map.specs.declared.refusal.Refusal.{Refusal}
use Rattle.object_map.specs.declared.refusal.Refusal.TheVariants.{Vacant, ClientFull, Rooms, Gap, Occupied, NoSlot}
use Rattle.object_map.proofs.Free.{held_within, free_le, free_empty, free_below}
use Rattle.object_map.proofs.Places.{place_apart, client_place}
use Rattle.object_map.proofs.Stores.{one, write, write_same, write_other, write_count, fill_same, fill_other, fill_count, vacate_same, vacate_other, vacate_count, none_is}

-- the number n lies at i in a store s of m, which is s' in m'
pub record Focus {R : Type 0} (n i : ℕ) (m m' : Map R) (s s' : Store R) : Type 0 where
  pub before : lookup n m ≡ at i s
  pub later : lookup n m' ≡ at i s'
  pub apart : ((j : ℕ) → j ≢ i → at j s' ≡ at j s) → Others n m m'
  pub counts : occupied m' + occupied_in s ≡ occupied m + occupied_in s'

client_apart : {R : Type 0} (i : ℕ) (m : Map R) (s : Store R) → ((j : ℕ) → j ≢ i → at j s ≡ at j m.client) → (q : Option Place) → q ≢ Some (Client i) → at_place q (with_client m s) ≡ at_place q m
client_apart i m s same None ne = refl
client_apart i m s same (Some (Client j)) ne = same j (λ e. ne (ap (λ x. Some (Client x)) e))
client_apart i m s same (Some (Server j)) ne = refl

server_apart : {R : Type 0} (i : ℕ) (m : Map R) (s : Store R) → ((j : ℕ) → j ≢ i → at j s ≡ at j m.server) → (q : Option Place) → q ≢ Some (Server i) → at_place q (with_server m s) ≡ at_place q m
server_apart i m s same None ne = refl
server_apart i m s same (Some (Client j)) ne = refl
server_apart i m s same (Some (Server j)) ne = same j (λ e. ne (ap (λ x. Some (Server x)) e))

pub focus_client : {R : Type 0} (n i : ℕ) (m : Map R) (s : Store R) → place n ≡ Some (Client i) → Focus n i m (with_client m s) m.client s
focus_client n i m s e = record {
  before = ap (λ p. at_place p m) e;
  later = ap (λ p. at_place p (with_client m s)) e;
  apart = λ same k ne. client_apart i m s same (place k) (λ h. place_apart k n ne (h ∙ sym e));
  counts = omega arith;
}

pub focus_server : {R : Type 0} (n i : ℕ) (m : Map R) (s : Store R) → place n ≡ Some (Server i) → Focus n i m (with_server m s) m.server s
focus_server n i m s e = record {
  before = ap (λ p. at_place p m) e;
  later = ap (λ p. at_place p (with_server m s)) e;
  apart = λ same k ne. server_apart i m s same (place k) (λ h. place_apart k n ne (h ∙ sym e));
  counts = omega arith;
}

-- a record put at an empty place in use or at the next one
pub filled : {R : Type 0} (n i : ℕ) (r : R) (m m' : Map R) (s : Store R) → Focus n i m m' s (fill r i s) → i ≤ s.used → i < length s.slots → at i s ≡ None → Put n r m m'
filled n i r m m' s f le l e = record {
  empty = f.before ∙ e;
  found = f.later ∙ fill_same r i s l;
  others = f.apart (λ j ne. fill_other r i j s le ne);
  one_more = omega (arith, f.counts, fill_count r i s le l e);
}

pub vacated : {R : Type 0} (n i : ℕ) (m m' : Map R) (s : Store R) → Focus n i m m' s (vacate i s) → Emptied n m m'
vacated n i m m' s f = record {
  gone = f.later ∙ vacate_same i s;
  others = f.apart (λ j ne. vacate_other i j s ne);
  one_less = rw f.before (omega (arith, f.counts, vacate_count i s));
}

pub rewritten : {R : Type 0} (f : R → R) (n i : ℕ) (x : R) (m m' : Map R) (s : Store R) → Focus n i m m' s (write (Some (f x)) i s) → i < s.used → i < length s.slots → at i s ≡ Some x → Changed f n m m'
rewritten {R} f n i x m m' s foc u l e =
    let b : lookup n m ≡ Some x = foc.before ∙ e in
    let w : occupied_in (write (Some (f x)) i s) + one (at i s) ≡ occupied_in s + 1 = write_count (Some (f x)) i s u l in
    let w' : occupied_in (write (Some (f x)) i s) + one (Some x) ≡ occupied_in s + 1 = rw e at w in
    record {
      there = rw b;
      changed = rw b (foc.later ∙ write_same (Some (f x)) i s u l);
      others = foc.apart (λ j ne. write_other (Some (f x)) i j s ne);
      as_many = omega (arith, foc.counts, w');
    }

-- an insertion at a place: accepted with all that it asks, or refused with the store as it was
pub insert_cases : {R : Type 0} (r : R) (i : ℕ) (s : Store R) → ((insert r i s ≡ (Ok tt, fill r i s)) × (i ≤ s.used) × (i < length s.slots) × (at i s ≡ None)) ⊎ ((e : Refusal) × (insert r i s ≡ (Err e, s)))
insert_cases r i s =
    elim (cases_lt s.used i) [
      | inl gap ↦ inr (Gap, rw (lt-ltb s.used i gap))
      | inr le ↦ elim (cases_lt i (length s.slots)) [
        | inl l ↦ elim (cases_Bool (is_some (at i s))) [
          | inl some ↦ inr (Occupied, rw (le-ltb s.used i le, lt-ltb i (length s.slots) l, some))
          | inr none ↦ inl (rw (le-ltb s.used i le, lt-ltb i (length s.slots) l, none), le, l, none_is (at i s) none)
        ]
        | inr past ↦ inr (NoSlot, rw (le-ltb s.used i le, le-ltb i (length s.slots) past))
      ]
    ]

-- a change at a place: of a record that is there, or refused with the store as it was
rewrite_cases : {R : Type 0} (f : R → R) (i : ℕ) (s : Store R) (o : Option R) → at i s ≡ o → ((x : R) × (at i s ≡ Some x) × (rewrite f i s ≡ (Ok tt, write (Some (f x)) i s))) ⊎ ((at i s ≡ None) × (rewrite f i s ≡ (Err Vacant, s)))
rewrite_cases f i s None e = inr (e, ap (λ o. rewrite_slot f o i s) e)
rewrite_cases f i s (Some x) e = inl (x, e, ap (λ o. rewrite_slot f o i s) e)

-- the three laws in one of the two stores: `into` puts the store into the map
inserted_in : {R : Type 0} (n i : ℕ) (r : R) (m : Map R) (s : Store R) (into : Store R → Map R) → ((s' : Store R) → Focus n i m (into s') s s') → into s ≡ m → Inserts n r m (insert r i s).0 (into (insert r i s).1)
inserted_in {R} n i r m s into focus same =
    let P : Result (Unit {0}) Refusal × Store R → Type 0 = λ d. Inserts n r m d.0 (into d.1) in
    elim (insert_cases r i s) [
      | inl c ↦ subst P (sym c.0) (filled n i r m (into (fill r i s)) s (focus (fill r i s)) c.1 c.2 c.3)
      | inr c ↦ subst P (sym c.1) same
    ]

updated_in : {R : Type 0} (f : R → R) (n i : ℕ) (m : Map R) (s : Store R) (into : Store R → Map R) → ((s' : Store R) → Focus n i m (into s') s s') → into s ≡ m → Updates f n m (rewrite f i s).0 (into (rewrite f i s).1)
updated_in {R} f n i m s into focus same =
    let P : Result (Unit {0}) Refusal × Store R → Type 0 = λ d. Updates f n m d.0 (into d.1) in
    elim (rewrite_cases f i s (at i s) refl) [
      | inl c ↦
          let x = c.0 in
          let w = held_within i s (ap is_some c.1) in
          subst P (sym c.2) (rewritten f n i x m (into (write (Some (f x)) i s)) s (focus (write (Some (f x)) i s)) w.0 w.1 c.1)
      | inr c ↦ subst P (sym c.1) (same, λ _. (focus s).before ∙ c.0)
    ]

-- the laws at a place
insert_place : {R : Type 0} (n : ℕ) (p : Option Place) (r : R) (m : Map R) → place n ≡ p → Inserts n r m (insert_at p r m).0 (insert_at p r m).1
insert_place n None r m e = refl
insert_place n (Some (Client i)) r m e = inserted_in n i r m m.client (with_client m) (λ s. focus_client n i m s e) refl
insert_place n (Some (Server i)) r m e = inserted_in n i r m m.server (with_server m) (λ s. focus_server n i m s e) refl

update_place : {R : Type 0} (f : R → R) (n : ℕ) (p : Option Place) (m : Map R) → place n ≡ p → Updates f n m (update_at f p m).0 (update_at f p m).1
update_place f n None m e = (refl, λ _. ap (λ p. at_place p m) e)
update_place f n (Some (Client i)) m e = updated_in f n i m m.client (with_client m) (λ s. focus_client n i m s e) refl
update_place f n (Some (Server i)) m e = updated_in f n i m m.server (with_server m) (λ s. focus_server n i m s e) refl

nothing_there : {R : Type 0} (n : ℕ) (m : Map R) → place n ≡ None → Emptied n m m
nothing_there n m e =
    let l : lookup n m ≡ None = ap (λ p. at_place p m) e in
    record { gone = l; others = λ k ne. refl; one_less = omega (arith, ap one l) }

remove_place : {R : Type 0} (n : ℕ) (p : Option Place) (m : Map R) → place n ≡ p → Emptied n m (remove_at p m)
remove_place n None m e = nothing_there n m e
remove_place n (Some (Client i)) m e = vacated n i m (with_client m (vacate i m.client)) m.client (focus_client n i m (vacate i m.client) e)
remove_place n (Some (Server i)) m e = vacated n i m (with_server m (vacate i m.server)) m.server (focus_server n i m (vacate i m.server) e)

-- a call is refused where the rooms do not fit, and does its work where they do
pub by_fit : {R T : Type 0} (m : Map R) (after : Result T Refusal × Map R) (P : Result T Refusal → Map R → Type 0) → (fits m ≡ true → P after.0 after.1) → P (Err Rooms) m → P (guarded m after).0 (guarded m after).1
by_fit {R} {T} m after P fit refused =
    let Q : Result T Refusal × Map R → Type 0 = λ d. P d.0 d.1 in
    elim (cases_Bool (fits m)) [
      | inl e ↦ subst Q (sym (cond-true (fits m) after (Err Rooms, m) e)) (fit e)
      | inr e ↦ subst Q (sym (cond-false (fits m) after (Err Rooms, m) e)) refused
    ]

insert_law : {R : Type 0} (n : ℕ) (r : R) (m : Map R) → Inserts n r m (inserting_at n r m).0 (inserting_at n r m).1
insert_law n r m = by_fit m (insert_at (place n) r m) (Inserts n r m) (λ _. insert_place n (place n) r m refl) refl

update_law : {R : Type 0} (f : R → R) (n : ℕ) (m : Map R) → Updates f n m (updating f n m).0 (updating f n m).1
update_law f n m = by_fit m (update_at f (place n) m) (Updates f n m) (λ _. update_place f n (place n) m refl) (refl, λ e. absurd (cc e))

remove_law : {R : Type 0} (n : ℕ) (m : Map R) → Removes n m (removing n m).0 (removing n m).1
remove_law n m = by_fit m (Ok tt, remove_at (place n) m) (Removes n m) (λ _. remove_place n (place n) m refl) refl

-- the smallest free number
fit_client : {R : Type 0} (m : Map R) → fits m ≡ true → length m.client.slots ≡ m.client_places
fit_client m e = eqb-true _ _ (and_parts (eqb (length m.client.slots) m.client_places) (eqb (length m.server.slots) m.server_places) e).0

smaller : {R : Type 0} (n : ℕ) (m : Map R) → n ≤ first_free m.client + 1 → n ≤ 2 ^ 16 → Smallest n m
smaller n m le few k one_up lt =
    let e : place k ≡ Some (Client (k - 1)) = let p = client_place (k - 1) (omega arith) in let q : k - 1 + 1 ≡ k = omega arith in rw q at p in
    ap (λ p. is_some (at_place p m)) e ∙ free_below (k - 1) m.client (omega arith)

new_in : {R : Type 0} (r : R) (m : Map R) → fits m ≡ true → m.client_places < 2 ^ 16 → InsertsNew r m (insert_new m (insert_free r m.client)).0 (insert_new m (insert_free r m.client)).1
new_in {R} r m fit few =
    let s = m.client in
    let f = first_free s in
    let P : Result ℕ Refusal × Store R → Type 0 = λ d. InsertsNew r m (insert_new m d).0 (insert_new m d).1 in
    let len = fit_client m fit in
    elim (cases_lt f (length s.slots)) [
      | inl l ↦
          subst P (sym (cond-true (ltb f (length s.slots)) (Ok f, fill r f s) (Err ClientFull, s) (lt-ltb f (length s.slots) l)))
          (filled (f + 1) f r m (with_client m (fill r f s)) s (focus_client (f + 1) f m (fill r f s) (client_place f (omega arith))) (free_le s) l (free_empty s), omega arith, omega arith, smaller (f + 1) m (omega arith) (omega arith))
      | inr past ↦
          subst P (sym (cond-false (ltb f (length s.slots)) (Ok f, fill r f s) (Err ClientFull, s) (le-ltb f (length s.slots) past)))
          (refl, λ _. smaller (m.client_places + 1) m (omega arith) (omega arith))
    ]

insert_new_law : {R : Type 0} (r : R) (m : Map R) → m.client_places < 2 ^ 16 → InsertsNew r m (inserting_new r m).0 (inserting_new r m).1
insert_new_law r m few = by_fit m (insert_new m (insert_free r m.client)) (InsertsNew r m) (λ fit. new_in r m fit few) (refl, λ e. absurd (cc e))

-- the same of what a call answered and left
pub inserts : {R : Type 0} (n : ℕ) (r : R) (m m' : Map R) (a : Result (Unit {0}) Refusal) → (a, m') ≡ inserting_at n r m → Inserts n r m a m'
inserts {R} n r m m' a e = let P : Result (Unit {0}) Refusal × Map R → Type 0 = λ d. Inserts n r m d.0 d.1 in subst P (sym e) (insert_law n r m)

pub inserts_new : {R : Type 0} (r : R) (m m' : Map R) (a : Result ℕ Refusal) → m.client_places < 2 ^ 16 → (a, m') ≡ inserting_new r m → InsertsNew r m a m'
inserts_new {R} r m m' a few e = let P : Result ℕ Refusal × Map R → Type 0 = λ d. InsertsNew r m d.0 d.1 in subst P (sym e) (insert_new_law r m few)

pub removes : {R : Type 0} (n : ℕ) (m m' : Map R) (a : Result (Unit {0}) Refusal) → (a, m') ≡ removing n m → Removes n m a m'
removes {R} n m m' a e = let P : Result (Unit {0}) Refusal × Map R → Type 0 = λ d. Removes n m d.0 d.1 in subst P (sym e) (remove_law n m)

pub updates : {R : Type 0} (f : R → R) (n : ℕ) (m m' : Map R) (a : Result (Unit {0}) Refusal) → (a, m') ≡ updating f n m → Updates f n m a m'
updates {R} f n m m' a e = let P : Result (Unit {0}) Refusal × Map R → Type 0 = λ d. Updates f n m d.0 d.1 in subst P (sym e) (update_law f n m)
