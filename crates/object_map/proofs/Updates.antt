-- An update by a function that is known only at the record that is found.
use Rattle.std.proofs.Common.{◌≡◌, ℕ, true, false, Some, None, Ok, Err, Option, Result, sym, refl, ap, subst, ◌∙◌, inl, inr}
use Rattle.std.proofs.lemmas.Bool.{cases_Bool, cond-true, cond-false}
use Rattle.object_map.specs.Map.{Map, with_client, with_server, fits, at_place, lookup, finding, lent, in_client, in_server, update_at, updating}
use Rattle.object_map.specs.Number.{place}
use Rattle.object_map.specs.Runs.{update_call, UpdatesWith, UpdatesBy}
use Rattle.object_map.specs.Store.{Store, rewrite_slot, at, rewrite, RewritesSlot, RewritesBy}
use Rattle.object_map.specs.declared.number.Place.{Place}
use Rattle.object_map.specs.declared.number.Place.TheVariants.{Client, Server}
use Rattle.object_map.specs.declared.refusal.Refusal.{Refusal}
use Rattle.object_map.specs.declared.refusal.Refusal.TheVariants.{Vacant, Rooms}
use Rattle.object_map.proofs.Calls.{updates}
use Rattle.object_map.proofs.Runs.{stands}

-- a record is found where the rooms fit, at the number's place
found : {R : Type 0} (n : ℕ) (p : Option Place) (m : Map R) (r : R) → place n ≡ p → finding n m ≡ Ok (Some r) → (fits m ≡ true) × (at_place p m ≡ Some r)
found n p m r at_n e =
    elim (cases_Bool (fits m)) [
      | inl fit ↦ (fit, ap (λ p. at_place p m) (sym at_n) ∙ cc (cond-true (fits m) (Ok (lookup n m)) (Err Rooms) fit, e))
      | inr none ↦ absurd (cc (cond-false (fits m) (Ok (lookup n m)) (Err Rooms) none, e))
    ]

-- functions that agree at the record found update alike
same_slot : {R : Type 0} (f g : R → R) (o : Option R) (i : ℕ) (s : Store R) → ((r : R) → o ≡ Some r → f r ≡ g r) → rewrite_slot f o i s ≡ rewrite_slot g o i s
same_slot f g None i s agree = refl
same_slot f g (Some r) i s agree = rw (agree r refl)

same_place : {R : Type 0} (f g : R → R) (p : Option Place) (m : Map R) → ((r : R) → at_place p m ≡ Some r → f r ≡ g r) → update_at f p m ≡ update_at g p m
same_place f g None m agree = refl
same_place f g (Some (Client i)) m agree = ap (in_client m) (same_slot f g (at i m.client) i m.client agree)
same_place f g (Some (Server i)) m agree = ap (in_server m) (same_slot f g (at i m.server) i m.server agree)

pub same_update : {R : Type 0} (f g : R → R) (n : ℕ) (m : Map R) → ((r : R) → finding n m ≡ Ok (Some r) → f r ≡ g r) → updating f n m ≡ updating g n m
same_update f g n m agree =
    elim (cases_Bool (fits m)) [
      | inl fit ↦ rw fit (same_place f g (place n) m (λ r e. agree r (rw fit (ap Ok e))))
      | inr none ↦ rw none
    ]

pub updates_with : {R : Type 0} (f : R → R) (n : ℕ) (m m' : Map R) (a : Result (Unit {0}) Refusal) → (a, m') ≡ updating f n m → UpdatesWith f n m a m'
updates_with f n m m' a e = record { defined = e; changes = updates f n m m' a e; stands = stands (update_call f n) m m' (ap (λ d. d.1) e) }

-- so a caller learns what its own function makes of the map, where the call gives what that function gives
pub updates_known : {R : Type 0} {may_give : R → R → Type 0} {n : ℕ} {m m' : Map R} {a : Result (Unit {0}) Refusal} (g : R → R) → ((r r' : R) → finding n m ≡ Ok (Some r) → may_give r r' → r' ≡ g r) → UpdatesBy may_give n m a m' → UpdatesWith g n m a m'
updates_known {R} {may_give} {n} {m} {m'} {a} g agree by =
    updates_with g n m m' a (by.updates.defined ∙ same_update by.f g n m (λ r e. agree r (by.f r) e (by.follows r e)))

-- a call at a place is an update by a function
at_slot : {R : Type 0} (may_give : R → R → Type 0) (o : Option R) (i : ℕ) (s : Store R) (a : Result (Unit {0}) Refusal) (s' : Store R) → at i s ≡ o → RewritesSlot may_give o i s a s' → (f : R → R) × ((r : R) → at i s ≡ Some r → may_give r (f r)) × (◌≡◌ {A = Result (Unit {0}) Refusal × Store R} (a, s') (rewrite f i s))
at_slot may_give None i s a s' e by = (λ r. r, λ r h. absurd (cc (e, h)), rw (e, by.0, by.1))
at_slot {R} may_give (Some x) i s a s' e by =
    let P : R → Type 0 = λ r. may_give r by.0 in
    (λ _. by.0, λ r h. subst P (cc (e, h)) by.1, rw (e, by.2, by.3))

-- the exits of update
pub refused_by : {R : Type 0} {may_give : R → R → Type 0} (n : ℕ) (m : Map R) (a : Result (Unit {0}) Refusal) → fits m ≡ false → a ≡ lent m → UpdatesBy may_give n m a m
refused_by n m a unfit e = record {
  f = λ r. r;
  follows = λ r h. absurd (cc (unfit, (found n (place n) m r refl h).0));
  updates = updates_with (λ r. r) n m m a (rw unfit (ap (λ x. (x, m)) (e ∙ cond-false (fits m) (Ok (tt {0})) (Err Rooms) unfit)));
}

pub nowhere_by : {R : Type 0} {may_give : R → R → Type 0} (n : ℕ) (m : Map R) → fits m ≡ true → place n ≡ None → UpdatesBy may_give n m (Err Vacant) m
nowhere_by n m fit none = record {
  f = λ r. r;
  follows = λ r h. absurd (cc (found n None m r none h).1);
  updates = updates_with (λ r. r) n m m (Err Vacant) (rw (fit, none));
}

pub client_by : {R : Type 0} {may_give : R → R → Type 0} (n i : ℕ) (m : Map R) (a : Result (Unit {0}) Refusal) (s : Store R) → fits m ≡ true → place n ≡ Some (Client i) → RewritesBy may_give i m.client a s → UpdatesBy may_give n m a (with_client m s)
client_by {R} {may_give} n i m a s fit at_n by =
    let w = at_slot may_give (at i m.client) i m.client a s refl by in
    record {
      f = w.0;
      follows = λ r h. w.1 r (found n (Some (Client i)) m r at_n h).1;
      updates = updates_with w.0 n m (with_client m s) a (rw (fit, at_n) (ap (in_client m) w.2));
    }

pub server_by : {R : Type 0} {may_give : R → R → Type 0} (n i : ℕ) (m : Map R) (a : Result (Unit {0}) Refusal) (s : Store R) → fits m ≡ true → place n ≡ Some (Server i) → RewritesBy may_give i m.server a s → UpdatesBy may_give n m a (with_server m s)
server_by {R} {may_give} n i m a s fit at_n by =
    let w = at_slot may_give (at i m.server) i m.server a s refl by in
    record {
      f = w.0;
      follows = λ r h. w.1 r (found n (Some (Server i)) m r at_n h).1;
      updates = updates_with w.0 n m (with_server m s) a (rw (fit, at_n) (ap (in_server m) w.2));
    }
