-- Ledgers: who is at a number, and what changes, ends and births do.
use Rattle.std.proofs.Common.{◌≡◌, ℕ, ◌+◌, ◌<◌, ◌≤◌, Bool, true, false, cond, not, ◌&&◌, eqb, [], ◌∷◌, length, is_some, Some, None, Option, sym, refl, ap, ◌∙◌, subst, arith}
use Rattle.std.proofs.lemmas.Bool.Decides.{nat_tests}
use Rattle.std.proofs.lemmas.Bool.{cond-true, cond-false, eq-eqb, ne_eqb}
use Rattle.std.proofs.lemmas.List.{length-map}
use Rattle.std.specs.Option.{option_map}
use Rattle.object_map.specs.Runs.{member}
use Rattle.protocol.specs.declared.id.ObjectId.{ObjectId}
use Rattle.client.specs.Ledger.{Tenancy, Ledger, lives_at, tenant_in, holder, tenancy, lasts, overs, numbers, amended, amend, concluded, conclude}
use Rattle.client.specs.State.{handle_of, bearing, resolved}
use Rattle.client.specs.declared.object.Object.{Object}

-- the handle of a tenancy
abbrev pub named : Tenancy → ObjectId
named t = handle_of t.number t.object

-- the handle of the k-th tenancy
abbrev pub name_of : ℕ → Ledger → Option ObjectId
name_of k [] = None
name_of k (t ∷ l) = cond (eqb k (length l)) (Some (named t)) (name_of k l)

-- no two last at one number
abbrev pub Unique : Ledger → Type 0
Unique [] = Unit {0}
Unique (t ∷ l) = (t.over ≡ false → tenant_in l t.number ≡ None) × Unique l

-- serials fall from birth to birth
abbrev pub Descends : ℕ → Ledger → Type 0
Descends b [] = Unit {0}
Descends b (t ∷ l) = (t.object.serial < b) × Descends t.object.serial l

-- a handle that was given is its tenancy's; null alone is for none
abbrev pub GivenOk : Ledger → ObjectId → Option ℕ → Type 0
GivenOk l x None = x.number ≡ 0
GivenOk l x (Some k) = name_of k l ≡ Some x

-- a change that keeps serial and interface
abbrev pub Keeps : (Object → Object) → Type 0
Keeps f = (o : Object) → ((f o).serial ≡ o.serial) × ((f o).interface ≡ o.interface)

-- after a change
pub amend_same : (f : Object → Object) (n : ℕ) (l : Ledger) → tenant_in (amend f n l) n ≡ option_map f (tenant_in l n)
amend_same f n [] = refl
amend_same f n (t ∷ l) = let ih = amend_same f n l in elim (lives_at n t) as (λ b. cond b (Some (cond b (f t.object) t.object)) (tenant_in (amend f n l) n) ≡ option_map f (cond b (Some t.object) (tenant_in l n))) [ true ↦ refl | false ↦ ih ]

pub amend_other : (f : Object → Object) (n k : ℕ) (l : Ledger) → (k ≡ n → ⊥) → tenant_in (amend f n l) k ≡ tenant_in l k
amend_other f n k [] ne = refl
amend_other f n k (t ∷ l) ne = let ih = amend_other f n k l ne in grind (arith, nat_tests)

amend_none : (f : Object → Object) (n k : ℕ) (l : Ledger) → tenant_in l k ≡ None → tenant_in (amend f n l) k ≡ None
amend_none f n k [] e = refl
amend_none f n k (t ∷ l) e = let ih = amend_none f n k l in grind (arith, nat_tests)

pub amend_unique : (f : Object → Object) (n : ℕ) (l : Ledger) → Unique l → Unique (amend f n l)
amend_unique f n [] u = tt
amend_unique f n (t ∷ l) u = (λ o. amend_none f n t.number l (u.0 o), amend_unique f n l u.1)

pub amend_overs : (f : Object → Object) (n : ℕ) (l : Ledger) → overs (amend f n l) ≡ overs l
amend_overs f n [] = refl
amend_overs f n (t ∷ l) = ap (λ x. cond t.over 1 0 + x) (amend_overs f n l)

pub amend_numbers : (f : Object → Object) (n : ℕ) (l : Ledger) → numbers (amend f n l) ≡ numbers l
amend_numbers f n [] = refl
amend_numbers f n (t ∷ l) = ap (λ x. t.number ∷ x) (amend_numbers f n l)

pub amend_length : (f : Object → Object) (n : ℕ) (l : Ledger) → length (amend f n l) ≡ length l
amend_length f n l = length-map l (amended f n)

pub amend_lasts : (f : Object → Object) (n k : ℕ) (l : Ledger) → lasts k (amend f n l) ≡ lasts k l
amend_lasts f n k [] = refl
amend_lasts f n k (t ∷ l) = let ih = amend_lasts f n k l in let s = amend_length f n l in cc

kept_serial : (f : Object → Object) → Keeps f → (n : ℕ) (t : Tenancy) → (amended f n t).object.serial ≡ t.object.serial
kept_serial f q n t = elim (lives_at n t) as (λ b. (cond b (f t.object) t.object).serial ≡ t.object.serial) [ true ↦ (q t.object).0 | false ↦ refl ]

kept_interface : (f : Object → Object) → Keeps f → (n : ℕ) (t : Tenancy) → (amended f n t).object.interface ≡ t.object.interface
kept_interface f q n t = elim (lives_at n t) as (λ b. (cond b (f t.object) t.object).interface ≡ t.object.interface) [ true ↦ (q t.object).1 | false ↦ refl ]

kept_name : (f : Object → Object) → Keeps f → (n : ℕ) (t : Tenancy) → named (amended f n t) ≡ named t
kept_name f q n t = let s = kept_serial f q n t in let i = kept_interface f q n t in cc

pub amend_name : (f : Object → Object) → Keeps f → (n k : ℕ) (l : Ledger) → name_of k (amend f n l) ≡ name_of k l
amend_name f q n k [] = refl
amend_name f q n k (t ∷ l) = let ih = amend_name f q n k l in let s = amend_length f n l in let m = kept_name f q n t in cc

pub amend_given : (f : Object → Object) → Keeps f → (n : ℕ) (l : Ledger) (x : ObjectId) (o : Option ℕ) → GivenOk l x o → GivenOk (amend f n l) x o
amend_given f q n l x None g = g
amend_given f q n l x (Some k) g = amend_name f q n k l ∙ g

pub amend_descends : (f : Object → Object) → Keeps f → (n b : ℕ) (l : Ledger) → Descends b l → Descends b (amend f n l)
amend_descends f q n b [] d = tt
amend_descends f q n b (t ∷ l) d = subst (λ (s : ℕ). (s < b) × Descends s (amend f n l)) (sym (kept_serial f q n t)) (d.0, amend_descends f q n t.object.serial l d.1)

pub amend_tenancy : (f : Object → Object) (n k : ℕ) (l : Ledger) (y : Tenancy) → tenancy k l ≡ Some y → tenancy k (amend f n l) ≡ Some (amended f n y)
amend_tenancy f n k [] y e = let z : ◌≡◌ {A = ℕ} 0 1 = cc in absurd (omega arith)
amend_tenancy f n k (t ∷ l) y e = rw (amend_length f n l) (go (amend_tenancy f n k l y) (eqb k (length l)) e)
  where
    go : (tenancy k l ≡ Some y → tenancy k (amend f n l) ≡ Some (amended f n y)) → (b : Bool) → cond b (Some t) (tenancy k l) ≡ Some y → cond b (Some (amended f n t)) (tenancy k (amend f n l)) ≡ Some (amended f n y)
    go ih true e = let p : t ≡ y = cc in ap (λ (x : Tenancy). Some (amended f n x)) p
    go ih false e = ih e

-- after an end
pub conclude_nobody : (n : ℕ) (l : Ledger) → tenant_in l n ≡ None → conclude n l ≡ l
conclude_nobody n [] e = refl
conclude_nobody n (t ∷ l) e = let ih = conclude_nobody n l in grind (arith, nat_tests)

pub conclude_unmarked : (n : ℕ) (l : Ledger) (o : Object) → Unique l → tenant_in l n ≡ Some o → o.client_destroyed ≡ false → conclude n l ≡ l
conclude_unmarked n [] o u e m = refl
conclude_unmarked n (t ∷ l) o u e m = let ih = conclude_unmarked n l o u.1 in let nb = conclude_nobody n l in let u0 = u.0 in grind (arith, nat_tests)

pub conclude_same : (n : ℕ) (l : Ledger) (o : Object) → Unique l → tenant_in l n ≡ Some o → o.client_destroyed ≡ true → tenant_in (conclude n l) n ≡ None
conclude_same n [] o u e m = refl
conclude_same n (t ∷ l) o u e m = let ih = conclude_same n l o u.1 in let nb = conclude_nobody n l in let u0 = u.0 in grind (arith, nat_tests)

pub conclude_other : (n k : ℕ) (l : Ledger) → (k ≡ n → ⊥) → tenant_in (conclude n l) k ≡ tenant_in l k
conclude_other n k [] ne = refl
conclude_other n k (t ∷ l) ne = let ih = conclude_other n k l ne in grind (arith, nat_tests)

conclude_none : (n k : ℕ) (l : Ledger) → tenant_in l k ≡ None → tenant_in (conclude n l) k ≡ None
conclude_none n k [] e = refl
conclude_none n k (t ∷ l) e = let ih = conclude_none n k l in grind (arith, nat_tests)

still : (b c : Bool) → cond b true c ≡ false → c ≡ false
still true c e = let z : ◌≡◌ {A = ℕ} 0 1 = cc in absurd (omega arith)
still false c e = e

pub conclude_unique : (n : ℕ) (l : Ledger) → Unique l → Unique (conclude n l)
conclude_unique n [] u = tt
conclude_unique n (t ∷ l) u = (λ o. conclude_none n t.number l (u.0 (still (lives_at n t && t.object.client_destroyed) t.over o)), conclude_unique n l u.1)

pub conclude_numbers : (n : ℕ) (l : Ledger) → numbers (conclude n l) ≡ numbers l
conclude_numbers n [] = refl
conclude_numbers n (t ∷ l) = ap (λ x. t.number ∷ x) (conclude_numbers n l)

pub conclude_length : (n : ℕ) (l : Ledger) → length (conclude n l) ≡ length l
conclude_length n l = length-map l (concluded n)

pub conclude_name : (n k : ℕ) (l : Ledger) → name_of k (conclude n l) ≡ name_of k l
conclude_name n k [] = refl
conclude_name n k (t ∷ l) = let ih = conclude_name n k l in let s = conclude_length n l in cc

pub conclude_given : (n : ℕ) (l : Ledger) (x : ObjectId) (o : Option ℕ) → GivenOk l x o → GivenOk (conclude n l) x o
conclude_given n l x None g = g
conclude_given n l x (Some k) g = conclude_name n k l ∙ g

pub conclude_descends : (n b : ℕ) (l : Ledger) → Descends b l → Descends b (conclude n l)
conclude_descends n b [] d = tt
conclude_descends n b (t ∷ l) d = (d.0, conclude_descends n t.object.serial l d.1)

pub conclude_overs : (n : ℕ) (l : Ledger) (o : Object) → Unique l → tenant_in l n ≡ Some o → o.client_destroyed ≡ true → overs (conclude n l) ≡ 1 + overs l
conclude_overs n [] o u e m = let z : ◌≡◌ {A = ℕ} 0 1 = cc in absurd (omega arith)
conclude_overs n (t ∷ l) o u e m = let ih = conclude_overs n l o u.1 in let nb = conclude_nobody n l in let u0 = u.0 in grind (arith, nat_tests)

pub conclude_tenancy : (n k : ℕ) (l : Ledger) (y : Tenancy) → tenancy k l ≡ Some y → tenancy k (conclude n l) ≡ Some (concluded n y)
conclude_tenancy n k [] y e = let z : ◌≡◌ {A = ℕ} 0 1 = cc in absurd (omega arith)
conclude_tenancy n k (t ∷ l) y e = rw (conclude_length n l) (go (conclude_tenancy n k l y) (eqb k (length l)) e)
  where
    go : (tenancy k l ≡ Some y → tenancy k (conclude n l) ≡ Some (concluded n y)) → (b : Bool) → cond b (Some t) (tenancy k l) ≡ Some y → cond b (Some (concluded n t)) (tenancy k (conclude n l)) ≡ Some (concluded n y)
    go ih true e = let p : t ≡ y = cc in ap (λ (x : Tenancy). Some (concluded n x)) p
    go ih false e = ih e

-- one more
name_below : (k : ℕ) (l : Ledger) (x : ObjectId) → name_of k l ≡ Some x → k < length l
name_below k [] x e = let z : ◌≡◌ {A = ℕ} 0 1 = cc in absurd (omega arith)
name_below k (t ∷ l) x e = let ih = name_below k l x in grind (arith, nat_tests)

pub name_more : (k : ℕ) (t : Tenancy) (l : Ledger) (x : ObjectId) → name_of k l ≡ Some x → name_of k (t ∷ l) ≡ Some x
name_more k t l x e = let b = name_below k l x e in cond-false (eqb k (length l)) (Some (named t)) (name_of k l) (ne_eqb k (length l) (λ q. omega arith)) ∙ e

pub given_more : (t : Tenancy) (l : Ledger) (x : ObjectId) (o : Option ℕ) → GivenOk l x o → GivenOk (t ∷ l) x o
given_more t l x None g = g
given_more t l x (Some k) g = name_more k t l x g

pub tenancy_below : (k : ℕ) (l : Ledger) (y : Tenancy) → tenancy k l ≡ Some y → k < length l
tenancy_below k [] y e = let z : ◌≡◌ {A = ℕ} 0 1 = cc in absurd (omega arith)
tenancy_below k (t ∷ l) y e = let ih = tenancy_below k l y in grind (arith, nat_tests)

pub tenancy_more : (k : ℕ) (t : Tenancy) (l : Ledger) (y : Tenancy) → tenancy k l ≡ Some y → tenancy k (t ∷ l) ≡ Some y
tenancy_more k t l y e = let b = tenancy_below k l y e in cond-false (eqb k (length l)) (Some t) (tenancy k l) (ne_eqb k (length l) (λ q. omega arith)) ∙ e

pub descends_up : (b c : ℕ) (l : Ledger) → b ≤ c → Descends b l → Descends c l
descends_up b c [] m d = tt
descends_up b c (t ∷ l) m d = (let d0 = d.0 in omega arith, d.1)

-- who is at a number
pub holds : (n : ℕ) (l : Ledger) (o : Object) → tenant_in l n ≡ Some o → GivenOk l (handle_of n o) (holder n l)
holds n [] o e = let z : ◌≡◌ {A = ℕ} 0 1 = cc in absurd (omega arith)
holds n (t ∷ l) o e = go (holds n l o) (lives_at n t) refl e
  where
    go : (tenant_in l n ≡ Some o → GivenOk l (handle_of n o) (holder n l)) → (b : Bool) → lives_at n t ≡ b → cond b (Some t.object) (tenant_in l n) ≡ Some o → GivenOk (t ∷ l) (handle_of n o) (cond b (Some (length l)) (holder n l))
    go ih true v e = grind (arith, nat_tests)
    go ih false v e = given_more t l (handle_of n o) (holder n l) (ih e)

pub holds_none : (n : ℕ) (l : Ledger) → tenant_in l n ≡ None → holder n l ≡ None
holds_none n [] e = refl
holds_none n (t ∷ l) e = let ih = holds_none n l in grind (arith, nat_tests)

pub holds_some : (n : ℕ) (l : Ledger) → is_some (holder n l) ≡ is_some (tenant_in l n)
holds_some n [] = refl
holds_some n (t ∷ l) = let ih = holds_some n l in elim (lives_at n t) as (λ b. is_some (cond b (Some (length l)) (holder n l)) ≡ is_some (cond b (Some t.object) (tenant_in l n))) [ true ↦ refl | false ↦ ih ]

pub holding : (k : ℕ) (l : Ledger) (y : Tenancy) → Unique l → tenancy k l ≡ Some y → y.over ≡ false → holder y.number l ≡ Some k
holding k [] y u e v = let z : ◌≡◌ {A = ℕ} 0 1 = cc in absurd (omega arith)
holding k (t ∷ l) y u e v =
    let u0 = u.0 in
    let hn = holds_none t.number l in
    let ih = holding k l y u.1 in
    grind (arith, nat_tests)

pub living : (k : ℕ) (l : Ledger) (y : Tenancy) → Unique l → tenancy k l ≡ Some y → y.over ≡ false → tenant_in l y.number ≡ Some y.object
living k [] y u e v = let z : ◌≡◌ {A = ℕ} 0 1 = cc in absurd (omega arith)
living k (t ∷ l) y u e v =
    let u0 = u.0 in
    let ih = living k l y u.1 in
    grind (arith, nat_tests)

pub lasts_is : (k : ℕ) (l : Ledger) (y : Tenancy) → tenancy k l ≡ Some y → lasts k l ≡ not y.over
lasts_is k [] y e = let z : ◌≡◌ {A = ℕ} 0 1 = cc in absurd (omega arith)
lasts_is k (t ∷ l) y e = let ih = lasts_is k l y in grind (arith, nat_tests)

pub named_tenancy : (k : ℕ) (l : Ledger) (x : ObjectId) → name_of k l ≡ Some x → (y : Tenancy) × (tenancy k l ≡ Some y) × (named y ≡ x)
named_tenancy k [] x e = let z : ◌≡◌ {A = ℕ} 0 1 = cc in absurd (omega arith)
named_tenancy k (t ∷ l) x e = go (named_tenancy k l x) (eqb k (length l)) e
  where
    go : (name_of k l ≡ Some x → (y : Tenancy) × (tenancy k l ≡ Some y) × (named y ≡ x)) → (b : Bool) → cond b (Some (named t)) (name_of k l) ≡ Some x → (y : Tenancy) × (cond b (Some t) (tenancy k l) ≡ Some y) × (named y ≡ x)
    go ih true e = (t, refl, cc)
    go ih false e = ih e

pub sitting : (n : ℕ) (l : Ledger) (o : Object) → tenant_in l n ≡ Some o → (k : ℕ) × (y : Tenancy) × (tenancy k l ≡ Some y) × (y.number ≡ n) × (y.object ≡ o) × (y.over ≡ false)
sitting n [] o e = let z : ◌≡◌ {A = ℕ} 0 1 = cc in absurd (omega arith)
sitting n (t ∷ l) o e = go (sitting n l o) (lives_at n t) refl e
  where
    go : (tenant_in l n ≡ Some o → (k : ℕ) × (y : Tenancy) × (tenancy k l ≡ Some y) × (y.number ≡ n) × (y.object ≡ o) × (y.over ≡ false)) → (b : Bool) → lives_at n t ≡ b → cond b (Some t.object) (tenant_in l n) ≡ Some o → (k : ℕ) × (y : Tenancy) × (tenancy k (t ∷ l) ≡ Some y) × (y.number ≡ n) × (y.object ≡ o) × (y.over ≡ false)
    go ih true v e = (length l, t, cond-true (eqb (length l) (length l)) (Some t) (tenancy (length l) l) (eq-eqb (length l) (length l) refl), grind (arith, nat_tests), cc, grind (arith, nat_tests))
    go ih false v e = let s = ih e in (s.0, s.1, tenancy_more s.0 t l s.1 s.2, s.3, s.4, s.5)

-- serials tell tenancies apart
pub below : (k b : ℕ) (l : Ledger) (x : ObjectId) → Descends b l → name_of k l ≡ Some x → x.serial < b
below k b [] x d e = let z : ◌≡◌ {A = ℕ} 0 1 = cc in absurd (omega arith)
below k b (t ∷ l) x d e = let d0 = d.0 in let ih = below k t.object.serial l x d.1 in grind (arith, nat_tests)

pub one_name : (j k b : ℕ) (l : Ledger) (x y : ObjectId) → Descends b l → name_of j l ≡ Some x → name_of k l ≡ Some y → x.serial ≡ y.serial → j ≡ k
one_name j k b [] x y d e f s = let z : ◌≡◌ {A = ℕ} 0 1 = cc in absurd (omega arith)
one_name j k b (t ∷ l) x y d e f s =
    let ih = one_name j k t.object.serial l x y d.1 in
    let bx = below j t.object.serial l x d.1 in
    let by = below k t.object.serial l y d.1 in
    grind (arith, nat_tests)

none_bears : (b s n : ℕ) (l : Ledger) → b ≤ s → Descends b l → bearing s (tenant_in l n) ≡ None
none_bears b s n [] m d = refl
none_bears b s n (t ∷ l) m d = let d0 = d.0 in let ih = none_bears t.object.serial s n l (omega arith) d.1 in grind (arith, nat_tests)

-- a handle that was given resolves exactly while its tenancy lasts
pub resolves : (k b : ℕ) (l : Ledger) (x : ObjectId) → Descends b l → Unique l → name_of k l ≡ Some x → is_some (resolved (tenant_in l) x) ≡ lasts k l
resolves k b [] x d u e = refl
resolves k b (t ∷ l) x d u e =
    let u0 = u.0 in
    let ih = resolves k t.object.serial l x d.1 u.1 in
    let bx = below k t.object.serial l x d.1 in
    let nb = none_bears t.object.serial x.serial x.number l in
    grind (arith, nat_tests)

-- and then to its object
pub resolves_to : (k b : ℕ) (l : Ledger) (x : ObjectId) (y : Tenancy) → Descends b l → Unique l → name_of k l ≡ Some x → tenancy k l ≡ Some y → y.over ≡ false → resolved (tenant_in l) x ≡ Some y.object
resolves_to k b l x y d u e h v =
    let s = named_tenancy k l x e in
    let i : s.0 ≡ y = cc in
    let w : named y ≡ x = subst (λ (z : Tenancy). named z ≡ x) i s.2 in
    let a = living k l y u h v in
    let p = eq-eqb y.object.serial y.object.serial refl in
    subst (λ (z : ObjectId). resolved (tenant_in l) z ≡ Some y.object) w (rw a (cond-true (eqb y.object.serial y.object.serial) (Some y.object) None p))

-- members
pub member_sits : (n : ℕ) (l : Ledger) (o : Object) → tenant_in l n ≡ Some o → member n (numbers l) ≡ true
member_sits n [] o e = let z : ◌≡◌ {A = ℕ} 0 1 = cc in absurd (omega arith)
member_sits n (t ∷ l) o e = let ih = member_sits n l o in grind (arith, nat_tests)
