-- A request takes the course that the history gives it.
use Rattle.std.proofs.Common.{◌≡◌, ℕ, zero, suc, Bool, true, false, cond, not, ◌&&◌, eqb, List, [], ◌∷◌, length, is_some, is_ok, Some, None, Ok, Err, Option, Result, sym, refl, ap, ◌∙◌, subst, ap₂, inl, inr, arith}
use mathlib.Core.Path.{fun_ext}
use Rattle.std.specs.Option.{option_map}
use Rattle.std.specs.List.{slice_get}
use Rattle.std.proofs.lemmas.Bool.Decides.{nat_tests}
use Rattle.std.proofs.lemmas.Bool.{cond-true, cond-false, cond_both, cases_Bool, eq-eqb}
use Rattle.object_map.specs.Map.{Map, lookup}
use Rattle.protocol.specs.Arguments.{agrees}
use Rattle.protocol.specs.Core.{display}
use Rattle.protocol.specs.Descriptions.{Message, Description}
use Rattle.protocol.specs.Lookups.{request_at, null_id}
use Rattle.protocol.specs.Words.{Sound}
use Rattle.protocol.specs.declared.argument.Argument.{Argument}
use Rattle.protocol.specs.declared.argument.ArgumentType.{ArgumentType}
use Rattle.protocol.specs.declared.error.TransportFault.{TransportFault}
use Rattle.protocol.specs.declared.error.WaylandError.TheVariants.{Io}
use Rattle.protocol.specs.declared.id.ObjectId.{ObjectId}
use Rattle.protocol.specs.declared.refusal.Refusal.{Refusal}
use Rattle.protocol.specs.declared.refusal.Refusal.TheVariants.{InvalidId, BadSignature, BadChild, ClientRoomFull, BadData, NewIdNotNull, BadObject}
use Rattle.protocol.proofs.CoreFound.{core_found}
use Rattle.transport.specs.Drafts.{accepted}
use Rattle.transport.specs.Ends.{End, put_fault, sending}
use Rattle.client.specs.Calls.{send_request, with_put, with_birth, child_handle, sending_it, sending_checked, answered}
use Rattle.client.specs.Course.{given_some, given_that, has, known, uses, uses_if, uses_all, child_asked, asked, course, child_course, destroy_if, put_course, send_course}
use Rattle.client.specs.Law.{Made}
use Rattle.client.specs.Ledger.{Tenancy, Ledger, lives_at, tenancy, amended, amend, conclude, birth, free_from, Account, with_ledger, with_conn, give, bear}
use Rattle.client.specs.Requests.{Table, Request, Child, Sending, and_then, or_refuse, holds_or, object_in, nullable, creates, placeholders, child_for, child_of, free_number, placing, counting, sender_stands, described_as, child_stands, suits, usable, first, rest, object_stands, objects_stand, checked, frame_for}
use Rattle.client.specs.State.{handle_of, client_marked, Look, bearing as bearing-of, resolved, changed_at, Moment, with_fault, with_serial, next_serial, none}
use Rattle.client.specs.declared.object.ChildSpec.{ChildSpec}
use Rattle.client.specs.declared.object.Object.{Object}
use Rattle.client.proofs.Agreement.{Agreed, display_as, amending, reconnecting, giving, bearing}
use Rattle.client.proofs.Slots.{Placed, changed_poked, placing_placed, free_number_lem}
use Rattle.client.proofs.Steps.{moment_at, Came, Stepped, refusing, accepting}
use Rattle.client.proofs.Tenants.{amend_length, amend_tenancy, conclude_nobody, conclude_length}

-- what the checks answer is what the history asks
abbrev pub ok_of : {A : Type 0} → Result A Refusal → Option A
ok_of (Ok x) = Some x
ok_of (Err e) = None

ok_then : {A B : Type 0} (x : Result A Refusal) (f : A → Result B Refusal) (g : A → Option B) → ((z : A) → ok_of (f z) ≡ g z) → ok_of (and_then x f) ≡ given_some (ok_of x) g
ok_then (Ok z) f g h = h z
ok_then (Err e) f g h = refl

ok_last : {A : Type 0} (x : Result (Unit {0}) Refusal) (z : A) → ok_of (and_then x (λ _. Ok z)) ≡ given_that (is_ok x) (Some z)
ok_last (Ok u) z = refl
ok_last (Err e) z = refl

-- the object arguments
holds_is : (e : Refusal) (c : Bool) → is_ok (holds_or e c) ≡ c
holds_is e true = refl
holds_is e false = refl

usable_is : (t : Table) (want : Option ℕ) (v : Option Object) → is_ok (usable t want v) ≡ has v (λ o. not o.client_destroyed && suits t want o.interface)
usable_is t want None = refl
usable_is t want (Some o) = elim o.client_destroyed as (λ b. is_ok (cond b (Err InvalidId) (holds_or BadObject (suits t want o.interface))) ≡ (not b && suits t want o.interface)) [ true ↦ refl | false ↦ holds_is BadObject (suits t want o.interface) ]

pub objects_used : (t : Table) (look : Look) (wants : List ℕ) (ks : List ArgumentType) (args : List (Argument ObjectId)) → is_ok (objects_stand t look wants ks args) ≡ uses_all t look wants ks args
objects_used t look wants ks [] = refl
objects_used t look wants [] (a ∷ args) = refl
objects_used t look wants (k ∷ ks) (a ∷ args) = go (object_in a) (λ more. objects_used t look more ks args)
  where
    both : (x : Result (Unit {0}) Refusal) (w : List ℕ) (b : Bool) → is_ok x ≡ b → is_ok (objects_stand t look w ks args) ≡ uses_all t look w ks args → is_ok (and_then (and_then x (λ _. Ok w)) (λ more. objects_stand t look more ks args)) ≡ (b && uses_all t look w ks args)
    both (Ok u) w b e ih = subst (λ c. is_ok (objects_stand t look w ks args) ≡ (c && uses_all t look w ks args)) e ih
    both (Err r) w b e ih = subst (λ c. false ≡ (c && uses_all t look w ks args)) e refl

    go : (v : Option ObjectId) → ((more : List ℕ) → is_ok (objects_stand t look more ks args) ≡ uses_all t look more ks args) → is_ok (and_then (object_stands t look wants k v) (λ more. objects_stand t look more ks args)) ≡ uses_if t look wants k v (λ more. uses_all t look more ks args)
    go None ih = ih wants
    go (Some h) ih =
        both (cond (eqb h.number 0) (holds_or BadObject (nullable k)) (usable t (first wants) (resolved look h))) (rest wants) (uses t look wants k h)
        (elim (eqb h.number 0) as (λ b. is_ok (cond b (holds_or BadObject (nullable k)) (usable t (first wants) (resolved look h))) ≡ cond b (nullable k) (has (resolved look h) (λ o. not o.client_destroyed && suits t (first wants) o.interface))) [ true ↦ holds_is BadObject (nullable k) | false ↦ usable_is t (first wants) (resolved look h) ])
        (ih (rest wants))

-- the child
abbrev born_as : Account → Request → ChildSpec → Object
born_as a r c = child_of c r.content (next_serial a.conn.last_serial)

abbrev fitting : Request → Child → Result (Option Child) Refusal
fitting r p = and_then (holds_or BadData (not (eqb r.content 0))) (λ _. and_then (holds_or NewIdNotNull (placeholders r.args)) (λ _. Ok (Some p)))

abbrev fitted : Request → Child → Option (Option Child)
fitted r p = given_that (not (eqb r.content 0) && placeholders r.args) (Some (Some p))

fitting_is : (r : Request) (p : Child) → ok_of (fitting r p) ≡ fitted r p
fitting_is r p = go (not (eqb r.content 0)) (placeholders r.args)
  where
    go : (b c : Bool) → ok_of (and_then (holds_or BadData b) (λ _. and_then (holds_or NewIdNotNull c) (λ _. Ok (Some p)))) ≡ given_that (b && c) (Some (Some p))
    go true true = refl
    go true false = refl
    go false c = refl

child_is : (t : Table) (a : Account) (r : Request) (o : Object) (d : Message) → ok_of (child_stands t (free_from a.client_places 1 (known a)) (next_serial a.conn.last_serial) r (o, d)) ≡ child_asked t a r o d
child_is t a r o d = go (creates d) (child_for t d.child o.version r.child) (free_from a.client_places 1 (known a))
  where
    go : (b : Bool) (v : Option ChildSpec) (f : Option ℕ) → ok_of (cond b (and_then (or_refuse BadChild v) (λ c. and_then (or_refuse ClientRoomFull f) (λ n. fitting r (n, born_as a r c)))) (Ok None)) ≡ cond b (given_some v (λ c. given_some f (λ n. fitted r (n, born_as a r c)))) (Some None)
    go false v f = refl
    go true None f = refl
    go true (Some c) None = refl
    go true (Some c) (Some n) = fitting_is r (n, born_as a r c)

-- all checks, over what is known of objects and the free number
abbrev whole : Table → Look → Option ℕ → ℕ → Request → Result Sending Refusal
whole t look free serial r =
    and_then (sender_stands t r (resolved look r.sender))
    (λ p. and_then (child_stands t free serial r p)
    (λ c. and_then (objects_stand t (counting c look) p.1.args p.1.signature r.args)
    (λ _. Ok (record { by = p.0; desc = p.1; child = c }))))

-- the checks behind the sender's
abbrev behind : Table → Account → Request → Object × Message → Result Sending Refusal
behind t a r p =
    and_then (child_stands t (free_from a.client_places 1 (known a)) (next_serial a.conn.last_serial) r p)
    (λ c. and_then (objects_stand t (counting c (known a)) p.1.args p.1.signature r.args)
    (λ _. Ok (record { by = p.0; desc = p.1; child = c })))

abbrev behind_asked : Table → Account → Request → Object → Message → Option Sending
behind_asked t a r o d =
    given_some (child_asked t a r o d)
    (λ c. given_that (uses_all t (counting c (known a)) d.args d.signature r.args) (Some (record { by = o; desc = d; child = c })))

behind_is : (t : Table) (a : Account) (r : Request) (o : Object) (d : Message) → ok_of (behind t a r (o, d)) ≡ behind_asked t a r o d
behind_is t a r o d =
    ok_then (child_stands t (free_from a.client_places 1 (known a)) (next_serial a.conn.last_serial) r (o, d)) _
    (λ c. given_that (uses_all t (counting c (known a)) d.args d.signature r.args) (Some (record { by = o; desc = d; child = c })))
    (λ c. ok_last (objects_stand t (counting c (known a)) d.args d.signature r.args) (record { by = o; desc = d; child = c }) ∙ ap (λ b. given_that b (Some (record { by = o; desc = d; child = c }))) (objects_used t (counting c (known a)) d.args d.signature r.args))
    ∙ ap (λ v. given_some v (λ c. given_that (uses_all t (counting c (known a)) d.args d.signature r.args) (Some (record { by = o; desc = d; child = c })))) (child_is t a r o d)

described_is : (t : Table) (a : Account) (r : Request) (o : Object) (v : Option Message) → ok_of (and_then (described_as r o v) (behind t a r)) ≡ given_some v (λ d. given_that (not o.client_destroyed && (agrees d.signature r.args && accepted r.args r.text)) (behind_asked t a r o d))
described_is t a r o None = refl
described_is t a r o (Some d) = go o.client_destroyed (agrees d.signature r.args && accepted r.args r.text)
  where
    go : (b c : Bool) → ok_of (and_then (cond b (Err InvalidId) (cond c (Ok (o, d)) (Err BadSignature))) (behind t a r)) ≡ given_that (not b && c) (behind_asked t a r o d)
    go true c = refl
    go false true = behind_is t a r o d
    go false false = refl

whole_is : (t : Table) (a : Account) (r : Request) → ok_of (whole t (known a) (free_from a.client_places 1 (known a)) (next_serial a.conn.last_serial) r) ≡ asked t a r
whole_is t a r = go (resolved (known a) r.sender)
  where
    go : (v : Option Object) → ok_of (and_then (sender_stands t r v) (behind t a r)) ≡ given_some v (λ o. given_some (request_at t o.interface r.opcode) (λ d. given_that (not o.client_destroyed && (agrees d.signature r.args && accepted r.args r.text)) (behind_asked t a r o d)))
    go None = refl
    go (Some o) = described_is t a r o (request_at t o.interface r.opcode)

-- the free number of the slots is that of the history
free_is : (s : Map Object) (a : Account) → Agreed s a → free_number s ≡ free_from a.client_places 1 (known a)
free_is s a g =
    let c = g.clients in
    let f = g.few in
    free_number_lem s (omega arith) g.fit ∙ ap₂ (λ n (look : Look). free_from n 1 look) c (fun_ext g.look)

pub checked_asked : (t : Table) (s : Map Object) (a : Account) → Agreed s a → (r : Request) → ok_of (checked t s (next_serial a.conn.last_serial) r) ≡ asked t a r
checked_asked t s a g r = ap₂ (λ (look : Look) free. ok_of (whole t look free (next_serial a.conn.last_serial) r)) (fun_ext g.look) (free_is s a g) ∙ whole_is t a r

-- what an accepted request has shown
pub record Shown (t : Table) (a : Account) (r : Request) (x : Sending) : Type 0 where
  pub sender : resolved (known a) r.sender ≡ Some x.by
  pub desc : request_at t x.by.interface r.opcode ≡ Some x.desc
  pub child : child_asked t a r x.by x.desc ≡ Some x.child

some_then : {A B : Type 0} (v : Option A) (f : A → Option B) (y : B) → given_some v f ≡ Some y → (z : A) × (v ≡ Some z) × (f z ≡ Some y)
some_then None f y e = let q : ◌≡◌ {A = ℕ} 0 1 = cc in absurd (omega arith)
some_then (Some z) f y e = (z, refl, e)

some_that : {A : Type 0} (b : Bool) (v : Option A) (y : A) → given_that b v ≡ Some y → v ≡ Some y
some_that true v y e = e
some_that false v y e = let q : ◌≡◌ {A = ℕ} 0 1 = cc in absurd (omega arith)

pub shown : (t : Table) (a : Account) (r : Request) (x : Sending) → asked t a r ≡ Some x → Shown t a r x
shown t a r x e =
    let p = some_then (resolved (known a) r.sender) _ x e in
    let o = p.0 in
    let q = some_then (request_at t o.interface r.opcode) _ x p.2 in
    let d = q.0 in
    let w = some_then (child_asked t a r o d) _ x (some_that _ (behind_asked t a r o d) x q.2) in
    let z : ◌≡◌ {A = Option Sending} (Some (record { by = o; desc = d; child = w.0 })) (Some x) = some_that (uses_all t (counting w.0 (known a)) d.args d.signature r.args) (Some (record { by = o; desc = d; child = w.0 })) x w.2 in
    let y : record { by = o; desc = d; child = w.0 } ≡ x = cc in
    subst (Shown t a r) y (record { sender = p.1; desc = q.1; child = w.1 })

-- its child, by its description
born_none : (t : Table) (a : Account) (r : Request) (o : Object) (d : Message) (k : Option Child) → child_asked t a r o d ≡ Some k → creates d ≡ false → k ≡ None
born_none t a r o d k e b =
    let z : Some None ≡ Some k = sym (cond-false (creates d) (given_some (child_for t d.child o.version r.child) (λ c. given_some (free_from a.client_places 1 (known a)) (λ n. fitted r (n, born_as a r c)))) (Some None) b) ∙ e in
    cc

born_some : (t : Table) (a : Account) (r : Request) (o : Object) (d : Message) (k : Option Child) → child_asked t a r o d ≡ Some k → creates d ≡ true → (c : ChildSpec) × (n : ℕ) × (child_for t d.child o.version r.child ≡ Some c) × (free_from a.client_places 1 (known a) ≡ Some n) × (k ≡ Some (n, born_as a r c))
born_some t a r o d k e b =
    let z : given_some (child_for t d.child o.version r.child) (λ c. given_some (free_from a.client_places 1 (known a)) (λ n. fitted r (n, born_as a r c))) ≡ Some k = sym (cond-true (creates d) (given_some (child_for t d.child o.version r.child) (λ c. given_some (free_from a.client_places 1 (known a)) (λ n. fitted r (n, born_as a r c)))) (Some None) b) ∙ e in
    let p = some_then (child_for t d.child o.version r.child) _ k z in
    let q = some_then (free_from a.client_places 1 (known a)) _ k p.2 in
    let y : Some (Some (q.0, born_as a r p.0)) ≡ Some k = some_that (not (eqb r.content 0) && placeholders r.args) (Some (Some (q.0, born_as a r p.0))) k q.2 in
    let w : Some (q.0, born_as a r p.0) ≡ k = cc in
    (p.0, q.0, p.1, q.1, sym w)

-- a child stands at the free number, with the next serial
abbrev ChildOk : Account → Option Child → Type 0
ChildOk a None = Unit {0}
ChildOk a (Some c) = (free_from a.client_places 1 (known a) ≡ Some c.0) × (c.1.serial ≡ next_serial a.conn.last_serial)

child_ok : (t : Table) (a : Account) (r : Request) (o : Object) (d : Message) (k : Option Child) → child_asked t a r o d ≡ Some k → ChildOk a k
child_ok t a r o d k e =
    elim (cases_Bool (creates d)) [
      | inl b ↦ (let p = born_some t a r o d k e b in subst (ChildOk a) (sym p.4) (p.3, refl))
      | inr b ↦ subst (ChildOk a) (sym (born_none t a r o d k e b)) tt
    ]

-- the slots with the child
placed_child : (s : Map Object) (a : Account) → Agreed s a → (c : Child) → ChildOk a (Some c) → Placed c.0 c.1 s (placing (Some c) s)
placed_child s a g c ok =
    let p = g.clients in
    let f = g.few in
    (placing_placed c.0 c.1 s (omega arith) g.fit (free_is s a g ∙ ok.0)).0

child_step : (s : Map Object) (a : Account) → Agreed s a → (c : Option Child) → ChildOk a c → Agreed (placing c s) (child_course c a)
child_step s a g None ok = g
child_step s a g (Some c) ok =
    let p = placed_child s a g c ok in
    let nobody : conclude c.0 a.ledger ≡ a.ledger = conclude_nobody c.0 a.ledger (sym (g.look c.0) ∙ p.was) in
    let b = bearing s (placing (Some c) s) a c.0 c.1 p ok.1 (subst (λ l. Agreed s (with_ledger l a)) (sym nobody) g) in
    giving (placing (Some c) s) (bear c.0 c.1 a) b c.0 c.1 p.poked.here

-- the sender stands beside it
beside : (s : Map Object) (a : Account) → Agreed s a → (c : Option Child) → ChildOk a c → (n : ℕ) (o : Object) → lookup n s ≡ Some o → lookup n (placing c s) ≡ Some o
beside s a g None ok n o e = e
beside s a g (Some c) ok n o e =
    let p = placed_child s a g c ok in
    p.poked.other n (λ q. let w : lookup n s ≡ None = ap (λ k. lookup k s) q ∙ p.was in let z : ◌≡◌ {A = ℕ} 0 1 = cc in omega arith) ∙ e

-- the fault of put
put_step : (s : Map Object) (a : Account) (e : End) → Agreed s a → Agreed s (put_course a e)
put_step s a e g = cond_both (eqb e.room 0) (with_conn (with_fault (Io (put_fault e)) a.conn) a) a (Agreed s) (λ _. reconnecting s a g (with_fault (Io (put_fault e)) a.conn) refl g.hand) (λ _. g)

put_child : (a : Account) (e : End) (c : Option Child) → ChildOk a c → ChildOk (put_course a e) c
put_child a e c ok = cond_both (eqb e.room 0) (with_conn (with_fault (Io (put_fault e)) a.conn) a) a (λ (b : Account). ChildOk b c) (λ _. go c ok) (λ _. ok)
  where
    go : (c : Option Child) → ChildOk a c → ChildOk (with_conn (with_fault (Io (put_fault e)) a.conn) a) c
    go None ok = tt
    go (Some c) ok = ok

-- the mark, and the notice
marking : (s : Map Object) (a : Account) → Agreed s a → (n : ℕ) (o : Object) → (n ≡ 1 → ⊥) → lookup n s ≡ Some o → Agreed (changed_at client_marked n s) (give (handle_of n o) (with_ledger (amend client_marked n a.ledger) a))
marking s a g n o ne e =
    giving (changed_at client_marked n s) (with_ledger (amend client_marked n a.ledger) a)
    (amending s a g client_marked n (λ o. (refl, refl)) (λ q. absurd (ne q))) n (client_marked o)
    ((changed_poked client_marked n s).here ∙ ap (option_map client_marked) e)

mark_step : (s : Map Object) (a : Account) → Agreed s a → (d : Bool) (n : ℕ) (o : Object) → (d ≡ true → n ≡ 1 → ⊥) → lookup n s ≡ Some o → Agreed (cond d (changed_at client_marked n s) s) (destroy_if d n o a)
mark_step s a g true n o ne e = marking s a g n o (ne refl) e
mark_step s a g false n o ne e = g

-- no request of the display destroys
abbrev destroys : Option Message → Bool
destroys None = false
destroys (Some d) = d.destructor

display_mild : (t : Table) (op : ℕ) (d : Message) → Sound t → request_at t 0 op ≡ Some d → d.destructor ≡ false
display_mild t op d s e = go op (ap (λ (x : Description). slice_get x.requests op) (sym (core_found t s).0) ∙ e)
  where
    go : (i : ℕ) → slice_get display.requests i ≡ Some d → d.destructor ≡ false
    go zero e = ap destroys (sym e)
    go (suc zero) e = ap destroys (sym e)
    go (suc (suc i)) e = let z : ◌≡◌ {A = ℕ} 0 1 = cc in absurd (omega arith)

resolved_at : (look : Look) (h : ObjectId) (o : Object) → resolved look h ≡ Some o → look h.number ≡ Some o
resolved_at look h o e = go (look h.number) e
  where
    go : (v : Option Object) → bearing-of h.serial v ≡ Some o → v ≡ Some o
    go None e = e
    go (Some x) e = grind (arith, nat_tests)

not_display : (t : Table) (s : Map Object) (a : Account) → Sound t → Agreed s a → (r : Request) (x : Sending) → Shown t a r x → x.desc.destructor ≡ true → r.sender.number ≡ 1 → ⊥
not_display t s a st g r x f d q =
    let w : Some x.by ≡ Some (display_as g.display.0) = sym (resolved_at (known a) r.sender x.by f.sender) ∙ (ap (known a) q ∙ g.display.1) in
    let i : x.by ≡ display_as g.display.0 = cc in
    let m = display_mild t r.opcode x.desc st (ap (λ (o : Object). request_at t o.interface r.opcode) (sym i) ∙ f.desc) in
    let z : ◌≡◌ {A = ℕ} 0 1 = cc in omega arith

end_is : (m : Moment) (r : Request) (x : Sending) (f : TransportFault) (e e' : End) (b : Bool) → (sending_it m r x (cond b (Err f, e) (Ok tt, e'))).moment.end ≡ cond b e e'
end_is m r x f e e' true = refl
end_is m r x f e e' false = refl

child_conn : (a : Account) (f : TransportFault) (c : Option Child) (b : Bool) (e e' : End) → ChildOk a c → with_put (cond {A = Result (Unit {0}) TransportFault × End} b (Err f, e) (Ok tt, e')).0 (with_birth c a.conn) ≡ (child_course c (cond b (with_conn (with_fault (Io f) a.conn) a) a)).conn
child_conn a f None true e e' ok = refl
child_conn a f None false e e' ok = refl
child_conn a f (Some c) true e e' ok = ap (λ n. with_fault (Io f) (with_serial n a.conn)) ok.1
child_conn a f (Some c) false e e' ok = ap (λ n. with_serial n a.conn) ok.1

mark_conn : (d : Bool) (n : ℕ) (o : Object) (a : Account) → (destroy_if d n o a).conn ≡ a.conn
mark_conn true n o a = refl
mark_conn false n o a = refl

sent_step : (t : Table) (a : Account) (s : Map Object) (e : End) → Sound t → Agreed s a → (r : Request) (x : Sending) → asked t a r ≡ Some x → Came a true (send_course a e r (Some x)) (sending_checked (moment_at a s e) r (Ok x))
sent_step t a s e st g r x q =
    let f = shown t a r x q in
    let c = x.child in
    let n = r.sender.number in
    let ok = child_ok t a r x.by x.desc c f.child in
    let here : lookup n s ≡ Some x.by = g.look n ∙ resolved_at (known a) r.sender x.by f.sender in
    let w = sending (frame_for r (child_handle c).number) e in
    accepting a true (send_course a e r (Some x)) (sending_checked (moment_at a s e) r (Ok x)) refl
    refl
    refl
    (end_is (moment_at a s e) r x (put_fault e) e w (eqb e.room 0))
    (child_conn a (put_fault e) c (eqb e.room 0) e w ok ∙ sym (mark_conn x.desc.destructor n x.by (child_course c (put_course a e))))
    (mark_step (placing c s) (child_course c (put_course a e)) (child_step s (put_course a e) (put_step s a e g) c (put_child a e c ok)) x.desc.destructor n x.by (not_display t s a st g r x f) (beside s a g c ok n x.by here))

pub send_step : (t : Table) (a : Account) (s : Map Object) (e : End) → Sound t → Agreed s a → (r : Request) → Stepped t a e (send_request r) (answered t (moment_at a s e) (send_request r))
send_step t a s e st g r = go (checked t s (next_serial a.conn.last_serial) r) (checked_asked t s a g r)
  where
    go : (v : Result Sending Refusal) → ok_of v ≡ asked t a r → Came a (is_some (asked t a r)) (send_course a e r (asked t a r)) (sending_checked (moment_at a s e) r v)
    go (Err f) q = subst (λ (w : Option Sending). Came a (is_some w) (send_course a e r w) (sending_checked (moment_at a s e) r (Err f))) q (refusing a s e false (send_course a e r None) f none refl g)
    go (Ok x) q = subst (λ (w : Option Sending). Came a (is_some w) (send_course a e r w) (sending_checked (moment_at a s e) r (Ok x))) q (sent_step t a s e st g r x (sym q))

-- what an accepted request creates
marked_tenancy : (d : Bool) (n : ℕ) (o : Object) (a : Account) (k : ℕ) (y : Tenancy) → tenancy k a.ledger ≡ Some y → (z : Tenancy) × (tenancy k (destroy_if d n o a).ledger ≡ Some z) × (z.number ≡ y.number) × (z.object.interface ≡ y.object.interface) × (z.object.version ≡ y.object.version) × (z.object.«data» ≡ y.object.«data»)
marked_tenancy true n o a k y e =
    let split : (P : Object → Type 0) → P (client_marked y.object) → P y.object → P (cond (lives_at n y) (client_marked y.object) y.object) = λ P p q. cond_both (lives_at n y) (client_marked y.object) y.object P (λ _. p) (λ _. q) in (
      amended client_marked n y,
      amend_tenancy client_marked n k a.ledger y e,
      refl,
      split (λ (o : Object). o.interface ≡ y.object.interface) refl refl,
      split (λ (o : Object). o.version ≡ y.object.version) refl refl,
      split (λ (o : Object). o.«data» ≡ y.object.«data») refl refl,
    )
marked_tenancy false n o a k y e = (y, e, refl, refl, refl, refl)

marked_length : (d : Bool) (n : ℕ) (o : Object) (a : Account) → length (destroy_if d n o a).ledger ≡ length a.ledger
marked_length true n o a = amend_length client_marked n a.ledger
marked_length false n o a = refl

put_ledger : (a : Account) (e : End) → (put_course a e).ledger ≡ a.ledger
put_ledger a e = cond_both (eqb e.room 0) (with_conn (with_fault (Io (put_fault e)) a.conn) a) a (λ (b : Account). b.ledger ≡ a.ledger) (λ _. refl) (λ _. refl)

newest : (n : ℕ) (o : Object) (l : Ledger) → tenancy (length l) (birth n o l) ≡ Some (record { number = n; object = o; over = false })
newest n o l = cond-true (eqb (length l) (length (conclude n l))) (Some (record { number = n; object = o; over = false })) (tenancy (length l) (conclude n l)) (eq-eqb (length l) (length (conclude n l)) (sym (conclude_length n l)))

pub made : (t : Table) (a : Account) (s : Map Object) (e : End) → Agreed s a → (r : Request) (x : Sending) → asked t a r ≡ Some x → Made t a (course t a e (send_request r)).account r (child_handle x.child)
made t a s e g r x q =
    subst (λ (w : Option Sending). Made t a (send_course a e r w).account r (child_handle x.child)) (sym q)
    (record {
      by = x.by;
      desc = x.desc;
      sender = f.sender;
      described = f.desc;
      nothing = λ b. nothing x.child (born_none t a r x.by x.desc x.child f.child b);
      child = λ b. let p = born_some t a r x.by x.desc x.child f.child b in let w = child x.child p.0 p.1 p.3 p.4 in (p.0, p.2, w.0, w.1, w.2, w.3, w.4, w.5, w.6, w.7);
    })
  where
    f : Shown t a r x
    f = shown t a r x q

    nothing : (k : Option Child) → k ≡ None → (child_handle k ≡ null_id) × (length (destroy_if x.desc.destructor r.sender.number x.by (child_course k (put_course a e))).ledger ≡ length a.ledger)
    nothing k z = rw z (refl, marked_length x.desc.destructor r.sender.number x.by (put_course a e) ∙ ap length (put_ledger a e))

    child : (k : Option Child) (c : ChildSpec) (n : ℕ) → free_from a.client_places 1 (known a) ≡ Some n → k ≡ Some (n, born_as a r c) → (free_from a.client_places 1 (known a) ≡ Some (child_handle k).number) × ((child_handle k).serial ≡ next_serial a.conn.last_serial) × (y : Tenancy) × (tenancy (length a.ledger) (destroy_if x.desc.destructor r.sender.number x.by (child_course k (put_course a e))).ledger ≡ Some y) × (y.number ≡ (child_handle k).number) × (y.object.interface ≡ c.interface) × (y.object.version ≡ c.version) × (y.object.«data» ≡ r.content)
    child k c n fr z =
        let b = born_as a r c in
        let nw : tenancy (length a.ledger) (birth n b (put_course a e).ledger) ≡ Some (record { number = n; object = b; over = false }) = rw (put_ledger a e) (newest n b a.ledger) in
        let y = marked_tenancy x.desc.destructor r.sender.number x.by (child_course (Some (n, b)) (put_course a e)) (length a.ledger) (record { number = n; object = b; over = false }) nw in
        rw z (fr, refl, y.0, y.1, y.2, y.3, y.4, y.5)
