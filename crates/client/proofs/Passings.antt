-- The engine's passing of an event's arguments and the history's hearing of them go side by side.
use Rattle.std.proofs.Common.{◌≡◌, ℕ, ◌+◌, ◌-◌, Bool, true, false, cond, not, ◌&&◌, ◌||◌, eqb, ltb, leb, List, [], ◌∷◌, ◌++◌, is_some, Some, None, Ok, Err, Option, Result, sym, refl, ap, ◌∙◌, subst, ap₂, inl, inr, arith}
use Rattle.std.proofs.lemmas.Bool.{cond_both, ltb-true, ltb-false, le-leb, lt-leb, leb-true, and_left, and_parts}
use Rattle.object_map.specs.Map.{Map, fits, lookup, insert_at}
use Rattle.object_map.specs.Number.{place}
use Rattle.object_map.specs.Runs as used
use Rattle.object_map.specs.Runs.{member}
use Rattle.object_map.specs.declared.refusal.Refusal.{Refusal}
use Rattle.object_map.specs.declared.refusal.Refusal.TheVariants.{NoSlot}
use Rattle.protocol.specs.Descriptions.{Message}
use Rattle.protocol.specs.Lookups.{fits_interface, null_id}
use Rattle.protocol.specs.declared.argument.Argument.{Argument}
use Rattle.protocol.specs.declared.argument.Argument.TheVariants.{Int, Uint, Fixed, Str, Object as ObjectArg, NewId, Array, Fd}
use Rattle.protocol.specs.declared.error.ProtocolReason.{ProtocolReason}
use Rattle.protocol.specs.declared.error.ProtocolReason.TheVariants.{UnusableNumber, NoSlot as NoSlotLeft}
use Rattle.protocol.specs.declared.id.ObjectId.{ObjectId}
use Rattle.transport.specs.Layout.{laid}
use Rattle.client.specs.Course.{Reading', Hearing, handed, has, may_be_born, hear_found, hear_object, hear_new, hear_arg, hear_all}
use Rattle.client.specs.Events.{Walked, onward, walk, Passing, drawn, Passed, vacated, newborn, pass_found, pass_placed, pass_object, or_anonymous, pass_new, pass_arg, pass_all}
use Rattle.client.specs.Law.{Given}
use Rattle.client.specs.Ledger.{Ledger, tenant_in, holder, numbers, conclude, Account, draw, bear}
use Rattle.client.specs.Requests.{Table, first, rest}
use Rattle.client.specs.State.{handle_of, emptied_at, next_serial, with_serial}
use Rattle.client.specs.declared.object.Object.{Object}
use Rattle.client.proofs.Agreement.{Agreed, vacating, drawing, bearing, rightly, none_null}
use Rattle.client.proofs.Slots.{reached, emptied_poked, Placed, Inserts, taken, lacking, unusable, inserts, vacant_takes}
use Rattle.client.proofs.Tenants.{GivenOk, conclude_given, conclude_numbers, given_more}

-- two steps that answer the same and keep a relation, and two walks of such steps
record Along {S T B : Type 0} (R : S → T → Type 0) (u : B × S) (v : B × T) : Type 0 where
  answer : u.0 ≡ v.0
  state : R u.1 v.1

record Walks {S T A E : Type 0} (R : S → T → Type 0) (u : Walked S A E) (v : Walked T A E) : Type 0 where
  stop : u.stop ≡ v.stop
  room : u.room ≡ v.room
  state : R u.state v.state

onwards : {S T A E : Type 0} (R : S → T → Type 0) (u : Result A E × S) (v : Result A E × T) (done : List A) (a : A) (more : List A) (f : S → List A → Walked S A E) (g : T → List A → Walked T A E) → u.0 ≡ v.0 → R u.1 v.1 → ((s : S) (t : T) (d : List A) → R s t → Walks R (f s d) (g t d)) → Walks R (onward u done a more f) (onward v done a more g)
onwards R (Ok x, s) (Ok y, t) done a more f g e r go = let q : x ≡ y = cc in subst (λ z. Walks R (f s (done ++ z ∷ [])) (g t (done ++ y ∷ []))) (sym q) (go s t (done ++ y ∷ []) r)
onwards R (Ok x, s) (Err y, t) done a more f g e r go = let z : ◌≡◌ {A = ℕ} 0 1 = cc in absurd (omega arith)
onwards R (Err x, s) (Ok y, t) done a more f g e r go = let z : ◌≡◌ {A = ℕ} 0 1 = cc in absurd (omega arith)
onwards R (Err x, s) (Err y, t) done a more f g e r go = let q : x ≡ y = cc in record { stop = ap Some q; room = refl; state = r }

walks : {S T A E : Type 0} (R : S → T → Type 0) (f : S → A → Result A E × S) (g : T → A → Result A E × T) → ((s : S) (t : T) (x : A) → R s t → Along R (f s x) (g t x)) → (xs : List A) (s : S) (t : T) (done : List A) → R s t → Walks R (walk f s done xs) (walk g t done xs)
walks R f g h [] s t done r = record { stop = refl; room = refl; state = r }
walks R f g h (x ∷ xs) s t done r = let k = h s t x r in onwards R (f s x) (g t x) done x xs (λ s d. walk f s d xs) (λ t d. walk g t d xs) k.answer k.state (λ s t d r. walks R f g h xs s t d r)

along_both : {S T B : Type 0} (R : S → T → Type 0) (v : Bool) (x y : B × S) (x' y' : B × T) → (v ≡ true → Along R x x') → (v ≡ false → Along R y y') → Along R (cond v x y) (cond v x' y')
along_both R true x y x' y' f g = f refl
along_both R false x y x' y' f g = g refl

along_true : {S T B : Type 0} (R : S → T → Type 0) (v : Bool) (u : B × S) (x y : B × T) → v ≡ true → Along R u x → Along R u (cond v x y)
along_true R v u x y e k = subst (λ b. Along R u (cond b x y)) (sym e) k

along_false : {S T B : Type 0} (R : S → T → Type 0) (v : Bool) (u : B × S) (x y : B × T) → v ≡ false → Along R u y → Along R u (cond v x y)
along_false R v u x y e k = subst (λ b. Along R u (cond b x y)) (sym e) k

-- the accounts before and after some arguments were heard differ in births alone
pub record Same (a b : Account) : Type 0 where
  pub conn : b.conn ≡ with_serial b.conn.last_serial a.conn
  pub given : b.given ≡ a.given
  pub hand : b.hand ≡ a.hand
  pub clients : b.client_places ≡ a.client_places
  pub servers : b.server_places ≡ a.server_places
  pub grows : (x : ObjectId) (o : Option ℕ) → GivenOk a.ledger x o → GivenOk b.ledger x o

same_at : (a : Account) → Same a a
same_at a = record { conn = refl; given = refl; hand = refl; clients = refl; servers = refl; grows = λ x o g. g }

same_draw : (a b : Account) → Same a b → Same a (draw b)
same_draw a b s = record { conn = ap (with_serial (next_serial b.conn.last_serial)) s.conn; given = s.given; hand = s.hand; clients = s.clients; servers = s.servers; grows = s.grows }

birth_given : (n : ℕ) (o : Object) (l : Ledger) (x : ObjectId) (k : Option ℕ) → GivenOk l x k → GivenOk (record { number = n; object = o; over = false } ∷ conclude n l) x k
birth_given n o l x k g = given_more (record { number = n; object = o; over = false }) (conclude n l) x k (conclude_given n l x k g)

same_bear : (a b : Account) (n : ℕ) (o : Object) → Same a b → Same a (bear n o b)
same_bear a b n o s = let d = same_draw a b s in record { conn = d.conn; given = d.given; hand = d.hand; clients = d.clients; servers = d.servers; grows = λ x k g. birth_given n o b.ledger x k (s.grows x k g) }

-- the handles shown are rightly named
abbrev pub ShownOk : Account → List (ObjectId × Option ℕ) → Type 0
ShownOk b sh = (x : ObjectId) (o : Option ℕ) → Given (x, o) sh → GivenOk b.ledger x o

shown_more : (b : Account) (h : ObjectId) (k : Option ℕ) (sh : List (ObjectId × Option ℕ)) → ShownOk b sh → GivenOk b.ledger h k → ShownOk b ((h, k) ∷ sh)
shown_more b h k sh old ok x o (inl e) = let ex : x ≡ h = ap (λ p. p.0) e in let eo : o ≡ k = ap (λ p. p.1) e in rw (ex, eo) ok
shown_more b h k sh old ok x o (inr y) = old x o y

-- the object that was born is not the display
abbrev pub Off : Option ℕ → Type 0
Off c = (k : ℕ) → c ≡ Some k → k ≡ 1 → ⊥

-- the engine and the history have come equally far
pub data Alike (a : Account) : Passing → Hearing → Type 0 where
  alike : {s : Map Object} {b : Account} {c : Option ℕ} {ws : List ℕ} {sh : List (ObjectId × Option ℕ)} → Agreed s b → Same a b → ShownOk b sh → Off c → Alike a (record { slots = s; last = b.conn.last_serial; child = c; wants = ws }) (record { account = b; child = c; wants = ws; shown = sh })

pub record Both (a : Account) (u : Walked Passing (Argument ObjectId) ProtocolReason) (v : Walked Hearing (Argument ObjectId) ProtocolReason) : Type 0 where
  pub stop : u.stop ≡ v.stop
  pub room : u.room ≡ v.room
  pub state : Alike a u.state v.state

-- a number may be had by the ledger exactly where it may by the slots, once they are vacated
occupant : (s : Map Object) (n : ℕ) (v : Option Object) → lookup n s ≡ v → is_some (lookup n (vacated n s v)) ≡ has v (λ o. not o.client_destroyed)
occupant s n None e = ap is_some e
occupant s n (Some o) e = elim o.client_destroyed as (λ b. is_some (lookup n (cond b (emptied_at n s) s)) ≡ not b) [ true ↦ ap is_some (emptied_poked n o s e).here | false ↦ ap is_some e ]

born_same : (s : Map Object) (b : Account) (n : ℕ) → Agreed s b → ltb n 0xFF00_0000 ≡ false → may_be_born n b.ledger ≡ ((used.first n || reached (n - 1) (vacated n s (lookup n s))) && not (is_some (lookup n (vacated n s (lookup n s)))))
born_same s b n g hi =
    let l = b.ledger in
    let h = le-leb 0xFF00_0000 n (ltb-false n 0xFF00_0000 hi) in
    let r : reached (n - 1) (vacated n s (lookup n s)) ≡ member (n - 1) (numbers l) = (vacating s b g n).reach (n - 1) ∙ ap (member (n - 1)) (conclude_numbers n l) in
    let o : is_some (lookup n (vacated n s (lookup n s))) ≡ has (tenant_in l n) (λ o. not o.client_destroyed) = occupant s n (lookup n s) refl ∙ ap (λ v. has v (λ o. not o.client_destroyed)) (g.look n) in
    ap (λ x. x && ((used.first n || member (n - 1) (numbers l)) && not (has (tenant_in l n) (λ o. not o.client_destroyed)))) h
    ∙ ap₂ (λ x y. (used.first n || x) && not y) (sym r) (sym o)

-- where the insertion is refused, nothing was emptied
refused_same : (s : Map Object) (n : ℕ) (o : Object) (x : Refusal) (v : Option Object) → ltb n 0xFF00_0000 ≡ false → fits s ≡ true → lookup n s ≡ v → (insert_at (place n) o (vacated n s v)).0 ≡ Err x → vacated n s v ≡ s
refused_same s n o x None hi fit q e = refl
refused_same s n o x (Some p) hi fit q e = on p.client_destroyed e
  where
    on : (b : Bool) → (insert_at (place n) o (cond b (emptied_at n s) s)).0 ≡ Err x → cond b (emptied_at n s) s ≡ s
    on true e = let k = (vacant_takes n o p s hi fit q).1 in let z : ◌≡◌ {A = ℕ} 0 1 = cc in absurd (omega arith)
    on false e = refl

-- as far as slots and an account have come
abbrev far : Map Object → Account → Option ℕ → List ℕ → Passing
far s b c ws = record { slots = s; last = b.conn.last_serial; child = c; wants = ws }

abbrev heard : Account → Option ℕ → List ℕ → List (ObjectId × Option ℕ) → Hearing
heard b c ws sh = record { account = b; child = c; wants = ws; shown = sh }

module _ (t : Table) (by : Object) (d : Message) (a : Account) where
  abbrev Stepped : Passed → Result (Argument ObjectId) ProtocolReason × Hearing → Type 0
  Stepped u v = Along (Alike a) u v

  -- one argument, from slots and an account that agree
  module _ (s : Map Object) (b : Account) (c : Option ℕ) (ws : List ℕ) (sh : List (ObjectId × Option ℕ)) (g : Agreed s b) (sm : Same a b) (so : ShownOk b sh) (oc : Off c) where
    -- a handle is shown
    shows : (h : ObjectId) → GivenOk b.ledger h (holder h.number b.ledger) → (is : List ℕ) → Stepped (Ok (ObjectArg h), record { slots = s; last = b.conn.last_serial; child = c; wants = is }) (Ok (ObjectArg h), record { account = b; child = c; wants = is; shown = (h, holder h.number b.ledger) ∷ sh })
    shows h ok is = record { answer = refl; state = alike g sm (shown_more b h (holder h.number b.ledger) sh so ok) oc }

    -- a serial was drawn for nothing
    fails : (r : ProtocolReason) → Stepped (Err r, record { slots = s; last = next_serial b.conn.last_serial; child = c; wants = ws }) (Err r, record { account = draw b; child = c; wants = ws; shown = sh })
    fails r = record { answer = refl; state = alike (drawing s b g) (same_draw a b sm) so oc }

    -- a new object
    inserted : (n i : ℕ) (s' : Map Object) → Placed n (newborn by i (next_serial b.conn.last_serial)) (vacated n s (lookup n s)) s' → ltb n (0xFF00_0000 + b.server_places) ≡ true → may_be_born n b.ledger ≡ true → Stepped (pass_placed (far s b c ws) n (newborn by i (next_serial b.conn.last_serial)) (Ok tt, s')) (hear_new by i (heard b c ws sh) n)
    inserted n i s' pl lt ok =
        let o = newborn by i (next_serial b.conn.last_serial) in
        let g' : Agreed s' (bear n o b) = bearing (vacated n s (lookup n s)) s' b n o pl refl (vacating s b g n) in
        along_true (Alike a) (may_be_born n b.ledger) _ _ _ ok
        (along_true (Alike a) (ltb n (0xFF00_0000 + b.server_places)) _ _ _ lt
        (record { answer = refl; state = alike g' (same_bear a b n o sm) (shown_more (bear n o b) (handle_of n o) (holder n (bear n o b).ledger) sh (λ x k y. birth_given n o b.ledger x k (so x k y)) (rightly s' (bear n o b) g' n o pl.poked.here)) (λ j e one. off j e one) }))
      where
        off : (j : ℕ) → Some n ≡ Some j → j ≡ 1 → ⊥
        off j e one = let q : n ≡ j = cc in let h = leb-true 0xFF00_0000 n (and_parts (leb 0xFF00_0000 n) _ ok).0 in omega arith

    placed : (n i : ℕ) → ltb n 0xFF00_0000 ≡ false → Inserts n (newborn by i (next_serial b.conn.last_serial)) (vacated n s (lookup n s)) → Stepped (pass_placed (far s b c ws) n (newborn by i (next_serial b.conn.last_serial)) (insert_at (place n) (newborn by i (next_serial b.conn.last_serial)) (vacated n s (lookup n s)))) (hear_new by i (heard b c ws sh) n)
    placed n i hi (taken s' e pl lt ok) =
        let o = newborn by i (next_serial b.conn.last_serial) in
        subst (λ w. Stepped (pass_placed (far s b c ws) n o w) (hear_new by i (heard b c ws sh) n)) (sym e)
        (inserted n i s' pl (ap (λ k. ltb n (0xFF00_0000 + k)) (sym (vacating s b g n).servers) ∙ lt) (born_same s b n g hi ∙ ok))
    placed n i hi (lacking e lt ok) =
        let o = newborn by i (next_serial b.conn.last_serial) in
        let same = refused_same s n o NoSlot (lookup n s) hi g.fit refl (ap (λ w. w.0) e) in
        subst (λ w. Stepped (pass_placed (far s b c ws) n o w) (hear_new by i (heard b c ws sh) n)) (sym (e ∙ ap (λ m. (Err NoSlot, m)) same))
        (along_true (Alike a) (may_be_born n b.ledger) _ _ _ (born_same s b n g hi ∙ ok)
        (along_false (Alike a) (ltb n (0xFF00_0000 + b.server_places)) _ _ _ (ap (λ k. ltb n (0xFF00_0000 + k)) (sym (vacating s b g n).servers) ∙ lt)
        (fails (NoSlotLeft i n))))
    placed n i hi (unusable x e un ok) =
        let o = newborn by i (next_serial b.conn.last_serial) in
        let same = refused_same s n o x (lookup n s) hi g.fit refl (ap (λ w. w.0) e) in
        subst (λ w. Stepped (pass_placed (far s b c ws) n o w) (hear_new by i (heard b c ws sh) n)) (sym (e ∙ ap (λ m. (Err x, m)) same))
        (along_false (Alike a) (may_be_born n b.ledger) _ _ _ (born_same s b n g hi ∙ ok)
        (subst (λ r. Stepped (Err r, drawn s c (far s b c ws)) (Err (UnusableNumber i n), record { account = draw b; child = c; wants = ws; shown = sh })) (sym (un i n)) (fails (UnusableNumber i n))))

    new : (n i : ℕ) → Stepped (pass_new by i (far s b c ws) n) (hear_new by i (heard b c ws sh) n)
    new n i =
        cond_both (ltb n 0xFF00_0000) _ _ (λ w. Stepped w (hear_new by i (heard b c ws sh) n))
        (λ lo. along_false (Alike a) (may_be_born n b.ledger) _ _ _ (and_left (leb 0xFF00_0000 n) _ (lt-leb 0xFF00_0000 n (ltb-true n 0xFF00_0000 lo))) (fails (UnusableNumber i n)))
        (λ hi. placed n i hi (inserts n (newborn by i (next_serial b.conn.last_serial)) (vacated n s (lookup n s)) hi (vacating s b g n).fit))

    -- null
    null : Stepped (Ok (ObjectArg null_id), record { slots = s; last = b.conn.last_serial; child = c; wants = rest ws }) (Ok (ObjectArg null_id), record { account = b; child = c; wants = rest ws; shown = (null_id, holder 0 b.ledger) ∷ sh })
    null = shows null_id (subst (GivenOk b.ledger null_id) (sym (none_null s b g)) refl) (rest ws)

  -- an object that is named
  found : (s : Map Object) (b : Account) (c : Option ℕ) (ws : List ℕ) (sh : List (ObjectId × Option ℕ)) → Agreed s b → Same a b → ShownOk b sh → Off c → (n : ℕ) (v : Option Object) → lookup n s ≡ v → Stepped (pass_found t (far s b c ws) n (first ws) v) (hear_found t (heard b c ws sh) n v)
  found s b c ws sh g sm so oc n None e = record { answer = refl; state = alike g sm so oc }
  found s b c [] sh g sm so oc n (Some o) e = shows s b c [] sh g sm so oc (handle_of n o) (rightly s b g n o e) []
  found s b c (i ∷ is) sh g sm so oc n (Some o) e =
      along_both (Alike a) (fits_interface t i o.interface) _ _ _ _
      (λ _. shows s b c (i ∷ is) sh g sm so oc (handle_of n o) (rightly s b g n o e) is)
      (λ _. record { answer = refl; state = alike g sm so oc })

  object : (s : Map Object) (b : Account) (c : Option ℕ) (ws : List ℕ) (sh : List (ObjectId × Option ℕ)) → Agreed s b → Same a b → ShownOk b sh → Off c → (n : ℕ) → Stepped (pass_object t (far s b c ws) n) (hear_object t (heard b c ws sh) n)
  object s b c ws sh g sm so oc n =
      along_both (Alike a) (eqb n 0) _ _ _ _
      (λ _. null s b c ws sh g sm so oc)
      (λ _. subst (λ v. Stepped (pass_found t (far s b c ws) n (first ws) v) (hear_found t (heard b c ws sh) n (tenant_in b.ledger n))) (sym (g.look n)) (found s b c ws sh g sm so oc n (tenant_in b.ledger n) (g.look n)))

  -- every argument
  step : (p : Passing) (q : Hearing) (x : Argument ObjectId) → Alike a p q → Stepped (pass_arg t by d p x) (hear_arg t by d q x)
  step p q (Int x) k = record { answer = refl; state = k }
  step p q (Uint x) k = record { answer = refl; state = k }
  step p q (Fixed x) k = record { answer = refl; state = k }
  step p q (Str x) k = record { answer = refl; state = k }
  step p q (ObjectArg h) (alike g sm so oc) = object p.slots q.account q.child q.wants q.shown g sm so oc h.number
  step p q (NewId h) (alike g sm so oc) = new p.slots q.account q.child q.wants q.shown g sm so oc h.number (or_anonymous d.child)
  step p q (Array x) k = record { answer = refl; state = k }
  step p q (Fd x) k = record { answer = refl; state = k }

-- at first nothing was born
none_off : Off None
none_off k e one = let z : ◌≡◌ {A = ℕ} 0 1 = cc in omega arith

-- and so all of them, from the first on
pub all_passed : (t : Table) (a : Account) (s : Map Object) → Agreed s a → (f : Reading') → Both a (pass_all t f.receiver f.desc s a.conn.last_serial (laid 0 f.args)) (hear_all t a f)
all_passed t a s g f =
    let w = walks (Alike a) (pass_arg t f.receiver f.desc) (hear_arg t f.receiver f.desc) (step t f.receiver f.desc a) (laid 0 f.args) _ _ [] (alike g (same_at a) (λ x o y. absurd y) none_off) in
    record { stop = w.stop; room = w.room; state = w.state }

-- an event that was heard is in hand: slots and account agree
shown_both : (b : Account) (g : List (ObjectId × Option ℕ)) (sh : List (ObjectId × Option ℕ)) → ShownOk b sh → ShownOk b g → ShownOk b (sh ++ g)
shown_both b g [] h k x o y = k x o y
shown_both b g (s ∷ sh) h k x o (inl e) = h x o (inl e)
shown_both b g (s ∷ sh) h k x o (inr y) = shown_both b g sh (λ x o y. h x o (inr y)) k x o y

pub handing : (n : ℕ) (f : Reading') (a : Account) (s₀ : Map Object) (p : Passing) (q : Hearing) → Agreed s₀ a → lookup f.sender s₀ ≡ Some f.receiver → (f.sender ≡ 1 → ⊥) → Alike a p q → Agreed p.slots (handed n f q a)
handing n f a s₀ p q ga e ne (alike g sm so oc) =
    let b = q.account in
    let r = sm.grows _ _ (rightly s₀ a ga f.sender f.receiver e) in
    record { fit = g.fit; clients = g.clients; servers = g.servers; few = g.few; look = g.look; reach = g.reach; order = g.order; unique = g.unique; count = g.count; serial = g.serial; falls = g.falls; display = g.display; given = shown_both b _ q.shown so (shown_more b (handle_of f.sender f.receiver) (holder f.sender a.ledger) a.given (λ x o y. sm.grows x o (ga.given x o y)) r); hand = (ne, r, oc) }
