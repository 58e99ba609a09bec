-- What holds of slots and account together, and the changes that keep it.
use Rattle.std.proofs.Common.{◌≡◌, ℕ, ◌+◌, ◌-◌, ◌%◌, ◌^◌, ◌<◌, Bool, true, false, cond, ◌&&◌, ◌||◌, eqb, List, ◌∷◌, length, is_some, Some, None, Option, sym, refl, ap, ◌∙◌, subst, ap₂, inl, inr, mod-eq_of_lt, arith}
use native.Mathlib.Nat.{mod-add-mod}
use Rattle.std.proofs.lemmas.Bool.{cond_both, eq-eqb, ne_eqb, cases_eq, and_from, and_parts, ltb-true}
use Rattle.std.specs.Option.{option_map}
use Rattle.object_map.specs.Laws.{occupied}
use Rattle.object_map.specs.Map.{Map, fits, lookup, lawful}
use Rattle.object_map.specs.Runs.{member, first, dense}
use Rattle.protocol.specs.Lookups.{display_id}
use Rattle.protocol.specs.declared.id.ObjectId.{ObjectId}
use Rattle.transport.specs.Ends.{End}
use Rattle.client.specs.Calls.{acknowledged}
use Rattle.client.specs.Course.{opening}
use Rattle.client.specs.Events.{vacated}
use Rattle.client.specs.Law.{Given}
use Rattle.client.specs.Ledger.{Tenancy, Ledger, tenant_in, holder, overs, numbers, amend, conclude, Account, with_ledger, with_conn, with_given, give, draw, bear}
use Rattle.client.specs.Runs.{created, display_object}
use Rattle.client.specs.State.{Conn, handle_of, changed_at, emptied_at, server_marked, next_serial}
use Rattle.client.specs.declared.connection.Phase.{Phase}
use Rattle.client.specs.declared.connection.Phase.TheVariants.{Idle, Reading, Handed}
use Rattle.client.specs.declared.object.Object.{Object}
use Rattle.client.proofs.Slots.{reached, one, Poked, emptied_poked, changed_poked, unchanged, Placed, opened}
use Rattle.client.proofs.Tenants.{Unique, Descends, GivenOk, Keeps, amend_same, amend_other, amend_unique, amend_overs, amend_given, amend_descends, amend_numbers, amend_length, conclude_nobody, conclude_unmarked, conclude_same, conclude_other, conclude_unique, conclude_given, conclude_descends, conclude_numbers, conclude_length, conclude_overs, given_more, descends_up, holds, holds_none, member_sits}

-- the display; only the server's mark may change
abbrev pub display_as : Bool → Object
display_as b = record { interface = 0; version = 1; «data» = 0; serial = 0; client_destroyed = false; server_destroyed = b }

-- neither the receiver nor the child of an event in hand is the display, and the receiver is named as the tenancy that
-- had the event
abbrev pub HandOk : Ledger → Option ℕ → Phase → Type 0
HandOk l k Idle = Unit {0}
HandOk l k (Reading n) = Unit {0}
HandOk l k (Handed n e) = (e.receiver.number ≡ 1 → ⊥) × GivenOk l e.receiver k × ((c : ℕ) → e.child ≡ Some c → c ≡ 1 → ⊥)

pub record Agreed (s : Map Object) (a : Account) : Type 0 where
  pub fit : fits s ≡ true
  pub clients : s.client_places ≡ a.client_places
  pub servers : s.server_places ≡ a.server_places
  pub few : a.client_places < 2 ^ 16
  pub look : (n : ℕ) → lookup n s ≡ tenant_in a.ledger n
  pub reach : (n : ℕ) → reached n s ≡ member n (numbers a.ledger)
  pub order : dense (numbers a.ledger) ≡ true
  pub unique : Unique a.ledger
  pub count : length a.ledger ≡ overs a.ledger + occupied s
  pub serial : a.conn.last_serial ≡ a.drawn % 2 ^ 32
  pub falls : a.drawn < 2 ^ 32 → Descends (a.drawn + 1) a.ledger
  pub display : (b : Bool) × (tenant_in a.ledger 1 ≡ Some (display_as b))
  pub given : (x : ObjectId) (o : Option ℕ) → Given (x, o) a.given → GivenOk a.ledger x o
  pub hand : HandOk a.ledger a.hand a.conn.phase

pub hand_like : (l l' : Ledger) (k : Option ℕ) (p : Phase) → ((x : ObjectId) (o : Option ℕ) → GivenOk l x o → GivenOk l' x o) → HandOk l k p → HandOk l' k p
hand_like l l' k Idle f h = tt
hand_like l l' k (Reading n) f h = tt
hand_like l l' k (Handed n e) f h = (h.0, f e.receiver k h.1, h.2)

-- slots and tenancies that differ at one number
looks_poked : (n : ℕ) (v : Option Object) (s s' : Map Object) (l l' : Ledger) → Poked n v s s' → ((k : ℕ) → lookup k s ≡ tenant_in l k) → v ≡ tenant_in l' n → ((k : ℕ) → (k ≡ n → ⊥) → tenant_in l' k ≡ tenant_in l k) → (k : ℕ) → lookup k s' ≡ tenant_in l' k
looks_poked n v s s' l l' p old here other k = elim (cases_eq k n) [ inl e ↦ rw e (p.here ∙ here) | inr ne ↦ p.other k ne ∙ (old k ∙ sym (other k ne)) ]

same_reach : (k n : ℕ) (b r : Bool) (f : ℕ → Bool) → f k ≡ r → (b ≡ true → f n ≡ true) → ((eqb k n && b) || r) ≡ r
same_reach k n true true f e h = grind (arith)
same_reach k n true false f e h = elim (cases_eq k n) [ inl q ↦ (let z : false ≡ true = sym e ∙ (ap f q ∙ h refl) in sym (rw (eq-eqb k n q) z)) | inr ne ↦ rw (ne_eqb k n ne) ]
same_reach k n false r f e h = grind (arith)

one_mapped : (f : Object → Object) (v : Option Object) → one (option_map f v) ≡ one v
one_mapped f None = refl
one_mapped f (Some o) = refl

some_since : (n : ℕ) (s : Map Object) (l : Ledger) → ((k : ℕ) → lookup k s ≡ tenant_in l k) → ((k : ℕ) → reached k s ≡ member k (numbers l)) → is_some (lookup n s) ≡ true → reached n s ≡ true
some_since n s l look reach e = go (lookup n s) refl e
  where
    go : (v : Option Object) → lookup n s ≡ v → is_some v ≡ true → reached n s ≡ true
    go None q e = let z : ◌≡◌ {A = ℕ} 0 1 = cc in absurd (omega arith)
    go (Some o) q e = reach n ∙ member_sits n l o (sym (look n) ∙ q)

some_mapped : (f : Object → Object) (v : Option Object) → is_some (option_map f v) ≡ is_some v
some_mapped f None = refl
some_mapped f (Some o) = refl

abbrev marks : Option Object → Bool
marks None = true
marks (Some o) = o.client_destroyed

module _ (s : Map Object) (a : Account) (g : Agreed s a) where
  -- an object is changed; its handle stays, and the display stays what it is
  pub amending : (f : Object → Object) (n : ℕ) → Keeps f → (n ≡ 1 → (b : Bool) → (c : Bool) × (f (display_as b) ≡ display_as c)) → Agreed (changed_at f n s) (with_ledger (amend f n a.ledger) a)
  amending f n kp disp =
      let l = a.ledger in
      let p = changed_poked f n s in
      let pc = p.count in
      let gc = g.count in
      let om = one_mapped f (lookup n s) in
      let ov = amend_overs f n l in
      let ln = amend_length f n l in
      let nm = amend_numbers f n l in
      record {
        fit = p.fit ∙ g.fit;
        clients = p.clients ∙ g.clients;
        servers = p.servers ∙ g.servers;
        few = g.few;
        look = looks_poked n _ s _ l (amend f n l) p g.look (ap (option_map f) (g.look n) ∙ sym (amend_same f n l)) (λ k ne. amend_other f n k l ne);
        reach = λ k. p.reach k ∙ (same_reach k n _ _ (λ j. reached j s) refl (λ e. some_since n s l g.look g.reach (sym (some_mapped f (lookup n s)) ∙ e)) ∙ (g.reach k ∙ ap (member k) (sym nm)));
        order = ap dense nm ∙ g.order;
        unique = amend_unique f n l g.unique;
        count = omega arith;
        serial = g.serial;
        falls = λ b. amend_descends f kp n _ l (g.falls b);
        display = elim (cases_eq n 1) [ inl e ↦ at_one e | inr ne ↦ (g.display.0, amend_other f n 1 l (λ q. ne (sym q)) ∙ g.display.1) ];
        given = λ x o y. amend_given f kp n l x o (g.given x o y);
        hand = hand_like l (amend f n l) a.hand a.conn.phase (amend_given f kp n l) g.hand;
      }
    where
      at_one : n ≡ 1 → (b : Bool) × (tenant_in (amend f n a.ledger) 1 ≡ Some (display_as b))
      at_one e =
          let d = disp e g.display.0 in
          let q : tenant_in (amend f n a.ledger) n ≡ Some (f (display_as g.display.0)) = amend_same f n a.ledger ∙ ap (option_map f) (ap (tenant_in a.ledger) e ∙ g.display.1) in
          (d.0, ap (tenant_in (amend f n a.ledger)) (sym e) ∙ (q ∙ ap Some d.1))

  -- nothing ends
  idle_end : (n : ℕ) → conclude n a.ledger ≡ a.ledger → Agreed s (with_ledger (conclude n a.ledger) a)
  idle_end n e = rw e g

  ne_display : (n : ℕ) (v : Option Object) → lookup n s ≡ v → ((b : Bool) → v ≡ Some (display_as b) → ⊥) → 1 ≡ n → ⊥
  ne_display n v e off q = off g.display.0 (sym e ∙ (g.look n ∙ (ap (tenant_in a.ledger) (sym q) ∙ g.display.1)))

  -- a tenancy ends
  ending : (n : ℕ) (o : Object) → lookup n s ≡ Some o → o.client_destroyed ≡ true → Agreed (emptied_at n s) (with_ledger (conclude n a.ledger) a)
  ending n o e d =
      let l = a.ledger in
      let p = emptied_poked n o s e in
      let pc = p.count in
      let gc = g.count in
      let ot : one (lookup n s) ≡ 1 = ap one e in
      let t : tenant_in l n ≡ Some o = sym (g.look n) ∙ e in
      let ov = conclude_overs n l o g.unique t d in
      let ln = conclude_length n l in
      let nm = conclude_numbers n l in
      let ne : 1 ≡ n → ⊥ = ne_display n (Some o) e (λ b q. let z : true ≡ false = sym d ∙ ap (λ (v : Option Object). marks v) q in let y : ◌≡◌ {A = ℕ} 0 1 = cc in omega arith) in
      record {
        fit = p.fit ∙ g.fit;
        clients = p.clients ∙ g.clients;
        servers = p.servers ∙ g.servers;
        few = g.few;
        look = looks_poked n None s _ l (conclude n l) p g.look (sym (conclude_same n l o g.unique t d)) (λ k ne. conclude_other n k l ne);
        reach = λ k. p.reach k ∙ (same_reach k n _ _ (λ j. reached j s) refl (λ e. let y : ◌≡◌ {A = ℕ} 0 1 = cc in absurd (omega arith)) ∙ (g.reach k ∙ ap (member k) (sym nm)));
        order = ap dense nm ∙ g.order;
        unique = conclude_unique n l g.unique;
        count = omega arith;
        serial = g.serial;
        falls = λ b. conclude_descends n _ l (g.falls b);
        display = (g.display.0, conclude_other n 1 l ne ∙ g.display.1);
        given = λ x o y. conclude_given n l x o (g.given x o y);
        hand = hand_like l (conclude n l) a.hand a.conn.phase (conclude_given n l) g.hand;
      }

  -- a slot is emptied where its object is client_destroyed
  pub vacating : (n : ℕ) → Agreed (vacated n s (lookup n s)) (with_ledger (conclude n a.ledger) a)
  vacating n = go (lookup n s) refl
    where
      go : (v : Option Object) → lookup n s ≡ v → Agreed (vacated n s v) (with_ledger (conclude n a.ledger) a)
      go None e = idle_end n (conclude_nobody n a.ledger (sym (g.look n) ∙ e))
      go (Some o) e = cond_both o.client_destroyed (emptied_at n s) s (λ x. Agreed x (with_ledger (conclude n a.ledger) a)) (λ d. ending n o e d) (λ d. idle_end n (conclude_unmarked n a.ledger o g.unique (sym (g.look n) ∙ e) d))

  -- another connection, with the same last serial
  pub reconnecting : (c : Conn) → c.last_serial ≡ a.conn.last_serial → HandOk a.ledger a.hand c.phase → Agreed s (with_conn c a)
  reconnecting c e h = record { fit = g.fit; clients = g.clients; servers = g.servers; few = g.few; look = g.look; reach = g.reach; order = g.order; unique = g.unique; count = g.count; serial = e ∙ g.serial; falls = g.falls; display = g.display; given = g.given; hand = h }

  next_is : next_serial a.conn.last_serial ≡ (a.drawn + 1) % 2 ^ 32
  next_is = rw (g.serial, mod-add-mod)

  -- a serial is drawn
  pub drawing : Agreed s (draw a)
  drawing = record { fit = g.fit; clients = g.clients; servers = g.servers; few = g.few; look = g.look; reach = g.reach; order = g.order; unique = g.unique; count = g.count; serial = next_is; falls = λ l. descends_up (a.drawn + 1) (a.drawn + 1 + 1) a.ledger (omega arith) (g.falls (omega arith)); display = g.display; given = g.given; hand = g.hand }

  -- a handle is given for its tenancy
  pub giving_for : (h : ObjectId) (k : Option ℕ) → GivenOk a.ledger h k → Agreed s (with_given ((h, k) ∷ a.given) a)
  giving_for h k ok = record { fit = g.fit; clients = g.clients; servers = g.servers; few = g.few; look = g.look; reach = g.reach; order = g.order; unique = g.unique; count = g.count; serial = g.serial; falls = g.falls; display = g.display; given = more; hand = g.hand }
    where
      more : (x : ObjectId) (o : Option ℕ) → Given (x, o) ((h, k) ∷ a.given) → GivenOk a.ledger x o
      more x o (inl e) = let ex : x ≡ h = ap (λ p. p.0) e in let eo : o ≡ k = ap (λ p. p.1) e in rw (ex, eo) ok
      more x o (inr y) = g.given x o y

  -- whoever is at a number is rightly named
  pub rightly : (n : ℕ) (o : Object) → lookup n s ≡ Some o → GivenOk a.ledger (handle_of n o) (holder n a.ledger)
  rightly n o e = holds n a.ledger o (sym (g.look n) ∙ e)

  pub giving : (n : ℕ) (o : Object) → lookup n s ≡ Some o → Agreed s (give (handle_of n o) a)
  giving n o e = giving_for (handle_of n o) (holder n a.ledger) (rightly n o e)

  -- nobody is at 0
  pub none_null : holder 0 a.ledger ≡ None
  none_null = holds_none 0 a.ledger (sym (g.look 0))

-- an object is born, nobody being there but one that is client_destroyed
pub bearing : (s s' : Map Object) (a : Account) (n : ℕ) (o : Object) → Placed n o s s' → o.serial ≡ next_serial a.conn.last_serial → Agreed s (with_ledger (conclude n a.ledger) a) → Agreed s' (bear n o a)
bearing s s' a n o p ser g =
    let l = conclude n a.ledger in
    let pk = p.poked in
    let pc = pk.count in
    let gc = g.count in
    let ot : one (lookup n s) ≡ 0 = ap one p.was in
    let t : tenant_in l n ≡ None = sym (g.look n) ∙ p.was in
    let ne : 1 ≡ n → ⊥ = ne_display s (with_ledger l a) g n None p.was (λ b q. let y : ◌≡◌ {A = ℕ} 0 1 = cc in omega arith) in
    let se : o.serial ≡ (a.drawn + 1) % 2 ^ 32 = ser ∙ next_is s (with_ledger l a) g in
    let r : Tenancy = record { number = n; object = o; over = false } in
    record {
      fit = pk.fit ∙ g.fit;
      clients = pk.clients ∙ g.clients;
      servers = pk.servers ∙ g.servers;
      few = g.few;
      look = looks_poked n (Some o) s s' l (r ∷ l) pk g.look (rw (eq-eqb n n refl)) (λ k ne'. rw (ne_eqb n k (λ q. ne' (sym q))));
      reach = λ k. pk.reach k ∙ ap₂ (λ x y. x || y) (and_true (eqb k n)) (g.reach k);
      order = and_from _ _ (ap (λ b. first n || b) (sym (g.reach (n - 1))) ∙ p.next) g.order;
      unique = (λ _. t, g.unique);
      count = omega arith;
      serial = next_is s (with_ledger l a) g;
      falls = λ lt. let e : (a.drawn + 1) % 2 ^ 32 ≡ a.drawn + 1 = mod-eq_of_lt lt in (omega arith, subst (λ b. Descends b l) (sym (se ∙ e)) (g.falls (omega arith)));
      display = (g.display.0, ap (λ b. cond b (Some o) (tenant_in l 1)) (first_off ne) ∙ g.display.1);
      given = λ x k y. given_more r l x k (g.given x k y);
      hand = hand_like l (r ∷ l) a.hand a.conn.phase (given_more r l) g.hand;
    }
  where
    and_true : (b : Bool) → (b && true) ≡ b
    and_true true = refl
    and_true false = refl

    first_off : (1 ≡ n → ⊥) → (eqb n 1 && true) ≡ false
    first_off ne = rw (ne_eqb n 1 (λ q. ne (sym q)))

-- delete_id
pub acknowledging : (s : Map Object) (a : Account) (g : Agreed s a) (n : ℕ) → Agreed (acknowledged n s (lookup n s)) (with_ledger (amend server_marked n (conclude n a.ledger)) a)
acknowledging s a g n =
    subst (λ x. Agreed x (with_ledger (amend server_marked n (conclude n a.ledger)) a)) (go (lookup n s) refl)
    (amending (vacated n s (lookup n s)) (with_ledger (conclude n a.ledger) a) (vacating s a g n) server_marked n (λ o. (refl, refl)) (λ _ b. (true, refl)))
  where
    go : (v : Option Object) → lookup n s ≡ v → changed_at server_marked n (vacated n s v) ≡ acknowledged n s v
    go None e = unchanged server_marked n s e
    go (Some o) e =
        elim o.client_destroyed as (λ b. changed_at server_marked n (cond b (emptied_at n s) s) ≡ cond b (emptied_at n s) (changed_at server_marked n s)) [
          | true ↦ unchanged server_marked n (emptied_at n s) (emptied_poked n o s e).here
          | false ↦ refl
        ]

-- the beginning
pub beginning : (number : ℕ) (c s : List (Option Object)) (e : End) → lawful c s ≡ true → Agreed (created number c s e).slots (opening number (length c) (length s))
beginning number c s e l =
    let o = opened number c s e l in
    record {
      fit = o.fit;
      clients = o.clients;
      servers = o.servers;
      few = ltb-true _ _ (and_parts _ _ (and_parts _ _ l).1).0;
      look = λ n. elim (cases_eq n 1) [ inl q ↦ rw q o.display | inr ne ↦ o.other n ne ∙ sym (ap (λ b. cond b (Some display_object) None) (off n ne)) ];
      reach = λ n. o.reach n ∙ sym (or_false (eqb n 1));
      order = refl;
      unique = (λ _. refl, tt);
      count = let oc = o.count in omega arith;
      serial = refl;
      falls = λ _. (omega arith, tt);
      display = (false, refl);
      given = λ x k y. elim y [ inl q ↦ (let ex : x ≡ display_id = ap (λ p. p.0) q in let ek : k ≡ Some 0 = ap (λ p. p.1) q in rw (ex, ek) refl) | inr z ↦ absurd z ];
      hand = tt;
    }
  where
    off : (n : ℕ) → (n ≡ 1 → ⊥) → (eqb 1 n && true) ≡ false
    off n ne = rw (ne_eqb 1 n (λ q. ne (sym q)))

    or_false : (b : Bool) → (b || false) ≡ b
    or_false true = refl
    or_false false = refl
