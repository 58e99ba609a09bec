-- The calls that neither take a frame nor send one take the course that the history gives them.
use Rattle.std.proofs.Common.{◌≡◌, ℕ, Bool, true, false, cond, not, ◌&&◌, eqb, ltb, leb, ◌∷◌, is_some, Some, None, Ok, Err, Option, sym, refl, ap, ◌∙◌, subst, arith}
use Rattle.std.specs.Option.{option_map}
use Rattle.std.proofs.lemmas.Bool.Decides.{nat_tests}
use Rattle.std.proofs.lemmas.Bool.{cond_both, eqb-false, ne_eqb, and_from, and_left, and_right, not_from_true, not_from_false}
use Rattle.object_map.specs.Map.{Map, lookup}
use Rattle.protocol.specs.declared.error.WaylandError.{WaylandError}
use Rattle.protocol.specs.declared.error.WaylandError.TheVariants.{Io}
use Rattle.protocol.specs.declared.id.ObjectId.{ObjectId}
use Rattle.protocol.specs.declared.refusal.Refusal.TheVariants.{BadToken}
use Rattle.transport.specs.Ends.{End, Grounded, fault}
use Rattle.client.specs.Calls.{prepare, cancel, read, resume, settle, destroy_object, get_data, set_data, info, flush, conn_left, is_idle, holds_intent, one_less, waiting_of, reading_alone, counted, data_stands, with_child_data, settling_in, destroying, getting, setting, informing, flushing_end, flushing_in, answered}
use Rattle.client.specs.Course.{known, has, may, course, in_hand, told, read_alone, child_data, settle_course, destroy_if, destroy_course, get_course, info_course, flush_course}
use Rattle.client.specs.Ledger.{amend, Account, with_ledger, with_conn, with_given, with_hand}
use Rattle.client.specs.Requests.{Table}
use Rattle.client.specs.State.{client_marked, both_marked, with_data, seen_in, bearing, resolved, changed_at, Conn, with_phase, with_fault, none, done, waits, faulted, Left, refuse}
use Rattle.client.specs.declared.connection.HandedEvent.{HandedEvent}
use Rattle.client.specs.declared.connection.Phase.{Phase}
use Rattle.client.specs.declared.connection.Phase.TheVariants.{Idle, Reading, Handed}
use Rattle.client.specs.declared.connection.ReadIntent.{ReadIntent}
use Rattle.client.specs.declared.connection.WaitingRead.{WaitingRead}
use Rattle.client.specs.declared.object.Object.{Object}
use Rattle.client.proofs.Agreement.{HandOk, Agreed, amending, reconnecting, giving, giving_for}
use Rattle.client.proofs.Slots.{changed_poked}
use Rattle.client.proofs.Steps.{moment_at, Came, Stepped, refusing, accepting}

-- what a handle resolves to is at its number
pub resolved_at : (s : Map Object) (h : ObjectId) (o : Object) → resolved (seen_in s) h ≡ Some o → lookup h.number s ≡ Some o
resolved_at s h o e = go (lookup h.number s) e
  where
    go : (v : Option Object) → bearing h.serial v ≡ Some o → v ≡ Some o
    go None e = let z : ◌≡◌ {A = ℕ} 0 1 = cc in absurd (omega arith)
    go (Some x) e = grind (arith, nat_tests)

-- no event is in hand any more
unhanding : (s : Map Object) (a : Account) (g : Agreed s a) (n : ℕ) → Agreed s (with_hand None (with_conn (with_phase (Reading n) a.conn) a))
unhanding s a g n = record { fit = g.fit; clients = g.clients; servers = g.servers; few = g.few; look = g.look; reach = g.reach; order = g.order; unique = g.unique; count = g.count; serial = g.serial; falls = g.falls; display = g.display; given = g.given; hand = tt }

-- an object that is not the display gets its data number
filling : (s : Map Object) (a : Account) (g : Agreed s a) (d n : ℕ) → (n ≡ 1 → ⊥) → Agreed (changed_at (with_data d) n s) (with_ledger (amend (with_data d) n a.ledger) a)
filling s a g d n ne = amending s a g (with_data d) n (λ o. (refl, refl)) (λ q b. absurd (ne q))

child_filling : (s : Map Object) (a : Account) (g : Agreed s a) (d : ℕ) (c : Option ℕ) → ((n : ℕ) → c ≡ Some n → n ≡ 1 → ⊥) → Agreed (with_child_data c d s) (with_ledger (child_data c d a.ledger) a)
child_filling s a g d None ne = g
child_filling s a g d (Some n) ne = filling s a g d n (ne n refl)

module _ (t : Table) (a : Account) (s : Map Object) (e : End) (g : Agreed s a) where
  -- slots and history resolve alike
  same_resolved : (h : ObjectId) → resolved (seen_in s) h ≡ resolved (known a) h
  same_resolved h = ap (bearing h.serial) (g.look h.number)

  -- reads
  pub prepare_step : Stepped t a e prepare (answered t (moment_at a s e) prepare)
  prepare_step =
      cond_both (is_idle a.conn.phase && ltb a.conn.reads 65535) _ _ (Stepped t a e prepare)
      (λ y. accepting a _ _ _ y refl refl refl refl (reconnecting s a g _ refl g.hand))
      (λ y. refusing a s e _ _ _ _ y g)

  pub cancel_step : (i : ReadIntent) → Stepped t a e (cancel i) (answered t (moment_at a s e) (cancel i))
  cancel_step i =
      cond_both (holds_intent a.conn i) _ _ (Stepped t a e (cancel i))
      (λ y. accepting a _ _ _ y refl refl refl refl (cond_both (eqb a.conn.reads 1) _ _ (λ (c : Conn). Agreed s (with_conn c a)) (λ _. reconnecting s a g _ refl g.hand) (λ _. reconnecting s a g _ refl g.hand)))
      (λ y. refusing a s e _ _ _ _ y g)

  alone_step : (ok : Bool) → ok ≡ true → (f : Option WaylandError) → Came a ok (read_alone a e f) (reading_alone (moment_at a s e) f)
  alone_step ok y None = accepting a _ _ _ y refl refl refl refl (reconnecting s a g _ refl tt)
  alone_step ok y (Some f) = accepting a _ _ _ y refl refl refl refl (reconnecting s a g _ refl g.hand)

  pub read_step : (i : ReadIntent) → Stepped t a e (read i) (answered t (moment_at a s e) (read i))
  read_step i =
      cond_both (holds_intent a.conn i) _ _ (Stepped t a e (read i))
      (λ y. elim (eqb a.conn.reads 1) as (λ b. Came a (may t a (read i)) (cond b (read_alone a e a.conn.fault) (told (waits (waiting_of a.conn)) e (with_conn (one_less a.conn) a))) (cond b (reading_alone (moment_at a s e) a.conn.fault) (conn_left (waits (waiting_of a.conn)) (one_less a.conn) (moment_at a s e)))) [
        | true ↦ alone_step _ y a.conn.fault
        | false ↦ accepting a _ _ _ y refl refl refl refl (reconnecting s a g _ refl g.hand)
      ])
      (λ y. refusing a s e _ _ _ _ y g)

  pub resume_step : (w : WaitingRead) → Stepped t a e (resume w) (answered t (moment_at a s e) (resume w))
  resume_step w =
      cond_both (eqb w.connection a.conn.number) _ _ (Stepped t a e (resume w))
      (λ y. accepting a _ _ _ y refl refl refl refl g)
      (λ y. refusing a s e _ _ _ _ y g)

  -- settle
  settle_in : (h : HandedEvent) (d : ℕ) (p : Phase) → HandOk a.ledger a.hand p → Came a (in_hand h d p) (settle_course a e d p) (settling_in (moment_at a s e) h d p)
  settle_in h d Idle k = refusing a s e _ _ _ _ refl g
  settle_in h d (Reading n) k = refusing a s e _ _ _ _ refl g
  settle_in h d (Handed n v) k =
      cond_both (eqb h.number v.receiver.number && eqb h.serial v.receiver.serial) _ _ P
      (λ y. cond_both (data_stands v.child d) _ _ P
      (λ z. accepting a _ _ _ (and_from _ _ y z) refl refl refl refl (agreed v.destroys))
      (λ z. refusing a s e _ _ _ _ (and_right (eqb h.number v.receiver.number && eqb h.serial v.receiver.serial) _ z) g))
      (λ y. refusing a s e _ _ _ _ (and_left _ _ y) g)
    where
      P : Left → Type 0
      P x = Came a (in_hand h d (Handed n v)) (settle_course a e d (Handed n v)) x

      agreed : (b : Bool) → Agreed (with_child_data v.child d (cond b (changed_at both_marked v.receiver.number s) s)) (with_hand None (with_conn (with_phase (Reading (counted n)) a.conn) (with_ledger (child_data v.child d (cond b (amend both_marked v.receiver.number a.ledger) a.ledger)) (with_given (cond b ((v.receiver, a.hand) ∷ a.given) a.given) a))))
      agreed true =
          let a1 = with_given ((v.receiver, a.hand) ∷ a.given) a in
          let g1 = giving_for s a g v.receiver a.hand k.1 in
          let g2 = amending s a1 g1 both_marked v.receiver.number (λ o. (refl, refl)) (λ q b. absurd (k.0 q)) in
          unhanding _ _ (child_filling _ _ g2 d v.child k.2) (counted n)
      agreed false = unhanding _ _ (child_filling s a g d v.child k.2) (counted n)

  pub settle_step : (h : HandedEvent) (d : ℕ) → Stepped t a e (settle h d) (answered t (moment_at a s e) (settle h d))
  settle_step h d =
      elim (eqb h.connection a.conn.number) as (λ b. Came a (b && in_hand h d a.conn.phase) (settle_course a e d a.conn.phase) (cond b (settling_in (moment_at a s e) h d a.conn.phase) (refuse BadToken (moment_at a s e) none))) [
        | true ↦ settle_in h d a.conn.phase g.hand
        | false ↦ refusing a s e _ _ _ _ refl g
      ]

  -- handles
  destroying_agreed : (h : ObjectId) (o : Object) → lookup h.number s ≡ Some o → (h.number ≡ 1 → ⊥) → Agreed (changed_at client_marked h.number s) (destroy_if true h.number o a)
  destroying_agreed h o at ne =
      giving (changed_at client_marked h.number s) (with_ledger (amend client_marked h.number a.ledger) a) (amending s a g client_marked h.number (λ o. (refl, refl)) (λ q b. absurd (ne q))) h.number (client_marked o) ((changed_poked client_marked h.number s).here ∙ ap (option_map client_marked) at)

  destroy_in : (h : ObjectId) (v : Option Object) → resolved (seen_in s) h ≡ v → Came a (has v (λ o. not o.client_destroyed && not (eqb h.number 1))) (destroy_course a e h v) (destroying (moment_at a s e) h v)
  destroy_in h None q = refusing a s e _ _ _ _ refl g
  destroy_in h (Some o) q =
      cond_both o.client_destroyed _ _ (Came a (not o.client_destroyed && not (eqb h.number 1)) (destroy_course a e h (Some o)))
      (λ y. refusing a s e _ _ _ _ (and_left _ _ (not_from_true _ y)) g)
      (λ y. cond_both (eqb h.number 1) _ _ (Came a (not o.client_destroyed && not (eqb h.number 1)) (destroy_course a e h (Some o)))
      (λ z. refusing a s e _ _ _ _ (and_right _ _ (not_from_true _ z)) g)
      (λ z. accepting a _ _ _ (and_from _ _ (not_from_false _ y) (not_from_false _ z)) refl refl refl refl (destroying_agreed h o (resolved_at s h o q) (eqb-false _ _ z))))

  pub destroy_step : (h : ObjectId) → Stepped t a e (destroy_object h) (answered t (moment_at a s e) (destroy_object h))
  destroy_step h = subst (λ (v : Option Object). Came a (has v (λ o. not o.client_destroyed && not (eqb h.number 1))) (destroy_course a e h v) (destroying (moment_at a s e) h (resolved (seen_in s) h))) (same_resolved h) (destroy_in h (resolved (seen_in s) h) refl)

  get_in : (v : Option Object) → Came a (is_some v) (get_course a e v) (getting (moment_at a s e) v)
  get_in None = refusing a s e _ _ _ _ refl g
  get_in (Some o) = accepting a _ _ _ refl refl refl refl refl g

  pub get_step : (h : ObjectId) → Stepped t a e (get_data h) (answered t (moment_at a s e) (get_data h))
  get_step h = subst (λ (v : Option Object). Stepped t a e (get_data h) (getting (moment_at a s e) v)) (sym (same_resolved h)) (get_in (resolved (known a) h))

  set_in : (h : ObjectId) (d : ℕ) (v : Option Object) → Came a (is_some v && (not (eqb h.number 1) && not (eqb d 0))) (course t a e (set_data h d)) (setting (moment_at a s e) h d v)
  set_in h d None = refusing a s e _ _ _ _ refl g
  set_in h d (Some o) =
      cond_both (eqb h.number 1) _ _ (Came a (true && (not (eqb h.number 1) && not (eqb d 0))) (course t a e (set_data h d)))
      (λ y. refusing a s e _ _ _ _ (and_left _ _ (not_from_true _ y)) g)
      (λ y. cond_both (eqb d 0) _ _ (Came a (true && (not (eqb h.number 1) && not (eqb d 0))) (course t a e (set_data h d)))
      (λ z. refusing a s e _ _ _ _ (and_right _ _ (not_from_true _ z)) g)
      (λ z. accepting a _ _ _ (and_from _ _ (not_from_false _ y) (not_from_false _ z)) refl refl refl refl (filling s a g d h.number (eqb-false _ _ y))))

  pub set_step : (h : ObjectId) (d : ℕ) → Stepped t a e (set_data h d) (answered t (moment_at a s e) (set_data h d))
  set_step h d = subst (λ (v : Option Object). Stepped t a e (set_data h d) (setting (moment_at a s e) h d v)) (sym (same_resolved h)) (set_in h d (resolved (known a) h))

  info_in : (h : ObjectId) (v : Option Object) → Came a (has v (λ o. not o.client_destroyed)) (info_course a e h v) (informing (moment_at a s e) h v)
  info_in h None = refusing a s e _ _ _ _ refl g
  info_in h (Some o) =
      cond_both o.client_destroyed _ _ (Came a (not o.client_destroyed) (info_course a e h (Some o)))
      (λ y. refusing a s e _ _ _ _ (not_from_true _ y) g)
      (λ y. accepting a _ _ _ (not_from_false _ y) refl refl refl refl g)

  pub info_step : (h : ObjectId) → Stepped t a e (info h) (answered t (moment_at a s e) (info h))
  info_step h = subst (λ (v : Option Object). Stepped t a e (info h) (informing (moment_at a s e) h v)) (sym (same_resolved h)) (info_in h (resolved (known a) h))

  -- flush
  flush_in : (f : Option WaylandError) → Grounded e → Came a true (flush_course a e f) (flushing_in (moment_at a s e) f)
  flush_in (Some f) gr = accepting a _ _ _ refl refl refl refl refl g
  flush_in None gr =
      elim (eqb e.write_stop 0) as (λ b. Came a true
      (cond b (told (cond (leb e.hold e.room) done (faulted (Io (fault 0 11)))) e a) (told (faulted (Io (fault 0 e.write_stop))) e (with_conn (with_fault (Io (fault 0 e.write_stop)) a.conn) a)))
      (flushing_end (moment_at a s e) (cond b (cond (leb e.hold e.room) (Ok tt) (Err (fault 0 11))) (Err (fault 0 e.write_stop))))) [
        | true ↦ elim (leb e.hold e.room) as (λ b. Came a true (told (cond b done (faulted (Io (fault 0 11)))) e a) (flushing_end (moment_at a s e) (cond b (Ok tt) (Err (fault 0 11))))) [
          | true ↦ accepting a _ _ _ refl refl refl refl refl g
          | false ↦ accepting a _ _ _ refl refl refl refl refl g
        ]
        | false ↦ accepting a _ _ _ refl refl refl refl (ap (λ b. cond b a.conn (with_fault (Io (fault 0 e.write_stop)) a.conn)) (ne_eqb e.write_stop 11 gr.stops)) (reconnecting s a g _ refl g.hand)
      ]

  pub flush_step : Grounded e → Stepped t a e flush (answered t (moment_at a s e) flush)
  flush_step gr = flush_in a.conn.fault gr
