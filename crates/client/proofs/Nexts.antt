-- How next takes the course that the history gives it.
use Rattle.std.proofs.Common.{◌≡◌, ℕ, Bool, true, false, cond, ◌&&◌, eqb, List, length, Some, None, Ok, Err, Option, sym, refl, ap, ◌∙◌, subst, ap₂}
use Rattle.std.proofs.lemmas.Bool.{cond_both, eqb-false, ne_eqb, and_left, and_right}
use Rattle.std.specs.List.{slice_get}
use Rattle.object_map.specs.Map.{Map, lookup}
use Rattle.protocol.specs.Descriptions.{Message}
use Rattle.protocol.specs.Lookups.{event_at}
use Rattle.protocol.specs.declared.argument.Argument.{Argument}
use Rattle.protocol.specs.declared.error.ProtocolReason.{ProtocolReason}
use Rattle.protocol.specs.declared.error.ProtocolReason.TheVariants.{ErrorEvent, Malformed}
use Rattle.protocol.specs.declared.error.WaylandError.{WaylandError}
use Rattle.protocol.specs.declared.error.WaylandError.TheVariants.{Io, Protocol}
use Rattle.protocol.specs.declared.id.ObjectId.{ObjectId}
use Rattle.protocol.specs.declared.refusal.Refusal.TheVariants.{BadToken, BadRoom}
use Rattle.transport.specs.Ends.{End, Waiting, first_of, take_of, first_or, first_in, fault, leaving, Grounded}
use Rattle.transport.specs.Layout.{laid}
use Rattle.transport.specs.Wire.{Arg, texts}
use Rattle.client.specs.Calls.{next, fillable, breach, number_in, interface_found, error_told, acknowledged, taken_into, told_into, passed_into, round_of, over_with, resting, from_display, passed_on, passed_to, passing, taken, described, sent_by, next_in, nexting, event_of, ended}
use Rattle.client.specs.Course.{Course, given_some, known, in_round, rest_with, over_as, over_by, Reading', Hearing, hear_all, error_heard, hear_display, handed, heard_by, frame_course, next_course, settled_in}
use Rattle.client.specs.Events.{Passing, pass_all}
use Rattle.client.specs.Ledger.{amend, conclude, Account, with_ledger}
use Rattle.client.specs.Requests.{Table}
use Rattle.client.specs.State.{handle_of, server_marked, with_fault, with_serial, with_phase, with_conn, with_slots, Rooms, quiet, handed_out, over, Left, leave}
use Rattle.client.specs.declared.connection.Phase.{Phase}
use Rattle.client.specs.declared.connection.Phase.TheVariants.{Idle, Reading, Handed}
use Rattle.client.specs.declared.connection.Round.{Round}
use Rattle.client.specs.declared.object.Object.{Object}
use Rattle.client.proofs.Agreement.{Agreed, acknowledging, reconnecting}
use Rattle.client.proofs.Passings.{Alike, alike, all_passed, handing}
use Rattle.client.proofs.Steps.{moment_at, Came, Stepped, refusing, accepting}

module _ (t : Table) (a : Account) (s : Map Object) (e : End) (gr : Grounded e) (g : Agreed s a) (rooms : Rooms) (n : ℕ) where
  -- over with a stored fault
  overed : (f h : WaylandError) (e' : End) (r : Rooms) → f ≡ h → Came a true (over_by h r e' a) (over_with f (moment_at a s e') r)
  overed f h e' r q = subst (λ x. Came a true (over_by x r e' a) (over_with f (moment_at a s e') r)) q (accepting a true (over_by f r e' a) _ refl refl refl refl refl (reconnecting s a g (ended (with_fault f a.conn)) refl tt))

  -- none waits
  rested : Came a true (rest_with a e rooms n) (resting (moment_at a s e) rooms n (fault 0 (cond (eqb e.read_stop 0) 11 e.read_stop)))
  rested = go (eqb e.read_stop 0) refl
    where
      off : eqb e.read_stop 11 ≡ false
      off = ne_eqb e.read_stop 11 gr.reads

      go : (b : Bool) → eqb e.read_stop 0 ≡ b → Came a true (cond b (over_as (cond (eqb n 0) (Err (Io (fault 0 11))) (Ok n)) a.conn rooms e a) (over_by (Io (fault 0 e.read_stop)) rooms e a)) (resting (moment_at a s e) rooms n (fault 0 (cond b 11 e.read_stop)))
      go true q = accepting a true _ _ refl refl refl refl refl (reconnecting s a g (ended a.conn) refl tt)
      go false q = subst (λ x. Came a true (over_by (Io (fault 0 e.read_stop)) rooms e a) (cond x (leave (over (cond (eqb n 0) (Err (Io (fault 0 e.read_stop))) (Ok n))) (with_conn (ended a.conn) (moment_at a s e)) rooms) (over_with (Io (fault 0 e.read_stop)) (moment_at a s e) rooms))) (sym off) (overed (Io (fault 0 e.read_stop)) _ e rooms refl)

  -- an event of the display
  displayed : (e' : End) (r : Rooms) (f : Reading') → Came a true (hear_display a e' r f) (from_display (moment_at a s e') r f.opcode f.args)
  displayed e' r f =
      elim (eqb f.opcode 0) as (λ b. Came a true (cond b (over_by (error_heard a f.args) (told_into f.args r) e' a) (record { reply = quiet (round_of a.conn); rooms = r; end = e'; account = with_ledger (amend server_marked (number_in (slice_get f.args 0)) (conclude (number_in (slice_get f.args 0)) a.ledger)) a })) (cond b (over_with (error_told s f.args) (moment_at a s e') (told_into f.args r)) (leave (quiet (round_of a.conn)) (with_slots (acknowledged (number_in (slice_get f.args 0)) s (lookup (number_in (slice_get f.args 0)) s)) (moment_at a s e')) r))) [
        | true ↦ overed _ _ e' (told_into f.args r) (ap (λ v. Protocol (record { code = number_in (slice_get f.args 1); object_id = number_in (slice_get f.args 0); object_interface = interface_found v; reason = ErrorEvent (length (texts f.args)) })) (g.look (number_in (slice_get f.args 0))))
        | false ↦ accepting a true _ _ refl refl refl refl refl (acknowledging s a g (number_in (slice_get f.args 0)))
      ]

  -- an event of another object, once its arguments were passed
  module _ (e' : End) (r : Rooms) (f : Reading') (at : lookup f.sender s ≡ Some f.receiver) (off : f.sender ≡ 1 → ⊥) (rm : List (Argument ObjectId)) where
    abbrev handed_course : Hearing → Course
    handed_course q = record { reply = handed_out (record { connection = a.conn.number; number = f.sender; serial = f.receiver.serial }) (handle_of f.sender f.receiver) f.opcode; rooms = passed_into rm r; end = e'; account = handed n f q a }

    abbrev handed_left : Passing → Left
    handed_left p = leave (handed_out (record { connection = a.conn.number; number = f.sender; serial = f.receiver.serial }) (handle_of f.sender f.receiver) f.opcode) (with_conn (with_phase (Handed n (event_of f.sender f.receiver f.desc p.child)) (with_serial p.last a.conn)) (passed_on p (moment_at a s e'))) (passed_into rm r)

    heard : (st : Option ProtocolReason) (p : Passing) (q : Hearing) → Alike a p q → Came a true (heard_by n a e' r f (record { stop = st; state = q; room = rm }) st) (passed_to (moment_at a s e') r n f.sender f.opcode f.receiver f.desc (record { stop = st; state = p; room = rm }) st)
    heard (Some x) p q (alike {s = s'} {b = b} gb sm ok oc) = accepting a true _ _ refl refl refl refl (ap (λ c. ended (with_fault (breach x) c)) (sym sm.conn)) (reconnecting s' b gb (ended (with_fault (breach x) b.conn)) refl tt)
    heard None p q (alike {s = s'} {b = b} {c = c} {ws = ws} {sh = sh} gb sm ok oc) =
        elim f.receiver.client_destroyed as (λ v. Came a true (cond v (record { reply = quiet (round_of a.conn); rooms = passed_into rm r; end = e'; account = b }) (handed_course (record { account = b; child = c; wants = ws; shown = sh }))) (cond v (leave (quiet (round_of a.conn)) (record { conn = with_serial b.conn.last_serial a.conn; slots = s'; end = e' }) (passed_into rm r)) (handed_left (record { slots = s'; last = b.conn.last_serial; child = c; wants = ws })))) [
          | true ↦ accepting a true _ _ refl refl refl refl (sym sm.conn) gb
          | false ↦ accepting a true (handed_course (record { account = b; child = c; wants = ws; shown = sh })) (handed_left (record { slots = s'; last = b.conn.last_serial; child = c; wants = ws })) refl refl refl refl (ap (with_phase (Handed n (event_of f.sender f.receiver f.desc c))) (sym sm.conn)) (handing n f a s p q g at off (alike gb sm ok oc))
        ]

  -- a frame that can be read
  took : (f : Reading') → lookup f.sender s ≡ Some f.receiver → Came a true (frame_course t n a e rooms (Some f)) (taken t (moment_at a s e) rooms n f.sender f.opcode f.receiver f.desc (Some (f.args, f.behind)))
  took f at =
      go (eqb f.sender 1) refl
    where
      go : (b : Bool) → eqb f.sender 1 ≡ b → Came a true (cond b (hear_display a (leaving f.behind e) (taken_into f.args rooms) f) (heard_by n a (leaving f.behind e) (taken_into f.args rooms) f (hear_all t a f) (hear_all t a f).stop)) (cond b (from_display (moment_at a s (leaving f.behind e)) (taken_into f.args rooms) f.opcode f.args) (passing (moment_at a s (leaving f.behind e)) (taken_into f.args rooms) n f.sender f.opcode f.receiver f.desc (pass_all t f.receiver f.desc s a.conn.last_serial (laid 0 f.args))))
      go true q = displayed (leaving f.behind e) (taken_into f.args rooms) f
      go false q =
          let e' = leaving f.behind e in
          let r = taken_into f.args rooms in
          let u = pass_all t f.receiver f.desc s a.conn.last_serial (laid 0 f.args) in
          let v = hear_all t a f in
          let k = all_passed t a s g f in
          subst (λ (st : Option ProtocolReason). Came a true (heard_by n a e' r f v v.stop) (passed_to (moment_at a s e') r n f.sender f.opcode f.receiver f.desc (record { stop = st; state = u.state; room = u.room }) st)) (sym k.stop)
          (subst (λ (rm : List (Argument ObjectId)). Came a true (heard_by n a e' r f v v.stop) (passed_to (moment_at a s e') r n f.sender f.opcode f.receiver f.desc (record { stop = v.stop; state = u.state; room = rm }) v.stop)) (sym k.room)
          (heard e' r f at (eqb-false f.sender 1 q) v.room v.stop u.state v.state k.state))

  malformed : Came a true (frame_course t n a e rooms None) (over_with (breach Malformed) (moment_at a s e) rooms)
  malformed = overed (breach Malformed) _ e rooms refl

  -- the first frame, step by step
  module _ (sender opcode : ℕ) where
    abbrev read_from : Option Object → Option Reading'
    read_from v = given_some v (λ o. given_some (event_at t o.interface opcode) (λ d. given_some (take_of d.signature e.waiting) (λ k. Some (record { sender = sender; opcode = opcode; receiver = o; desc = d; args = k.0; behind = k.1 }))))

    taking : (o : Object) (d : Message) (v : Option (List Arg × Waiting)) → lookup sender s ≡ Some o → Came a true (frame_course t n a e rooms (given_some v (λ k. Some (record { sender = sender; opcode = opcode; receiver = o; desc = d; args = k.0; behind = k.1 })))) (taken t (moment_at a s e) rooms n sender opcode o d v)
    taking o d None at = malformed
    taking o d (Some k) at = took (record { sender = sender; opcode = opcode; receiver = o; desc = d; args = k.0; behind = k.1 }) at

    describing : (o : Object) (v : Option Message) → lookup sender s ≡ Some o → Came a true (frame_course t n a e rooms (given_some v (λ d. given_some (take_of d.signature e.waiting) (λ k. Some (record { sender = sender; opcode = opcode; receiver = o; desc = d; args = k.0; behind = k.1 }))))) (described t (moment_at a s e) rooms n sender opcode o v)
    describing o None at = malformed
    describing o (Some d) at = taking o d (take_of d.signature e.waiting) at

    sending : (v : Option Object) → lookup sender s ≡ v → Came a true (frame_course t n a e rooms (read_from v)) (sent_by t (moment_at a s e) rooms n sender opcode v)
    sending None at = malformed
    sending (Some o) at = describing o (event_at t o.interface opcode) at

  waiting : (v : Option (ℕ × ℕ)) → first_of e.waiting ≡ v → Came a true (next_course t a e rooms n v) (next_in t (moment_at a s e) rooms (Reading n) (first_or v e.read_stop))
  waiting None q = rested
  waiting (Some p) q =
      subst (λ (v : Option Reading'). Came a true (frame_course t n a e rooms v) (sent_by t (moment_at a s e) rooms n p.0 p.1 (lookup p.0 s)))
      (ap (read_from p.0 p.1) (g.look p.0) ∙ sym (ap (λ (v : Option (ℕ × ℕ)). given_some v (λ f. read_from f.0 f.1 (known a f.0))) q))
      (sending p.0 p.1 (lookup p.0 s) refl)

module _ (t : Table) (a : Account) (s : Map Object) (e : End) (gr : Grounded e) (g : Agreed s a) (rooms : Rooms) where
  in_phase : (p : Phase) → Came a (in_round p) (next_course t a e rooms (settled_in p) (first_of e.waiting)) (next_in t (moment_at a s e) rooms p (first_in e))
  in_phase Idle = refusing a s e false _ BadToken rooms refl g
  in_phase (Reading n) = waiting t a s e gr g rooms n (first_of e.waiting) refl
  in_phase (Handed n v) = refusing a s e false _ BadToken rooms refl g

  pub next_step : (r : Round) → Stepped t a e (next r rooms) (nexting t (moment_at a s e) r rooms)
  next_step r =
      cond_both (fillable rooms) _ _ (Stepped t a e (next r rooms))
      (λ y. cond_both (eqb r.connection a.conn.number) _ _ (Stepped t a e (next r rooms))
      (λ z. subst (λ b. Came a b (next_course t a e rooms (settled_in a.conn.phase) (first_of e.waiting)) (next_in t (moment_at a s e) rooms a.conn.phase (first_in e))) (sym (ap₂ (λ x w. x && (w && in_round a.conn.phase)) y z)) (in_phase a.conn.phase))
      (λ z. refusing a s e _ _ BadToken rooms (and_right (fillable rooms) _ (and_left (eqb r.connection a.conn.number) _ z)) g))
      (λ y. refusing a s e _ _ BadRoom rooms (and_left (fillable rooms) _ y) g)
