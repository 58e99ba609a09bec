-- A round that is over has woken those who wait.
use Rattle.std.proofs.Common.{◌≡◌, ℕ, ◌+◌, ◌%◌, ◌^◌, Bool, true, false, cond, ◌&&◌, eqb, ltb, List, Some, None, Ok, Err, Option, Result, refl, arith}
use Rattle.std.proofs.lemmas.Bool.{cond_both}
use Rattle.object_map.specs.Map.{fits, lookup}
use Rattle.protocol.specs.Descriptions.{Message}
use Rattle.protocol.specs.Lookups.{event_at}
use Rattle.protocol.specs.declared.argument.Argument.{Argument}
use Rattle.protocol.specs.declared.error.ProtocolReason.{ProtocolReason}
use Rattle.protocol.specs.declared.error.TransportFault.{TransportFault}
use Rattle.protocol.specs.declared.error.WaylandError.{WaylandError}
use Rattle.protocol.specs.declared.id.ObjectId.{ObjectId}
use Rattle.protocol.specs.declared.refusal.Refusal.{Refusal}
use Rattle.transport.specs.Ends.{Waiting, first_in, take_of, flushing}
use Rattle.transport.specs.Layout.{laid}
use Rattle.transport.specs.Wire.{Arg}
use Rattle.client.specs.Calls.{Call, prepare, cancel, read, resume, next, settle, send_request, destroy_object, get_data, set_data, info, flush, fillable, conn_left, is_idle, preparing, holds_intent, cancelling, reading_alone, beginning, resuming, resting, taken_into, without, from_display, passed_to, taken, described, sent_by, next_in, nexting, data_stands, settling_in, settling, sending_checked, destroying, getting, setting, informing, flushing_end, flushing_in, answered, defined, fault_or_done}
use Rattle.client.specs.Events.{Walked, Passing, pass_all}
use Rattle.client.specs.Requests.{Table, Request, Sending, checked}
use Rattle.client.specs.State.{next_serial, seen_in, resolved, Moment, Rooms, over, waits, Left}
use Rattle.client.specs.declared.connection.HandedEvent.{HandedEvent}
use Rattle.client.specs.declared.connection.Phase.{Phase}
use Rattle.client.specs.declared.connection.Phase.TheVariants.{Idle, Reading, Handed}
use Rattle.client.specs.declared.connection.ReadIntent.{ReadIntent}
use Rattle.client.specs.declared.connection.Round.{Round}
use Rattle.client.specs.declared.connection.WaitingRead.{WaitingRead}
use Rattle.client.specs.declared.object.Object.{Object}

-- the answer over comes with an idle phase and another read serial
abbrev pub WokenIn : Moment → Left → Type 0
WokenIn m x = (a : Result ℕ WaylandError) → x.answer ≡ Ok (over a) → (x.moment.conn.phase ≡ Idle) × (x.moment.conn.read_serial ≡ (m.conn.read_serial + 1) % 2 ^ 64)

module _ (m : Moment) where
  prepare_wakes : WokenIn m (preparing m)
  prepare_wakes = cond_both (is_idle m.conn.phase && ltb m.conn.reads 65535) _ _ (WokenIn m) (λ _ a z. let w : ◌≡◌ {A = ℕ} 0 1 = cc in absurd (omega arith)) (λ _ a z. let w : ◌≡◌ {A = ℕ} 0 1 = cc in absurd (omega arith))

  cancel_wakes : (i : ReadIntent) → WokenIn m (cancelling m i)
  cancel_wakes i = cond_both (holds_intent m.conn i) _ _ (WokenIn m) (λ _ a z. let w : ◌≡◌ {A = ℕ} 0 1 = cc in absurd (omega arith)) (λ _ a z. let w : ◌≡◌ {A = ℕ} 0 1 = cc in absurd (omega arith))

  alone_wakes : (f : Option WaylandError) → WokenIn m (reading_alone m f)
  alone_wakes None = λ a z. (let w : ◌≡◌ {A = ℕ} 0 1 = cc in absurd (omega arith))
  alone_wakes (Some f) = λ a z. (let w : ◌≡◌ {A = ℕ} 0 1 = cc in absurd (omega arith))

  read_wakes : (i : ReadIntent) → WokenIn m (beginning m i)
  read_wakes i = cond_both (holds_intent m.conn i) _ _ (WokenIn m)
      (λ _. cond_both (eqb m.conn.reads 1) _ _ (WokenIn m) (λ _. alone_wakes m.conn.fault) (λ _ a z. let w : ◌≡◌ {A = ℕ} 0 1 = cc in absurd (omega arith)))
      (λ _ a z. let w : ◌≡◌ {A = ℕ} 0 1 = cc in absurd (omega arith))

  resumed_wakes : (w : WaitingRead) (b : Bool) (f : Option WaylandError) → WokenIn m (conn_left (cond b (waits w) (fault_or_done f)) m.conn m)
  resumed_wakes w true f = λ a z. (let y : ◌≡◌ {A = ℕ} 0 1 = cc in absurd (omega arith))
  resumed_wakes w false None = λ a z. (let y : ◌≡◌ {A = ℕ} 0 1 = cc in absurd (omega arith))
  resumed_wakes w false (Some f) = λ a z. (let y : ◌≡◌ {A = ℕ} 0 1 = cc in absurd (omega arith))

  resume_wakes : (w : WaitingRead) → WokenIn m (resuming m w)
  resume_wakes w = cond_both (eqb w.connection m.conn.number) _ _ (WokenIn m) (λ _. resumed_wakes w (eqb w.read_serial m.conn.read_serial) m.conn.fault) (λ _ a z. let w : ◌≡◌ {A = ℕ} 0 1 = cc in absurd (omega arith))

  resting_wakes : (rooms : Rooms) (n : ℕ) (f : TransportFault) → WokenIn m (resting m rooms n f)
  resting_wakes rooms n f = cond_both (eqb f.code 11) _ _ (WokenIn m) (λ _ a z. (refl, refl)) (λ _ a z. (refl, refl))

  display_wakes : (rooms : Rooms) (w : Waiting) (opcode : ℕ) (xs : List Arg) → WokenIn m (from_display (without w m) rooms opcode xs)
  display_wakes rooms w opcode xs = cond_both (eqb opcode 0) _ _ (WokenIn m) (λ _ a z. (refl, refl)) (λ _ a z. let w : ◌≡◌ {A = ℕ} 0 1 = cc in absurd (omega arith))

  passed_wakes : (rooms : Rooms) (w : Waiting) (n sender opcode : ℕ) (o : Object) (d : Message) (p : Walked Passing (Argument ObjectId) ProtocolReason) (stop : Option ProtocolReason) → WokenIn m (passed_to (without w m) rooms n sender opcode o d p stop)
  passed_wakes rooms w n sender opcode o d p (Some r) = λ a z. ((refl, refl))
  passed_wakes rooms w n sender opcode o d p None = cond_both o.client_destroyed _ _ (WokenIn m) (λ _ a z. let w : ◌≡◌ {A = ℕ} 0 1 = cc in absurd (omega arith)) (λ _ a z. let w : ◌≡◌ {A = ℕ} 0 1 = cc in absurd (omega arith))

  taken_wakes : (t : Table) (rooms : Rooms) (n sender opcode : ℕ) (o : Object) (d : Message) (x : Option (List Arg × Waiting)) → WokenIn m (taken t m rooms n sender opcode o d x)
  taken_wakes t rooms n sender opcode o d None = λ a z. ((refl, refl))
  taken_wakes t rooms n sender opcode o d (Some (xs, w)) = cond_both (eqb sender 1) _ _ (WokenIn m)
      (λ _. display_wakes (taken_into xs rooms) w opcode xs)
      (λ _. passed_wakes (taken_into xs rooms) w n sender opcode o d (pass_all t o d m.slots m.conn.last_serial (laid 0 xs)) _)

  described_wakes : (t : Table) (rooms : Rooms) (n sender opcode : ℕ) (o : Object) (d : Option Message) → WokenIn m (described t m rooms n sender opcode o d)
  described_wakes t rooms n sender opcode o None = λ a z. ((refl, refl))
  described_wakes t rooms n sender opcode o (Some d) = taken_wakes t rooms n sender opcode o d (take_of d.signature m.end.waiting)

  sent_wakes : (t : Table) (rooms : Rooms) (n sender opcode : ℕ) (o : Option Object) → WokenIn m (sent_by t m rooms n sender opcode o)
  sent_wakes t rooms n sender opcode None = λ a z. ((refl, refl))
  sent_wakes t rooms n sender opcode (Some o) = described_wakes t rooms n sender opcode o (event_at t o.interface opcode)

  in_wakes : (t : Table) (rooms : Rooms) (p : Phase) (f : Result (ℕ × ℕ) TransportFault) → WokenIn m (next_in t m rooms p f)
  in_wakes t rooms Idle f = λ a z. (let w : ◌≡◌ {A = ℕ} 0 1 = cc in absurd (omega arith))
  in_wakes t rooms (Handed n e) f = λ a z. (let w : ◌≡◌ {A = ℕ} 0 1 = cc in absurd (omega arith))
  in_wakes t rooms (Reading n) (Err f) = resting_wakes rooms n f
  in_wakes t rooms (Reading n) (Ok (sender, opcode)) = sent_wakes t rooms n sender opcode (lookup sender m.slots)

  next_wakes : (t : Table) (k : Round) (rooms : Rooms) → WokenIn m (nexting t m k rooms)
  next_wakes t k rooms = cond_both (fillable rooms) _ _ (WokenIn m)
      (λ _. cond_both (eqb k.connection m.conn.number) _ _ (WokenIn m) (λ _. in_wakes t rooms m.conn.phase (first_in m.end)) (λ _ a z. let w : ◌≡◌ {A = ℕ} 0 1 = cc in absurd (omega arith)))
      (λ _ a z. let w : ◌≡◌ {A = ℕ} 0 1 = cc in absurd (omega arith))

  settle_in_wakes : (h : HandedEvent) (d : ℕ) (p : Phase) → WokenIn m (settling_in m h d p)
  settle_in_wakes h d Idle = λ a z. (let w : ◌≡◌ {A = ℕ} 0 1 = cc in absurd (omega arith))
  settle_in_wakes h d (Reading n) = λ a z. (let w : ◌≡◌ {A = ℕ} 0 1 = cc in absurd (omega arith))
  settle_in_wakes h d (Handed n e) = cond_both (eqb h.number e.receiver.number && eqb h.serial e.receiver.serial) _ _ (WokenIn m)
      (λ _. cond_both (data_stands e.child d) _ _ (WokenIn m) (λ _ a z. let w : ◌≡◌ {A = ℕ} 0 1 = cc in absurd (omega arith)) (λ _ a z. let w : ◌≡◌ {A = ℕ} 0 1 = cc in absurd (omega arith)))
      (λ _ a z. let w : ◌≡◌ {A = ℕ} 0 1 = cc in absurd (omega arith))

  settle_wakes : (h : HandedEvent) (d : ℕ) → WokenIn m (settling m h d)
  settle_wakes h d = cond_both (eqb h.connection m.conn.number) _ _ (WokenIn m) (λ _. settle_in_wakes h d m.conn.phase) (λ _ a z. let w : ◌≡◌ {A = ℕ} 0 1 = cc in absurd (omega arith))

  send_wakes : (r : Request) (s : Result Sending Refusal) → WokenIn m (sending_checked m r s)
  send_wakes r (Err e) = λ a z. (let w : ◌≡◌ {A = ℕ} 0 1 = cc in absurd (omega arith))
  send_wakes r (Ok x) = λ a z. (let w : ◌≡◌ {A = ℕ} 0 1 = cc in absurd (omega arith))

  destroy_wakes : (h : ObjectId) (o : Option Object) → WokenIn m (destroying m h o)
  destroy_wakes h None = λ a z. (let w : ◌≡◌ {A = ℕ} 0 1 = cc in absurd (omega arith))
  destroy_wakes h (Some o) = cond_both o.client_destroyed _ _ (WokenIn m) (λ _ a z. let w : ◌≡◌ {A = ℕ} 0 1 = cc in absurd (omega arith))
      (λ _. cond_both (eqb h.number 1) _ _ (WokenIn m) (λ _ a z. let w : ◌≡◌ {A = ℕ} 0 1 = cc in absurd (omega arith)) (λ _ a z. let w : ◌≡◌ {A = ℕ} 0 1 = cc in absurd (omega arith)))

  get_wakes : (o : Option Object) → WokenIn m (getting m o)
  get_wakes None = λ a z. (let w : ◌≡◌ {A = ℕ} 0 1 = cc in absurd (omega arith))
  get_wakes (Some o) = λ a z. (let w : ◌≡◌ {A = ℕ} 0 1 = cc in absurd (omega arith))

  set_wakes : (h : ObjectId) (d : ℕ) (o : Option Object) → WokenIn m (setting m h d o)
  set_wakes h d None = λ a z. (let w : ◌≡◌ {A = ℕ} 0 1 = cc in absurd (omega arith))
  set_wakes h d (Some o) = cond_both (eqb h.number 1) _ _ (WokenIn m) (λ _ a z. let w : ◌≡◌ {A = ℕ} 0 1 = cc in absurd (omega arith))
      (λ _. cond_both (eqb d 0) _ _ (WokenIn m) (λ _ a z. let w : ◌≡◌ {A = ℕ} 0 1 = cc in absurd (omega arith)) (λ _ a z. let w : ◌≡◌ {A = ℕ} 0 1 = cc in absurd (omega arith)))

  info_wakes : (h : ObjectId) (o : Option Object) → WokenIn m (informing m h o)
  info_wakes h None = λ a z. (let w : ◌≡◌ {A = ℕ} 0 1 = cc in absurd (omega arith))
  info_wakes h (Some o) = cond_both o.client_destroyed _ _ (WokenIn m) (λ _ a z. let w : ◌≡◌ {A = ℕ} 0 1 = cc in absurd (omega arith)) (λ _ a z. let w : ◌≡◌ {A = ℕ} 0 1 = cc in absurd (omega arith))

  flushed_wakes : (f : Result (Unit {0}) TransportFault) → WokenIn m (flushing_end m f)
  flushed_wakes (Ok u) = λ a z. (let w : ◌≡◌ {A = ℕ} 0 1 = cc in absurd (omega arith))
  flushed_wakes (Err f) = λ a z. (let w : ◌≡◌ {A = ℕ} 0 1 = cc in absurd (omega arith))

  flush_wakes : (f : Option WaylandError) → WokenIn m (flushing_in m f)
  flush_wakes None = flushed_wakes (flushing m.end)
  flush_wakes (Some f) = λ a z. (let w : ◌≡◌ {A = ℕ} 0 1 = cc in absurd (omega arith))

  answered_wakes : (t : Table) (c : Call) → WokenIn m (answered t m c)
  answered_wakes t prepare = prepare_wakes
  answered_wakes t (cancel i) = cancel_wakes i
  answered_wakes t (read i) = read_wakes i
  answered_wakes t (resume w) = resume_wakes w
  answered_wakes t (next k rooms) = next_wakes t k rooms
  answered_wakes t (settle h d) = settle_wakes h d
  answered_wakes t (send_request r) = send_wakes r (checked t m.slots (next_serial m.conn.last_serial) r)
  answered_wakes t (destroy_object h) = destroy_wakes h (resolved (seen_in m.slots) h)
  answered_wakes t (get_data h) = get_wakes (resolved (seen_in m.slots) h)
  answered_wakes t (set_data h d) = set_wakes h d (resolved (seen_in m.slots) h)
  answered_wakes t (info h) = info_wakes h (resolved (seen_in m.slots) h)
  answered_wakes t flush = flush_wakes m.conn.fault

  pub wakes : (t : Table) (c : Call) → WokenIn m (defined t m c)
  wakes t c = cond_both (fits m.slots) _ _ (WokenIn m) (λ _. answered_wakes t c) (λ _ a z. let w : ◌≡◌ {A = ℕ} 0 1 = cc in absurd (omega arith))
