-- What each call keeps and counts where no slot matters: reads, requests, what was sent, the fault, the end, and that a refusal leaves all.
use Rattle.std.proofs.Common.{◌≡◌, ℕ, ◌+◌, ◌-◌, Bool, true, false, cond, ◌&&◌, eqb, ltb, List, [], ◌∷◌, ◌++◌, length, is_some, Some, None, Ok, Err, Option, Result, sym, refl, ap, ◌∙◌, arith}
use Rattle.std.proofs.lemmas.List.{length_push, append-nil}
use Rattle.std.proofs.lemmas.Bool.{cond_both, cond-true, cond-false, eq-eqb, and_from, and_left, and_parts, ltb-true}
use Rattle.object_map.specs.Map.{fits, lookup}
use Rattle.protocol.specs.Descriptions.{Message}
use Rattle.protocol.specs.Lookups.{event_at}
use Rattle.protocol.specs.declared.argument.Argument.{Argument}
use Rattle.protocol.specs.declared.error.ProtocolReason.{ProtocolReason}
use Rattle.protocol.specs.declared.error.TransportFault.{TransportFault}
use Rattle.protocol.specs.declared.error.WaylandError.{WaylandError}
use Rattle.protocol.specs.declared.error.WaylandError.TheVariants.{Io}
use Rattle.protocol.specs.declared.id.ObjectId.{ObjectId}
use Rattle.protocol.specs.declared.refusal.Refusal.{Refusal}
use Rattle.protocol.specs.declared.refusal.Refusal.TheVariants.{InvalidId, BadData, DisplayProtected, BadToken, CannotPrepare, BadRoom}
use Rattle.transport.specs.Ends.{End, Grounded, Waiting, first_in, take_of, leaving, sending, put_fault, putting, flushing}
use Rattle.transport.specs.Layout.{laid}
use Rattle.transport.specs.Wire as wire
use Rattle.client.specs.Calls.{Call, prepare, cancel, read, resume, next, settle, send_request, destroy_object, get_data, set_data, info, flush, rooms_of, fillable, conn_left, is_idle, preparing, holds_intent, cancelling, reading_alone, beginning, resuming, resting, from_display, passed_to, taken, described, sent_by, next_in, nexting, without, taken_into, data_stands, settling_event, settling_in, settling, with_birth, child_handle, sending_it, sending_checked, destroying, getting, setting, informing, flushing_end, flushing_in, answered, defined}
use Rattle.client.specs.Events.{Walked, Passing, pass_all}
use Rattle.client.specs.Law.{sort_of, accepts, accepted_of, appended, stored, faults_of_put}
use Rattle.client.specs.Requests.{Table, Request, Child, Sending, checked, frame_for}
use Rattle.client.specs.Runs.{History, Run, made, world, called}
use Rattle.client.specs.State.{seen_in, resolved, Conn, Moment, next_serial, Rooms, none, Reply, done, faulted, sent, Left, leave, refuse}
use Rattle.client.specs.declared.connection.Event.{Event}
use Rattle.client.specs.declared.connection.HandedEvent.{HandedEvent}
use Rattle.client.specs.declared.connection.Phase.{Phase}
use Rattle.client.specs.declared.connection.Phase.TheVariants.{Idle, Reading, Handed}
use Rattle.client.specs.declared.connection.ReadIntent.{ReadIntent}
use Rattle.client.specs.declared.connection.Round.{Round}
use Rattle.client.specs.declared.connection.WaitingRead.{WaitingRead}
use Rattle.client.specs.declared.object.Notice.{Notice}
use Rattle.client.specs.declared.object.Object.{Object}

-- an end whose stops, hold and height are those of another
record Held (e e' : End) : Type 0 where
  read_stop : e'.read_stop ≡ e.read_stop
  write_stop : e'.write_stop ≡ e.write_stop
  hold : e'.hold ≡ e.hold
  height : e'.height ≡ e.height

held_refl : (e : End) → Held e e
held_refl e = record { read_stop = refl; write_stop = refl; hold = refl; height = refl }

held_grounded : (e e' : End) → Held e e' → Grounded e → Grounded e'
held_grounded e e' k g = record { low = λ z. k.height ∙ g.low (sym k.hold ∙ z); reads = λ z. g.reads (sym k.read_stop ∙ z); stops = λ z. g.stops (sym k.write_stop ∙ z) }

-- the put of a call faulted
abbrev faults : Moment → Left → Bool
faults m x = eqb m.end.room 0 && stored x.moment.conn.fault (put_fault m.end)

-- what a call keeps and counts
record Keeps (m : Moment) (c : Call) (x : Left) : Type 0 where
  counts : cond (accepts 1 c x) 1 0 + m.conn.reads ≡ cond (accepts 2 c x) 1 0 + x.moment.conn.reads
  puts : cond {A = ℕ} (accepts 3 c x) 1 0 ≡ (length x.moment.end.sent - length m.end.sent) + cond (accepts 3 c x && faults m x) 1 0
  appends : (more : List wire.Message) × (x.moment.end.sent ≡ m.end.sent ++ more) × (eqb (sort_of c) 3 ≡ false → more ≡ [])
  held : Held m.end x.moment.end
  fault : is_some m.conn.fault ≡ true → is_some x.moment.conn.fault ≡ true
  refusal : (e : Refusal) → x.answer ≡ Err e → (x.moment ≡ m) × (x.rooms ≡ rooms_of c)

-- a refusal, and an accepted call that sends nothing
refuses : (m : Moment) (c : Call) (e : Refusal) → Keeps m c (refuse e m (rooms_of c))
refuses m c e = record { counts = refl; puts = omega arith; appends = ([], sym (append-nil m.end.sent), λ _. refl); held = held_refl m.end; fault = λ f. f; refusal = λ _ _. (refl, refl) }

none_sent : {A : Type 0} (xs ys : List A) (a b : Bool) → xs ≡ ys → a ≡ false → cond {A = ℕ} a 1 0 ≡ (length xs - length ys) + cond (a && b) 1 0
none_sent xs ys a b e z = let l = ap length e in rw z (omega arith)

not_refused : {m m' : Moment} {r r' : Rooms} (a : Reply) (e : Refusal) → ◌≡◌ {A = Result Reply Refusal} (Ok a) (Err e) → (m' ≡ m) × (r' ≡ r)
not_refused a e q = let z : ◌≡◌ {A = ℕ} 0 1 = cc in absurd (omega arith)

keeps : (m : Moment) (c : Call) (a : Reply) (m' : Moment) (r : Rooms) → eqb (sort_of c) 3 ≡ false → cond (eqb (sort_of c) 1) 1 0 + m.conn.reads ≡ cond (eqb (sort_of c) 2) 1 0 + m'.conn.reads → m'.end.sent ≡ m.end.sent → Held m.end m'.end → (is_some m.conn.fault ≡ true → is_some m'.conn.fault ≡ true) → Keeps m c (leave a m' r)
keeps m c a m' r s n e k f = record { counts = n; puts = none_sent _ _ _ _ e s; appends = ([], e ∙ sym (append-nil m.end.sent), λ _. refl); held = k; fault = f; refusal = not_refused a }

-- and one that changes neither the end nor the reads
rests : (m : Moment) (c : Call) (a : Reply) (m' : Moment) (r : Rooms) → eqb (sort_of c) 3 ≡ false → cond {A = ℕ} (eqb (sort_of c) 1) 1 0 ≡ cond (eqb (sort_of c) 2) 1 0 → m'.conn.reads ≡ m.conn.reads → m'.end.sent ≡ m.end.sent → Held m.end m'.end → (is_some m.conn.fault ≡ true → is_some m'.conn.fault ≡ true) → Keeps m c (leave a m' r)
rests m c a m' r s n q e k f = keeps m c a m' r s (omega arith) e k f

-- prepare, cancel, read, resume
prepare_keeps : (m : Moment) → Keeps m prepare (preparing m)
prepare_keeps m = cond_both (is_idle m.conn.phase && ltb m.conn.reads 65535) _ _ (Keeps m prepare)
    (λ _. keeps m prepare _ _ _ refl (omega arith) refl (held_refl _) (λ e. e))
    (λ _. refuses m prepare CannotPrepare)

some_intent : (c : Conn) (i : ReadIntent) → holds_intent c i ≡ true → 0 + c.reads ≡ 1 + (c.reads - 1)
some_intent c i h = let l = ltb-true _ _ (and_parts (eqb i.connection c.number) (ltb 0 c.reads) h).1 in omega arith

cancel_keeps : (m : Moment) (i : ReadIntent) → Keeps m (cancel i) (cancelling m i)
cancel_keeps m i = cond_both (holds_intent m.conn i) _ _ (Keeps m (cancel i))
    (λ h. cond_both (eqb m.conn.reads 1) _ _ (λ (c : Conn). Keeps m (cancel i) (conn_left done c m))
    (λ _. keeps m (cancel i) _ _ _ refl (some_intent m.conn i h) refl (held_refl _) (λ e. e))
    (λ _. keeps m (cancel i) _ _ _ refl (some_intent m.conn i h) refl (held_refl _) (λ e. e)))
    (λ _. refuses m (cancel i) BadToken)

alone_keeps : (m : Moment) (i : ReadIntent) (f : Option WaylandError) → 0 + m.conn.reads ≡ 1 + (m.conn.reads - 1) → Keeps m (read i) (reading_alone m f)
alone_keeps m i None s = keeps m (read i) _ _ _ refl s refl (held_refl _) (λ e. e)
alone_keeps m i (Some f) s = keeps m (read i) _ _ _ refl s refl (held_refl _) (λ e. e)

read_keeps : (m : Moment) (i : ReadIntent) → Keeps m (read i) (beginning m i)
read_keeps m i = cond_both (holds_intent m.conn i) _ _ (Keeps m (read i))
    (λ h. cond_both (eqb m.conn.reads 1) _ _ (Keeps m (read i))
    (λ _. alone_keeps m i m.conn.fault (some_intent m.conn i h))
    (λ _. keeps m (read i) _ _ _ refl (some_intent m.conn i h) refl (held_refl _) (λ e. e)))
    (λ _. refuses m (read i) BadToken)

resume_keeps : (m : Moment) (w : WaitingRead) → Keeps m (resume w) (resuming m w)
resume_keeps m w = cond_both (eqb w.connection m.conn.number) _ _ (Keeps m (resume w))
    (λ _. rests m (resume w) _ _ _ refl refl refl refl (held_refl _) (λ e. e))
    (λ _. refuses m (resume w) BadToken)

-- next: it refuses, stores a fault or stores none
held_waiting : (e : End) (w : Waiting) → Held e (leaving w e)
held_waiting e w = record { read_stop = refl; write_stop = refl; hold = refl; height = refl }

resting_keeps : (m : Moment) (k : Round) (rooms : Rooms) (n : ℕ) (f : TransportFault) → Keeps m (next k rooms) (resting m rooms n f)
resting_keeps m k rooms n f = cond_both (eqb f.code 11) _ _ (Keeps m (next k rooms))
    (λ _. rests m (next k rooms) _ _ _ refl refl refl refl (held_refl _) (λ e. e))
    (λ _. rests m (next k rooms) _ _ _ refl refl refl refl (held_refl _) (λ _. refl))

display_keeps : (m : Moment) (k : Round) (rooms into : Rooms) (w : Waiting) (opcode : ℕ) (xs : List wire.Arg) → Keeps m (next k rooms) (from_display (without w m) into opcode xs)
display_keeps m k rooms into w opcode xs = cond_both (eqb opcode 0) _ _ (Keeps m (next k rooms))
    (λ _. rests m (next k rooms) _ _ _ refl refl refl refl (held_waiting _ w) (λ _. refl))
    (λ _. rests m (next k rooms) _ _ _ refl refl refl refl (held_waiting _ w) (λ e. e))

passed_keeps : (m : Moment) (k : Round) (rooms into : Rooms) (w : Waiting) (n sender opcode : ℕ) (o : Object) (d : Message) (p : Walked Passing (Argument ObjectId) ProtocolReason) (stop : Option ProtocolReason) → Keeps m (next k rooms) (passed_to (without w m) into n sender opcode o d p stop)
passed_keeps m k rooms into w n sender opcode o d p (Some r) = rests m (next k rooms) _ _ _ refl refl refl refl (held_waiting _ w) (λ _. refl)
passed_keeps m k rooms into w n sender opcode o d p None = cond_both o.client_destroyed _ _ (Keeps m (next k rooms))
    (λ _. rests m (next k rooms) _ _ _ refl refl refl refl (held_waiting _ w) (λ e. e))
    (λ _. rests m (next k rooms) _ _ _ refl refl refl refl (held_waiting _ w) (λ e. e))

taken_keeps : (t : Table) (m : Moment) (k : Round) (rooms : Rooms) (n sender opcode : ℕ) (o : Object) (d : Message) (x : Option (List wire.Arg × Waiting)) → Keeps m (next k rooms) (taken t m rooms n sender opcode o d x)
taken_keeps t m k rooms n sender opcode o d None = rests m (next k rooms) _ _ _ refl refl refl refl (held_refl _) (λ _. refl)
taken_keeps t m k rooms n sender opcode o d (Some (xs, w)) = cond_both (eqb sender 1) _ _ (Keeps m (next k rooms))
    (λ _. display_keeps m k rooms (taken_into xs rooms) w opcode xs)
    (λ _. passed_keeps m k rooms (taken_into xs rooms) w n sender opcode o d (pass_all t o d m.slots m.conn.last_serial (laid 0 xs)) _)

described_keeps : (t : Table) (m : Moment) (k : Round) (rooms : Rooms) (n sender opcode : ℕ) (o : Object) (d : Option Message) → Keeps m (next k rooms) (described t m rooms n sender opcode o d)
described_keeps t m k rooms n sender opcode o None = rests m (next k rooms) _ _ _ refl refl refl refl (held_refl _) (λ _. refl)
described_keeps t m k rooms n sender opcode o (Some d) = taken_keeps t m k rooms n sender opcode o d (take_of d.signature m.end.waiting)

sent_keeps : (t : Table) (m : Moment) (k : Round) (rooms : Rooms) (n sender opcode : ℕ) (o : Option Object) → Keeps m (next k rooms) (sent_by t m rooms n sender opcode o)
sent_keeps t m k rooms n sender opcode None = rests m (next k rooms) _ _ _ refl refl refl refl (held_refl _) (λ _. refl)
sent_keeps t m k rooms n sender opcode (Some o) = described_keeps t m k rooms n sender opcode o (event_at t o.interface opcode)

in_keeps : (t : Table) (m : Moment) (k : Round) (rooms : Rooms) (p : Phase) (f : Result (ℕ × ℕ) TransportFault) → Keeps m (next k rooms) (next_in t m rooms p f)
in_keeps t m k rooms Idle f = refuses m (next k rooms) BadToken
in_keeps t m k rooms (Handed n e) f = refuses m (next k rooms) BadToken
in_keeps t m k rooms (Reading n) (Err f) = resting_keeps m k rooms n f
in_keeps t m k rooms (Reading n) (Ok (sender, opcode)) = sent_keeps t m k rooms n sender opcode (lookup sender m.slots)

next_keeps : (t : Table) (m : Moment) (k : Round) (rooms : Rooms) → Keeps m (next k rooms) (nexting t m k rooms)
next_keeps t m k rooms = cond_both (fillable rooms) _ _ (Keeps m (next k rooms))
    (λ _. cond_both (eqb k.connection m.conn.number) _ _ (Keeps m (next k rooms))
    (λ _. in_keeps t m k rooms m.conn.phase (first_in m.end))
    (λ _. refuses m (next k rooms) BadToken))
    (λ _. refuses m (next k rooms) BadRoom)

-- settle
event_keeps : (m : Moment) (n : ℕ) (e : Event) (h : HandedEvent) (d : ℕ) → Keeps m (settle h d) (settling_event m n e d)
event_keeps m n e h d = cond_both (data_stands e.child d) _ _ (Keeps m (settle h d))
    (λ _. rests m (settle h d) _ _ _ refl refl refl refl (held_refl _) (λ e. e))
    (λ _. refuses m (settle h d) BadData)

settle_in_keeps : (m : Moment) (h : HandedEvent) (d : ℕ) (p : Phase) → Keeps m (settle h d) (settling_in m h d p)
settle_in_keeps m h d Idle = refuses m (settle h d) BadToken
settle_in_keeps m h d (Reading n) = refuses m (settle h d) BadToken
settle_in_keeps m h d (Handed n e) = cond_both (eqb h.number e.receiver.number && eqb h.serial e.receiver.serial) _ _ (Keeps m (settle h d))
    (λ _. event_keeps m n e h d)
    (λ _. refuses m (settle h d) BadToken)

settle_keeps : (m : Moment) (h : HandedEvent) (d : ℕ) → Keeps m (settle h d) (settling m h d)
settle_keeps m h d = cond_both (eqb h.connection m.conn.number) _ _ (Keeps m (settle h d))
    (λ _. settle_in_keeps m h d m.conn.phase)
    (λ _. refuses m (settle h d) BadToken)

-- requests: sent, or its fault stored
birth_keeps : (p : Option Child) (c : Conn) → ((with_birth p c).reads ≡ c.reads) × ((with_birth p c).fault ≡ c.fault)
birth_keeps None c = (refl, refl)
birth_keeps (Some p) c = (refl, refl)

same_stored : (f : TransportFault) → stored (Some (Io f)) f ≡ true
same_stored f = and_from _ _ (eq-eqb f.layer f.layer refl) (eq-eqb f.code f.code refl)

put_keeps : (m : Moment) (r : Request) (x : Sending) (f : wire.Message) → Keeps m (send_request r) (sending_it m r x (putting f m.end))
put_keeps m r x f =
    let b = birth_keeps x.child m.conn in
    cond_both (eqb m.end.room 0) _ _ (λ (p : Result (Unit {0}) TransportFault × End). Keeps m (send_request r) (sending_it m r x p))
    (λ z. record {
      counts = ap (λ n. 0 + n) (sym b.0);
      puts = let q : cond {A = ℕ} (eqb m.end.room 0 && stored (Some (Io (put_fault m.end))) (put_fault m.end)) 1 0 ≡ 1 = cond-true _ _ _ (and_from _ _ z (same_stored (put_fault m.end))) in omega arith;
      appends = ([], sym (append-nil m.end.sent), λ _. refl);
      held = held_refl _;
      fault = λ _. refl;
      refusal = not_refused _;
    })
    (λ z. record {
      counts = ap (λ n. 0 + n) (sym b.0);
      puts = let q : cond {A = ℕ} (eqb m.end.room 0 && stored (with_birth x.child m.conn).fault (put_fault m.end)) 1 0 ≡ 0 = cond-false _ _ _ (and_left _ _ z) in let l = length_push m.end.sent f in omega arith;
      appends = (f ∷ [], refl, λ e. let y : ◌≡◌ {A = ℕ} 0 1 = cc in absurd (omega arith));
      held = record { read_stop = refl; write_stop = refl; hold = refl; height = refl };
      fault = λ e. ap is_some b.1 ∙ e;
      refusal = not_refused _;
    })

send_keeps : (m : Moment) (r : Request) (s : Result Sending Refusal) → Keeps m (send_request r) (sending_checked m r s)
send_keeps m r (Err e) = refuses m (send_request r) e
send_keeps m r (Ok x) = put_keeps m r x (frame_for r (child_handle x.child).number)

-- look-ups
destroy_keeps : (m : Moment) (h : ObjectId) (o : Option Object) → Keeps m (destroy_object h) (destroying m h o)
destroy_keeps m h None = refuses m (destroy_object h) InvalidId
destroy_keeps m h (Some o) = cond_both o.client_destroyed _ _ (Keeps m (destroy_object h))
    (λ _. refuses m (destroy_object h) InvalidId)
    (λ _. cond_both (eqb h.number 1) _ _ (Keeps m (destroy_object h))
    (λ _. refuses m (destroy_object h) DisplayProtected)
    (λ _. rests m (destroy_object h) _ _ _ refl refl refl refl (held_refl _) (λ e. e)))

get_keeps : (m : Moment) (h : ObjectId) (o : Option Object) → Keeps m (get_data h) (getting m o)
get_keeps m h None = refuses m (get_data h) InvalidId
get_keeps m h (Some o) = rests m (get_data h) _ _ _ refl refl refl refl (held_refl _) (λ e. e)

set_keeps : (m : Moment) (h : ObjectId) (d : ℕ) (o : Option Object) → Keeps m (set_data h d) (setting m h d o)
set_keeps m h d None = refuses m (set_data h d) InvalidId
set_keeps m h d (Some o) = cond_both (eqb h.number 1) _ _ (Keeps m (set_data h d))
    (λ _. refuses m (set_data h d) DisplayProtected)
    (λ _. cond_both (eqb d 0) _ _ (Keeps m (set_data h d))
    (λ _. refuses m (set_data h d) BadData)
    (λ _. rests m (set_data h d) _ _ _ refl refl refl refl (held_refl _) (λ e. e)))

info_keeps : (m : Moment) (h : ObjectId) (o : Option Object) → Keeps m (info h) (informing m h o)
info_keeps m h None = refuses m (info h) InvalidId
info_keeps m h (Some o) = cond_both o.client_destroyed _ _ (Keeps m (info h))
    (λ _. refuses m (info h) InvalidId)
    (λ _. rests m (info h) _ _ _ refl refl refl refl (held_refl _) (λ e. e))

-- flush
flushed_keeps : (m : Moment) (f : Result (Unit {0}) TransportFault) → Keeps m flush (flushing_end m f)
flushed_keeps m (Ok _) = rests m flush _ _ _ refl refl refl refl (held_refl _) (λ e. e)
flushed_keeps m (Err f) = cond_both (eqb f.code 11) _ _ (λ (c : Conn). Keeps m flush (conn_left (faulted (Io f)) c m))
    (λ _. rests m flush _ _ _ refl refl refl refl (held_refl _) (λ e. e))
    (λ _. rests m flush _ _ _ refl refl refl refl (held_refl _) (λ _. refl))

flush_keeps : (m : Moment) (f : Option WaylandError) → Keeps m flush (flushing_in m f)
flush_keeps m None = flushed_keeps m (flushing m.end)
flush_keeps m (Some f) = rests m flush _ _ _ refl refl refl refl (held_refl _) (λ e. e)

-- every call
answered_keeps : (t : Table) (m : Moment) (c : Call) → Keeps m c (answered t m c)
answered_keeps t m prepare = prepare_keeps m
answered_keeps t m (cancel i) = cancel_keeps m i
answered_keeps t m (read i) = read_keeps m i
answered_keeps t m (resume w) = resume_keeps m w
answered_keeps t m (next k rooms) = next_keeps t m k rooms
answered_keeps t m (settle h d) = settle_keeps m h d
answered_keeps t m (send_request r) = send_keeps m r (checked t m.slots (next_serial m.conn.last_serial) r)
answered_keeps t m (destroy_object h) = destroy_keeps m h (resolved (seen_in m.slots) h)
answered_keeps t m (get_data h) = get_keeps m h (resolved (seen_in m.slots) h)
answered_keeps t m (set_data h d) = set_keeps m h d (resolved (seen_in m.slots) h)
answered_keeps t m (info h) = info_keeps m h (resolved (seen_in m.slots) h)
answered_keeps t m flush = flush_keeps m m.conn.fault

call_keeps : (t : Table) (m : Moment) (c : Call) → Keeps m c (defined t m c)
call_keeps t m c = cond_both (fits m.slots) _ _ (Keeps m c) (λ _. answered_keeps t m c) (λ _. refuses m c BadRoom)

-- the facts of one call
pub refusal_leaves : (t : Table) (m : Moment) (c : Call) (e : Refusal) → (defined t m c).answer ≡ Err e → ((defined t m c).moment ≡ m) × ((defined t m c).rooms ≡ rooms_of c)
refusal_leaves t m c = (call_keeps t m c).refusal

pub keeps_sent : (t : Table) (m : Moment) (c : Call) → (more : List wire.Message) × ((defined t m c).moment.end.sent ≡ m.end.sent ++ more) × (eqb (sort_of c) 3 ≡ false → more ≡ [])
keeps_sent t m c = (call_keeps t m c).appends

pub keeps_fault : (t : Table) (m : Moment) (c : Call) → is_some m.conn.fault ≡ true → is_some (defined t m c).moment.conn.fault ≡ true
keeps_fault t m c = (call_keeps t m c).fault

pub keeps_hold : (t : Table) (m : Moment) (c : Call) → Grounded m.end → Grounded (defined t m c).moment.end
keeps_hold t m c = held_grounded _ _ (call_keeps t m c).held

-- what a request sends, and which fault it stores
abbrev Sends : Moment → Request → Left → Type 0
Sends m r y = (x : ObjectId) (o : Option Notice) → y.answer ≡ Ok (sent x o) → (y.moment.end ≡ cond (eqb m.end.room 0) m.end (sending (frame_for r x.number) m.end)) × (y.moment.conn.fault ≡ cond (eqb m.end.room 0) (Some (Io (put_fault m.end))) m.conn.fault)

refused_sends : (m : Moment) (r : Request) (e : Refusal) (rooms : Rooms) → Sends m r (refuse e m rooms)
refused_sends m r e rooms x o q = let z : ◌≡◌ {A = ℕ} 0 1 = cc in absurd (omega arith)

put_sends : (m : Moment) (r : Request) (s : Sending) → Sends m r (sending_it m r s (putting (frame_for r (child_handle s.child).number) m.end))
put_sends m r s = cond_both (eqb m.end.room 0) _ _ (λ (p : Result (Unit {0}) TransportFault × End). Sends m r (sending_it m r s p))
    (λ z x o q. (sym (cond-true _ _ _ z), sym (cond-true _ _ _ z)))
    (λ z x o q.
    let h : child_handle s.child ≡ x = cc in
    (ap (λ (y : ObjectId). sending (frame_for r y.number) m.end) h ∙ sym (cond-false _ _ _ z), (birth_keeps s.child m.conn).1 ∙ sym (cond-false _ _ _ z)))

checked_sends : (m : Moment) (r : Request) (s : Result Sending Refusal) → Sends m r (sending_checked m r s)
checked_sends m r (Err e) = refused_sends m r e none
checked_sends m r (Ok s) = put_sends m r s

pub sends_exactly : (t : Table) (m : Moment) (r : Request) (x : ObjectId) (o : Option Notice) → (defined t m (send_request r)).answer ≡ Ok (sent x o) → ((defined t m (send_request r)).moment.end ≡ cond (eqb m.end.room 0) m.end (sending (frame_for r x.number) m.end)) × ((defined t m (send_request r)).moment.conn.fault ≡ cond (eqb m.end.room 0) (Some (Io (put_fault m.end))) m.conn.fault)
sends_exactly t m r = cond_both (fits m.slots) _ _ (Sends m r) (λ _. checked_sends m r (checked t m.slots (next_serial m.conn.last_serial) r)) (λ _. refused_sends m r BadRoom none)

-- the balances of a run
pub reads : {t : Table} {h : History} {m : Moment} → Run t h m → accepted_of 1 h ≡ accepted_of 2 h + m.conn.reads
reads (made number c s e l g) = refl
reads (world run changed) = rw changed.conn (reads run)
reads {t} (called {h} {m} run c) = let a = (call_keeps t m c).counts in let b = reads run in omega arith

pub requests : {t : Table} {h : History} {m : Moment} → Run t h m → accepted_of 3 h ≡ appended h + faults_of_put h
requests (made number c s e l g) = refl
requests (world run changed) = requests run
requests {t} (called {h} {m} run c) = let a = (call_keeps t m c).puts in let b = requests run in omega arith

pub grounded : {t : Table} {h : History} {m : Moment} → Run t h m → Grounded m.end
grounded (made number c s e l g) = g
grounded (world run changed) = changed.grounded
grounded {t} (called {h} {m} run c) = keeps_hold t m c (grounded run)
