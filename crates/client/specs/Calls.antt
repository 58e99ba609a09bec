-- The twelve calls: what each answers and leaves, on every input.
use Rattle.std.specs.Prelude.{ℕ, ◌+◌, ◌-◌, ◌^◌, min, Bool, true, false, cond, ◌&&◌, List, length, Some, None, Ok, Err, Option, Result, ◌==◌, nat_le, nat_lt}
use Rattle.std.specs.List.{slice_get}
use Rattle.object_map.specs.Map.{Map, fits, lookup}
use Rattle.protocol.specs.Descriptions.{Message}
use Rattle.protocol.specs.Lookups.{event_at, null_id}
use Rattle.protocol.specs.declared.argument.Argument.{Argument}
use Rattle.protocol.specs.declared.error.ErrorInterface.{ErrorInterface}
use Rattle.protocol.specs.declared.error.ErrorInterface.TheVariants.{Empty, Known, Unknown}
use Rattle.protocol.specs.declared.error.ProtocolReason.{ProtocolReason}
use Rattle.protocol.specs.declared.error.ProtocolReason.TheVariants.{ErrorEvent, Malformed}
use Rattle.protocol.specs.declared.error.TransportFault.{TransportFault}
use Rattle.protocol.specs.declared.error.WaylandError.{WaylandError}
use Rattle.protocol.specs.declared.error.WaylandError.TheVariants.{Io, Protocol}
use Rattle.protocol.specs.declared.id.ObjectId.{ObjectId}
use Rattle.protocol.specs.declared.refusal.Refusal.{Refusal}
use Rattle.protocol.specs.declared.refusal.Refusal.TheVariants.{InvalidId, BadData, DisplayProtected, BadToken, CannotPrepare, BadRoom}
use Rattle.transport.specs.Ends.{End, Waiting, first_in, take_of, leaving, putting, flushing}
use Rattle.transport.specs.Frames.{roomy}
use Rattle.transport.specs.Layout.{laid, written}
use Rattle.transport.specs.Wire.{Arg, int, uint, fixed, str, object, new_id, array, fd, texts}
use Rattle.client.specs.Events.{Walked, Passing, pass_all}
use Rattle.client.specs.Requests.{Table, Request, Child, Sending, checked, frame_for, placing}
use Rattle.client.specs.State.{handle_of, notice_of, client_marked, server_marked, both_marked, with_data, seen_in, resolved, changed_at, emptied_at, Conn, Moment, with_fault, with_serial, with_reads, with_phase, woken, next_serial, with_conn, with_slots, Rooms, none, Reply, done, prepared, waits, round, faulted, quiet, handed_out, over, settled, sent, destroyed, content, informed, Left, leave, refuse}
use Rattle.client.specs.declared.connection.Event.{Event}
use Rattle.client.specs.declared.connection.HandedEvent.{HandedEvent}
use Rattle.client.specs.declared.connection.Phase.{Phase}
use Rattle.client.specs.declared.connection.Phase.TheVariants.{Idle, Reading, Handed}
use Rattle.client.specs.declared.connection.ReadIntent.{ReadIntent}
use Rattle.client.specs.declared.connection.Round.{Round}
use Rattle.client.specs.declared.connection.WaitingRead.{WaitingRead}
use Rattle.client.specs.declared.object.Object.{Object}

-- the calls, each with what is its own: tokens, handles, arguments, and the rooms of next
pub data Call : Type 0 where
  prepare : Call
  cancel : ReadIntent → Call
  read : ReadIntent → Call
  resume : WaitingRead → Call
  next : Round → Rooms → Call
  settle : HandedEvent → ℕ → Call
  send_request : Request → Call
  destroy_object : ObjectId → Call
  get_data : ObjectId → Call
  set_data : ObjectId → ℕ → Call
  info : ObjectId → Call
  flush : Call

-- the rooms that a call is lent to fill
abbrev pub rooms_of : Call → Rooms
rooms_of prepare = none
rooms_of (cancel i) = none
rooms_of (read i) = none
rooms_of (resume w) = none
rooms_of (next r rooms) = rooms
rooms_of (settle e d) = none
rooms_of (send_request r) = none
rooms_of (destroy_object h) = none
rooms_of (get_data h) = none
rooms_of (set_data h d) = none
rooms_of (info h) = none
rooms_of flush = none

-- the rooms of next are large enough: 20 arguments, 1,024 bytes of text, 1,024 of an error's text
abbrev pub fillable : Rooms → Bool
fillable r = roomy r.args r.text && nat_le 1024 (length r.fault_text)

-- the same connection, other reads; a call that changes the connection alone
abbrev pub conn_left : Reply → Conn → Moment → Left
conn_left a c m = leave a (with_conn c m) none

-- the tokens of a connection
abbrev pub intent_of : Conn → ReadIntent
intent_of c = record { connection = c.number }

abbrev pub round_of : Conn → Round
round_of c = record { connection = c.number }

abbrev pub waiting_of : Conn → WaitingRead
waiting_of c = record { connection = c.number; read_serial = c.read_serial }

abbrev pub is_idle : Phase → Bool
is_idle Idle = true
is_idle (Reading n) = false
is_idle (Handed n e) = false

-- prepare: one read more, unless a round is open or 65,535 are prepared
abbrev pub preparing : Moment → Left
preparing m =
    cond (is_idle m.conn.phase && nat_lt m.conn.reads 65535)
    (conn_left (prepared (intent_of m.conn)) (with_reads (m.conn.reads + 1) m.conn) m)
    (refuse CannotPrepare m none)

-- an intent is the connection's own, and a read is prepared
abbrev pub holds_intent : Conn → ReadIntent → Bool
holds_intent c i = i.connection == c.number && nat_lt 0 c.reads

abbrev pub one_less : Conn → Conn
one_less c = with_reads (c.reads - 1) c

-- cancel: one read less, and after the last one those who wait go on
abbrev pub cancelling : Moment → ReadIntent → Left
cancelling m i =
    cond (holds_intent m.conn i)
    (conn_left done (cond (m.conn.reads == 1) (woken (one_less m.conn)) (one_less m.conn)) m)
    (refuse BadToken m none)

-- the last read: a stored fault ends it, and those who wait go on; else it opens a round
abbrev pub reading_alone : Moment → Option WaylandError → Left
reading_alone m None = conn_left (round (round_of m.conn)) (with_phase (Reading 0) (one_less m.conn)) m
reading_alone m (Some f) = conn_left (faulted f) (woken (one_less m.conn)) m

-- read: one read less; while others are prepared it waits for them
abbrev pub beginning : Moment → ReadIntent → Left
beginning m i =
    cond (holds_intent m.conn i)
    (cond (m.conn.reads == 1) (reading_alone m m.conn.fault) (conn_left (waits (waiting_of m.conn)) (one_less m.conn) m))
    (refuse BadToken m none)

-- the stored fault, or nothing
abbrev pub fault_or_done : Option WaylandError → Reply
fault_or_done None = done
fault_or_done (Some f) = faulted f

-- resume: it waits until the read serial has changed
abbrev pub resuming : Moment → WaitingRead → Left
resuming m w =
    cond (w.connection == m.conn.number)
    (conn_left (cond (w.read_serial == m.conn.read_serial) (waits w) (fault_or_done m.conn.fault)) m.conn m)
    (refuse BadToken m none)

-- the round is over: those who wait go on
abbrev pub ended : Conn → Conn
ended c = woken (with_phase Idle c)

-- over with a fault, which is stored
abbrev pub over_with : WaylandError → Moment → Rooms → Left
over_with f m rooms = leave (over (Err f)) (with_conn (ended (with_fault f m.conn)) m) rooms

-- no frame waits: over with the count of settled events; nothing settled would block, which is not stored; a stop is
abbrev pub resting : Moment → Rooms → ℕ → TransportFault → Left
resting m rooms n f =
    cond (f.code == 11)
    (leave (over (cond (n == 0) (Err (Io f)) (Ok n))) (with_conn (ended m.conn) m) rooms)
    (over_with (Io f) m rooms)

-- a protocol error that the client itself finds
abbrev pub breach : ProtocolReason → WaylandError
breach r = Protocol (record { code = 0; object_id = 0; object_interface = Empty; reason = r })

-- what an argument carries: a number, and the bytes of a string
abbrev pub number_in : Option Arg → ℕ
number_in None = 0
number_in (Some (int x)) = 0
number_in (Some (uint n)) = n
number_in (Some (fixed x)) = 0
number_in (Some (str b)) = 0
number_in (Some (object n)) = n
number_in (Some (new_id n)) = n
number_in (Some (array b)) = 0
number_in (Some (fd n)) = n

-- the interface of the object that an error names
abbrev pub interface_found : Option Object → ErrorInterface
interface_found None = Unknown
interface_found (Some o) = Known o.interface

-- the fault that an error event tells: object, code and text are its arguments
abbrev pub error_told : Map Object → List Arg → WaylandError
error_told s xs = Protocol (record { code = number_in (slice_get xs 1); object_id = number_in (slice_get xs 0); object_interface = interface_found (lookup (number_in (slice_get xs 0)) s); reason = ErrorEvent (length (texts xs)) })

-- delete_id: the object is marked as destroyed by the server; one that the client destroyed too leaves its slot
abbrev pub acknowledged : ℕ → Map Object → Option Object → Map Object
acknowledged n s None = s
acknowledged n s (Some o) = cond o.client_destroyed (emptied_at n s) (changed_at server_marked n s)

-- the rooms once a frame was taken: its arguments and their bytes at their start
abbrev pub taken_into : List Arg → Rooms → Rooms
taken_into xs r = record { args = written (laid 0 xs) r.args; text = written (texts xs) r.text; fault_text = r.fault_text }

-- and once an error was told: its text opens the room for it
abbrev pub told_into : List Arg → Rooms → Rooms
told_into xs r = record { args = r.args; text = r.text; fault_text = written (texts xs) r.fault_text }

-- and once its arguments were passed
abbrev pub passed_into : List (Argument ObjectId) → Rooms → Rooms
passed_into args r = record { args = written args r.args; text = r.text; fault_text = r.fault_text }

-- a moment once its first frame is gone
abbrev pub without : Waiting → Moment → Moment
without w m = record { conn = m.conn; slots = m.slots; end = leaving w m.end }

-- an event of the display: error is over, delete_id quiet
abbrev pub from_display : Moment → Rooms → ℕ → List Arg → Left
from_display m rooms opcode xs =
    cond (opcode == 0)
    (over_with (error_told m.slots xs) m (told_into xs rooms))
    (leave (quiet (round_of m.conn)) (with_slots (acknowledged (number_in (slice_get xs 0)) m.slots (lookup (number_in (slice_get xs 0)) m.slots)) m) rooms)

-- the moment that the passing of arguments leaves
abbrev pub passed_on : Passing → Moment → Moment
passed_on p m = record { conn = with_serial p.last m.conn; slots = p.slots; end = m.end }

-- the event as settle will want it
abbrev pub event_of : ℕ → Object → Message → Option ℕ → Event
event_of sender o d child = record { receiver = handle_of sender o; «data» = o.«data»; destroys = d.destructor; child = child }

-- an argument that fails ends the round; a client_destroyed receiver keeps it quiet; else the event is handed out
abbrev pub passed_to : Moment → Rooms → ℕ → ℕ → ℕ → Object → Message → Walked Passing (Argument ObjectId) ProtocolReason → Option ProtocolReason → Left
passed_to m rooms n sender opcode o d w (Some r) = over_with (breach r) (passed_on w.state m) (passed_into w.room rooms)
passed_to m rooms n sender opcode o d w None =
    cond o.client_destroyed
    (leave (quiet (round_of m.conn)) (passed_on w.state m) (passed_into w.room rooms))
    (leave (handed_out (record { connection = m.conn.number; number = sender; serial = o.serial }) (handle_of sender o) opcode)
    (with_conn (with_phase (Handed n (event_of sender o d w.state.child)) (with_serial w.state.last m.conn)) (passed_on w.state m))
    (passed_into w.room rooms))

-- the event goes to an object: all its arguments are passed, then it is asked what became of them
abbrev pub passing : Moment → Rooms → ℕ → ℕ → ℕ → Object → Message → Walked Passing (Argument ObjectId) ProtocolReason → Left
passing m rooms n sender opcode o d w = passed_to m rooms n sender opcode o d w w.stop

abbrev pub taken : Table → Moment → Rooms → ℕ → ℕ → ℕ → Object → Message → Option (List Arg × Waiting) → Left
taken t m rooms n sender opcode o d None = over_with (breach Malformed) m rooms
taken t m rooms n sender opcode o d (Some (xs, w)) =
    cond (sender == 1)
    (from_display (without w m) (taken_into xs rooms) opcode xs)
    (passing (without w m) (taken_into xs rooms) n sender opcode o d (pass_all t o d m.slots m.conn.last_serial (laid 0 xs)))

abbrev pub described : Table → Moment → Rooms → ℕ → ℕ → ℕ → Object → Option Message → Left
described t m rooms n sender opcode o None = over_with (breach Malformed) m rooms
described t m rooms n sender opcode o (Some d) = taken t m rooms n sender opcode o d (take_of d.signature m.end.waiting)

-- a frame whose sender is not there, whose opcode is unknown or whose arguments do not fit is malformed, and stays
abbrev pub sent_by : Table → Moment → Rooms → ℕ → ℕ → ℕ → Option Object → Left
sent_by t m rooms n sender opcode None = over_with (breach Malformed) m rooms
sent_by t m rooms n sender opcode (Some o) = described t m rooms n sender opcode o (event_at t o.interface opcode)

-- next depends on the phase and on the first frame together
abbrev pub next_in : Table → Moment → Rooms → Phase → Result (ℕ × ℕ) TransportFault → Left
next_in t m rooms Idle f = refuse BadToken m rooms
next_in t m rooms (Handed n e) f = refuse BadToken m rooms
next_in t m rooms (Reading n) (Err f) = resting m rooms n f
next_in t m rooms (Reading n) (Ok (sender, opcode)) = sent_by t m rooms n sender opcode (lookup sender m.slots)

abbrev pub nexting : Table → Moment → Round → Rooms → Left
nexting t m r rooms =
    cond (fillable rooms)
    (cond (r.connection == m.conn.number) (next_in t m rooms m.conn.phase (first_in m.end)) (refuse BadToken m rooms))
    (refuse BadRoom m rooms)

-- a data number comes exactly with a child
abbrev pub data_stands : Option ℕ → ℕ → Bool
data_stands None d = d == 0
data_stands (Some n) d = nat_lt 0 d

-- the child of a settled event gets its data number
abbrev pub with_child_data : Option ℕ → ℕ → Map Object → Map Object
with_child_data None d s = s
with_child_data (Some n) d s = changed_at (with_data d) n s

-- one event more, as far as 64 bits count
abbrev pub counted : ℕ → ℕ
counted n = min (n + 1) (2 ^ 64 - 1)

-- a destructor marks its receiver, and tells of it as it was handed out
abbrev pub settling_event : Moment → ℕ → Event → ℕ → Left
settling_event m n e d =
    cond (data_stands e.child d)
    (leave (settled (round_of m.conn) (cond e.destroys (Some (record { id = e.receiver; «data» = e.«data» })) None))
    (record { conn = with_phase (Reading (counted n)) m.conn; slots = with_child_data e.child d (cond e.destroys (changed_at both_marked e.receiver.number m.slots) m.slots); end = m.end })
    none)
    (refuse BadData m none)

abbrev pub settling_in : Moment → HandedEvent → ℕ → Phase → Left
settling_in m h d Idle = refuse BadToken m none
settling_in m h d (Reading n) = refuse BadToken m none
settling_in m h d (Handed n e) = cond (h.number == e.receiver.number && h.serial == e.receiver.serial) (settling_event m n e d) (refuse BadToken m none)

-- settle: the event in hand, and no other
abbrev pub settling : Moment → HandedEvent → ℕ → Left
settling m h d = cond (h.connection == m.conn.number) (settling_in m h d m.conn.phase) (refuse BadToken m none)

-- a fault of put is stored
abbrev pub with_put : Result (Unit {0}) TransportFault → Conn → Conn
with_put (Ok _) c = c
with_put (Err f) c = with_fault (Io f) c

-- a child has drawn its serial
abbrev pub with_birth : Option Child → Conn → Conn
with_birth None c = c
with_birth (Some p) c = with_serial p.1.serial c

abbrev pub child_handle : Option Child → ObjectId
child_handle None = null_id
child_handle (Some p) = handle_of p.0 p.1

-- an accepted request: the child is placed, the frame is put, and a destructor marks its sender and tells of it
abbrev pub sending_it : Moment → Request → Sending → Result (Unit {0}) TransportFault × End → Left
sending_it m r x (put, e) =
    leave (sent (child_handle x.child) (cond x.desc.destructor (Some (notice_of r.sender.number x.by)) None))
    (record {
      conn = with_put put (with_birth x.child m.conn);
      slots = cond x.desc.destructor (changed_at client_marked r.sender.number (placing x.child m.slots)) (placing x.child m.slots);
      end = e;
    })
    none

abbrev pub sending_checked : Moment → Request → Result Sending Refusal → Left
sending_checked m r (Err e) = refuse e m none
sending_checked m r (Ok x) = sending_it m r x (putting (frame_for r (child_handle x.child).number) m.end)

-- look-ups, by what a handle resolves to
abbrev pub destroying : Moment → ObjectId → Option Object → Left
destroying m h None = refuse InvalidId m none
destroying m h (Some o) =
    cond o.client_destroyed (refuse InvalidId m none)
    (cond (h.number == 1) (refuse DisplayProtected m none)
    (leave (destroyed (notice_of h.number o)) (with_slots (changed_at client_marked h.number m.slots) m) none))

abbrev pub getting : Moment → Option Object → Left
getting m None = refuse InvalidId m none
getting m (Some o) = leave (content o.«data») m none

abbrev pub setting : Moment → ObjectId → ℕ → Option Object → Left
setting m h d None = refuse InvalidId m none
setting m h d (Some o) =
    cond (h.number == 1) (refuse DisplayProtected m none)
    (cond (d == 0) (refuse BadData m none)
    (leave done (with_slots (changed_at (with_data d) h.number m.slots) m) none))

abbrev pub informing : Moment → ObjectId → Option Object → Left
informing m h None = refuse InvalidId m none
informing m h (Some o) =
    cond o.client_destroyed (refuse InvalidId m none)
    (leave (informed (record { id = h.number; interface = o.interface; version = o.version })) m none)

-- flush: the stored fault, or what the transport says; what would block is not stored
abbrev pub flushing_end : Moment → Result (Unit {0}) TransportFault → Left
flushing_end m (Ok _) = leave done m none
flushing_end m (Err f) = conn_left (faulted (Io f)) (cond (f.code == 11) m.conn (with_fault (Io f) m.conn)) m

abbrev pub flushing_in : Moment → Option WaylandError → Left
flushing_in m None = flushing_end m (flushing m.end)
flushing_in m (Some f) = leave (faulted f) m none

-- each call over slot rooms of the right lengths
abbrev pub answered : Table → Moment → Call → Left
answered t m prepare = preparing m
answered t m (cancel i) = cancelling m i
answered t m (read i) = beginning m i
answered t m (resume w) = resuming m w
answered t m (next r rooms) = nexting t m r rooms
answered t m (settle e d) = settling m e d
answered t m (send_request r) = sending_checked m r (checked t m.slots (next_serial m.conn.last_serial) r)
answered t m (destroy_object h) = destroying m h (resolved (seen_in m.slots) h)
answered t m (get_data h) = getting m (resolved (seen_in m.slots) h)
answered t m (set_data h d) = setting m h d (resolved (seen_in m.slots) h)
answered t m (info h) = informing m h (resolved (seen_in m.slots) h)
answered t m flush = flushing_in m m.conn.fault

-- each call: slot rooms of other lengths than at creation are refused first
abbrev pub defined : Table → Moment → Call → Left
defined t m c = cond (fits m.slots) (answered t m c) (refuse BadRoom m (rooms_of c))
