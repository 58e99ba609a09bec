-- Worked cases: what the definitions come to on short scripts over a new connection.
use Rattle.std.specs.Prelude.{◌≡◌, ℕ, true, List, [], ◌∷◌, ◌++◌, take, replicate, Some, None, Ok, Err, codes, Result}
use Rattle.object_map.specs.Map.{lookup}
use Rattle.protocol.specs.Core.{core}
use Rattle.protocol.specs.Lookups.{null_id, display_id}
use Rattle.protocol.specs.declared.argument.Argument.TheVariants.{Uint, NewId}
use Rattle.protocol.specs.declared.error.ErrorInterface.TheVariants.{Known}
use Rattle.protocol.specs.declared.error.ProtocolReason.TheVariants.{ErrorEvent, Malformed}
use Rattle.protocol.specs.declared.error.WaylandError.{WaylandError}
use Rattle.protocol.specs.declared.error.WaylandError.TheVariants.{Io, Protocol}
use Rattle.protocol.specs.declared.id.ObjectId.{ObjectId}
use Rattle.protocol.specs.declared.refusal.Refusal.{Refusal}
use Rattle.protocol.specs.declared.refusal.Refusal.TheVariants.{InvalidId}
use Rattle.transport.specs.Ends.{End, Waiting, frames, fault}
use Rattle.transport.specs.Layers.{queue, stacked}
use Rattle.transport.specs.Lists.{fresh, end_of}
use Rattle.transport.specs.Wire.{Message, message, uint, str, object, new_id}
use Rattle.client.specs.Calls.{Call, prepare, cancel, read, resume, next, settle, send_request, destroy_object, get_data, info, breach, without, defined}
use Rattle.client.specs.Requests.{Table}
use Rattle.client.specs.Runs.{created}
use Rattle.client.specs.State.{Moment, Rooms, Reply, done, prepared, waits, round, quiet, handed_out, over, settled, sent, destroyed, content, informed}
use Rattle.client.specs.declared.connection.HandedEvent.{HandedEvent}
use Rattle.client.specs.declared.connection.ReadIntent.{ReadIntent}
use Rattle.client.specs.declared.connection.Round.{Round}
use Rattle.client.specs.declared.connection.WaitingRead.{WaitingRead}
use Rattle.client.specs.declared.object.Notice.{Notice}
use Rattle.client.specs.declared.object.Object.{Object}

-- the moment after calls made in a row
abbrev pub after_by : Table → Moment → List Call → Moment
after_by t m [] = m
after_by t m (c ∷ cs) = after_by t (defined t m c).moment cs

-- and their answers
abbrev pub answers_by : Table → Moment → List Call → List (Result Reply Refusal)
answers_by t m [] = []
answers_by t m (c ∷ cs) = (defined t m c).answer ∷ answers_by t (defined t m c).moment cs

-- over the core alone
abbrev pub after : Moment → List Call → Moment
after m cs = after_by core m cs

abbrev pub answers : Moment → List Call → List (Result Reply Refusal)
answers m cs = answers_by core m cs

-- a frame comes to wait behind the others
abbrev pub behind : Message → Waiting → Waiting
behind f (frames fs) = frames (fs ++ f ∷ [])

abbrev pub brought : Moment → Message → Moment
brought m f = without (behind f m.end.waiting) m

-- connection 9, with eight client slots and two server slots
abbrev pub connected : End → Moment
connected e = created 9 (replicate 8 None) (replicate 2 None) e

-- over a list end with four places each way
abbrev pub start : Moment
start = connected (end_of (fresh 4 4))

-- its tokens
abbrev pub intent : ReadIntent
intent = record { connection = 9 }

abbrev pub open_round : Round
open_round = record { connection = 9 }

abbrev pub waiting_read : WaitingRead
waiting_read = record { connection = 9; read_serial = 0 }

abbrev pub handed_event : ℕ → ℕ → HandedEvent
handed_event n k = record { connection = 9; number = n; serial = k }

-- rooms that are just large enough
abbrev pub rooms : Rooms
rooms = record { args = replicate 20 (Uint 0); text = replicate 1024 0; fault_text = replicate 1024 0 }

-- sync, with the data number of its callback
abbrev pub sync : ℕ → Call
sync d = send_request (record { sender = display_id; opcode = 0; args = NewId null_id ∷ []; text = []; content = d; child = None })

abbrev pub sync_frame : ℕ → Message
sync_frame n = message 1 0 (new_id n ∷ [])

-- the handle of a callback, the callback in its slot once both sides destroyed it, and the notice of the first one
abbrev pub callback : ℕ → ℕ → ObjectId
callback n k = record { number = n; serial = k; interface = 2 }

abbrev pub destroyed_callback : ℕ → ℕ → Object
destroyed_callback d k = record { interface = 2; version = 1; «data» = d; serial = k; client_destroyed = true; server_destroyed = true }

abbrev pub first_notice : Notice
first_notice = record { id = callback 2 1; «data» = 5 }

-- events: done, delete_id, error
abbrev pub done_to : ℕ → Message
done_to n = message n 0 (uint 77 ∷ [])

abbrev pub delete_id : ℕ → Message
delete_id n = message 1 1 (uint n ∷ [])

abbrev pub error_on : ℕ → ℕ → List ℕ → Message
error_on n code text = message 1 0 (object n ∷ uint code ∷ str (Some text) ∷ [])

-- the calls by which a frame is taken
abbrev pub taking : List Call
taking = prepare ∷ read intent ∷ next open_round rooms ∷ []

-- a sync was sent
abbrev pub synced : Moment
synced = after start (sync 5 ∷ [])

-- sync gives its callback the number 2 and the serial 1, and is sent with that number
abbrev pub SyncOnce : Type 0
SyncOnce =
    (answers start (sync 5 ∷ []) ≡ Ok (sent (callback 2 1) None) ∷ [])
    × (synced.end.sent ≡ sync_frame 2 ∷ [])

-- done waits; then it is taken and settled
abbrev pub done_waits : Moment
done_waits = brought synced (done_to 2)

abbrev pub settled_done : Moment
settled_done = after done_waits (taking ++ settle (handed_event 2 1) 0 ∷ [])

-- done is handed out with its argument; once it is settled a notice tells of the callback, whose slot has both marks:
-- info is refused, its data number can still be read; then the round is over with one event
abbrev pub DoneSettled : Type 0
DoneSettled =
    (answers done_waits (taking ++ settle (handed_event 2 1) 0 ∷ info (callback 2 1) ∷ get_data (callback 2 1) ∷ next open_round rooms ∷ [])
    ≡ Ok (prepared intent) ∷ Ok (round open_round) ∷ Ok (handed_out (handed_event 2 1) (callback 2 1) 0)
    ∷ Ok (settled open_round (Some first_notice))
    ∷ Err InvalidId ∷ Ok (content 5) ∷ Ok (over (Ok 1)) ∷ [])
    × (take 1 (defined core (after done_waits (prepare ∷ read intent ∷ [])) (next open_round rooms)).rooms.args ≡ Uint 77 ∷ [])
    × (lookup 2 settled_done.slots ≡ Some (destroyed_callback 5 1))

-- delete_id gives the number back: the next sync has it again, with another serial, and the old handle stays refused
abbrev pub NumberBack : Type 0
NumberBack =
    answers (brought (after settled_done (next open_round rooms ∷ [])) (delete_id 2))
    (taking ++ get_data (callback 2 1) ∷ sync 6 ∷ get_data (callback 2 1) ∷ get_data (callback 2 2) ∷ [])
    ≡ Ok (prepared intent) ∷ Ok (round open_round) ∷ Ok (quiet open_round) ∷ Err InvalidId
    ∷ Ok (sent (callback 2 2) None) ∷ Err InvalidId ∷ Ok (content 6) ∷ []

-- delete_id comes before the client has destroyed the callback; then the client destroys it
abbrev pub released : Moment
released = brought synced (delete_id 2)

abbrev pub destroyed_then : Moment
destroyed_then = after released (taking ++ destroy_object (callback 2 1) ∷ [])

-- an early delete_id leaves the callback in use, and once the client has destroyed it in its slot; a second one empties
-- the slot
abbrev pub DeletedEarly : Type 0
DeletedEarly =
    (answers released (taking ++ get_data (callback 2 1) ∷ info (callback 2 1) ∷ destroy_object (callback 2 1) ∷ get_data (callback 2 1) ∷ [])
    ≡ Ok (prepared intent) ∷ Ok (round open_round) ∷ Ok (quiet open_round) ∷ Ok (content 5)
    ∷ Ok (informed (record { id = 2; interface = 2; version = 1 }))
    ∷ Ok (destroyed first_notice) ∷ Ok (content 5) ∷ [])
    × (lookup 2 destroyed_then.slots ≡ Some (destroyed_callback 5 1))
    × (answers (brought destroyed_then (delete_id 2)) (next open_round rooms ∷ get_data (callback 2 1) ∷ []) ≡ Ok (quiet open_round) ∷ Err InvalidId ∷ [])
    × (lookup 2 (after (brought destroyed_then (delete_id 2)) (next open_round rooms ∷ [])).slots ≡ None)

-- delete_id of a number that nobody has is quiet and alters no slot
abbrev pub DeleteUnknown : Type 0
DeleteUnknown =
    (answers (brought synced (delete_id 99)) taking ≡ Ok (prepared intent) ∷ Ok (round open_round) ∷ Ok (quiet open_round) ∷ [])
    × ((after (brought synced (delete_id 99)) taking).slots ≡ synced.slots)

-- a frame from a number that nobody has is malformed: the round is over, the fault is stored, the frame stays, and
-- requests go on
abbrev pub UnknownSender : Type 0
UnknownSender =
    (answers (brought start (done_to 7)) (taking ++ sync 5 ∷ [])
    ≡ Ok (prepared intent) ∷ Ok (round open_round) ∷ Ok (over (Err (breach Malformed))) ∷ Ok (sent (callback 2 1) None) ∷ [])
    × ((after (brought start (done_to 7)) taking).conn.fault ≡ Some (breach Malformed))
    × ((after (brought start (done_to 7)) taking).end.waiting ≡ frames (done_to 7 ∷ []))

-- a layer that holds one frame, over a list end without a place to send
abbrev pub narrow : Moment
narrow = connected (stacked (fresh 4 0) (queue [] 1 ∷ []))

-- the first of two syncs is held; the second is accepted too, and "too big" at layer 1 is stored
abbrev pub TooBig : Type 0
TooBig =
    (answers narrow (sync 5 ∷ sync 6 ∷ []) ≡ Ok (sent (callback 2 1) None) ∷ Ok (sent (callback 3 2) None) ∷ [])
    × ((after narrow (sync 5 ∷ [])).conn.fault ≡ None)
    × ((after narrow (sync 5 ∷ sync 6 ∷ [])).conn.fault ≡ Some (Io (fault 1 7)))

-- of two prepared reads one waits for the other; once that is cancelled it goes on
abbrev pub ReadWaits : Type 0
ReadWaits =
    answers start (prepare ∷ prepare ∷ read intent ∷ cancel intent ∷ resume waiting_read ∷ [])
    ≡ Ok (prepared intent) ∷ Ok (prepared intent) ∷ Ok (waits waiting_read) ∷ Ok done ∷ Ok done ∷ []

-- the fault that an error on the display tells
abbrev pub display_fault : WaylandError
display_fault = Protocol (record { code = 3; object_id = 1; object_interface = Known 0; reason = ErrorEvent 3 })

abbrev pub accused : Moment
accused = brought start (error_on 1 3 (codes "bad"))

-- an error event ends the round with the object, its interface, the code and the length of the text, which opens the
-- room for it; the fault is stored
abbrev pub ErrorTold : Type 0
ErrorTold =
    (answers accused taking ≡ Ok (prepared intent) ∷ Ok (round open_round) ∷ Ok (over (Err display_fault)) ∷ [])
    × (take 3 (defined core (after accused (prepare ∷ read intent ∷ [])) (next open_round rooms)).rooms.fault_text ≡ codes "bad")
    × ((after accused taking).conn.fault ≡ Some display_fault)

abbrev pub WorkedCases : Type 0
WorkedCases = SyncOnce × DoneSettled × NumberBack × DeletedEarly × DeleteUnknown × UnknownSender × TooBig × ReadWaits × ErrorTold
