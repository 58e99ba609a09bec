-- Worked cases over a wider table: objects, new objects and texts among the arguments of requests and events.
use Rattle.std.specs.Prelude.{◌≡◌, ℕ, ◌-◌, ◌^◌, true, false, List, [], ◌∷◌, ◌++◌, take, drop, replicate, Some, None, Ok, Err, Option, codes}
use Rattle.object_map.specs.Map.{lookup}
use Rattle.protocol.specs.Core.{core}
use Rattle.protocol.specs.Descriptions.{Description}
use Rattle.protocol.specs.Lookups.{null_id, display_id}
use Rattle.protocol.specs.declared.argument.AllowNull.TheVariants.{Yes, No}
use Rattle.protocol.specs.declared.argument.Argument.TheVariants.{Uint, Str, Object as ObjectArg, NewId}
use Rattle.protocol.specs.declared.argument.ArgumentType.TheVariants.{Str as StrKind, Object as ObjectKind, NewId as NewIdKind}
use Rattle.protocol.specs.declared.error.ErrorInterface.TheVariants.{Empty, Unknown}
use Rattle.protocol.specs.declared.error.ProtocolReason.{ProtocolReason}
use Rattle.protocol.specs.declared.error.ProtocolReason.TheVariants.{ErrorEvent, Malformed, UnknownObject, WrongInterface, UnusableNumber, NoSlot}
use Rattle.protocol.specs.declared.error.WaylandError.{WaylandError}
use Rattle.protocol.specs.declared.error.WaylandError.TheVariants.{Io, Protocol}
use Rattle.protocol.specs.declared.id.ObjectId.{ObjectId}
use Rattle.protocol.specs.declared.refusal.Refusal.TheVariants.{InvalidId, UnknownOpcode, BadSignature, BadChild, BadData, NewIdNotNull, BadObject, DisplayProtected, CannotPrepare, BadRoom}
use Rattle.transport.specs.Ends.{fault}
use Rattle.transport.specs.Layout.{raw}
use Rattle.transport.specs.Lists.{fresh, end_of}
use Rattle.transport.specs.Wire.{Message, message, uint, str, object, new_id}
use Rattle.client.specs.Calls.{Call, prepare, cancel, read, resume, next, settle, send_request, destroy_object, get_data, set_data, info, flush, defined}
use Rattle.client.specs.Cases.{after_by, answers_by, brought, connected, start, intent, open_round, waiting_read, handed_event, rooms, sync, callback, done_to, delete_id, error_on, taking, synced, narrow}
use Rattle.client.specs.Requests.{Table}
use Rattle.client.specs.State.{Moment, with_phase, with_conn, Rooms, done, prepared, waits, round, faulted, quiet, handed_out, over, settled, sent, content}
use Rattle.client.specs.declared.connection.Event.{Event}
use Rattle.client.specs.declared.connection.Phase.TheVariants.{Reading, Handed}
use Rattle.client.specs.declared.connection.WaitingRead.{WaitingRead}
use Rattle.client.specs.declared.object.ChildSpec.{ChildSpec}
use Rattle.client.specs.declared.object.Object.{Object}

-- interface 4, a panel. Requests: add a part, with a panel or null and a part; close; make anything. Events: a part has
-- grown; a panel or null, a part or null and a name; closed
abbrev pub panel : Description
panel = record {
  name = codes "panel";
  requests =
      record { signature = NewIdKind ∷ ObjectKind Yes ∷ ObjectKind No ∷ []; destructor = false; child = Some 5; args = 4 ∷ 5 ∷ [] }
      ∷ record { signature = []; destructor = true; child = None; args = [] }
      ∷ record { signature = NewIdKind ∷ []; destructor = false; child = None; args = [] } ∷ [];
  events =
      record { signature = NewIdKind ∷ []; destructor = false; child = Some 5; args = [] }
      ∷ record { signature = ObjectKind Yes ∷ ObjectKind Yes ∷ StrKind Yes ∷ []; destructor = false; child = None; args = 4 ∷ 5 ∷ [] }
      ∷ record { signature = []; destructor = true; child = None; args = [] } ∷ [];
}

-- interface 5, a part of a panel
abbrev pub part : Description
part = record { name = codes "part"; requests = []; events = [] }

abbrev pub panels : Table
panels = core ++ panel ∷ part ∷ []

-- handles: the registry's, the panel's, a part's
abbrev pub registry_id : ObjectId
registry_id = record { number = 2; serial = 1; interface = 1 }

abbrev pub panel_id : ObjectId
panel_id = record { number = 3; serial = 2; interface = 4 }

abbrev pub part_id : ℕ → ℕ → ObjectId
part_id n k = record { number = n; serial = k; interface = 5 }

-- a registry with the data number 5, and by it a panel of version 3 with the data number 6
abbrev pub get_registry : Call
get_registry = send_request (record { sender = display_id; opcode = 1; args = NewId null_id ∷ []; text = []; content = 5; child = None })

abbrev pub bind : Call
bind = send_request (record { sender = registry_id; opcode = 0; args = Uint 1 ∷ Str (Some (record { start = 0; len = 5 })) ∷ Uint 3 ∷ NewId null_id ∷ []; text = codes "panel"; content = 6; child = Some (record { interface = 4; version = 3 }) })

abbrev pub furnished : Moment
furnished = after_by panels (connected (end_of (fresh 4 20))) (get_registry ∷ bind ∷ [])

-- both are sent as asked, with the number that each got
abbrev pub SentAsAsked : Type 0
SentAsAsked = furnished.end.sent ≡ message 1 1 (new_id 2 ∷ []) ∷ message 2 0 (uint 1 ∷ str (Some (codes "panel")) ∷ uint 3 ∷ new_id 3 ∷ []) ∷ []

-- the first request of the panel: the placeholder, a panel, a part, the data number, and what the child is to be
abbrev pub add : ObjectId → ObjectId → ObjectId → ℕ → Option ChildSpec → Call
add x a b d c = send_request (record { sender = panel_id; opcode = 0; args = NewId x ∷ ObjectArg a ∷ ObjectArg b ∷ []; text = []; content = d; child = c })

-- a request of the panel without arguments, and one for something of a given kind
abbrev pub plainly : ℕ → Call
plainly o = send_request (record { sender = panel_id; opcode = o; args = []; text = []; content = 0; child = None })

abbrev pub make : Option ChildSpec → Call
make c = send_request (record { sender = panel_id; opcode = 2; args = NewId null_id ∷ []; text = []; content = 7; child = c })

-- null consumes its arg interface and the child counts as placed: the part that is added is named in its own request. It
-- has its sender's version, and is sent under the number that it gets
abbrev pub AddsPart : Type 0
AddsPart =
    (answers_by panels furnished (add null_id null_id (part_id 4 3) 7 None ∷ []) ≡ Ok (sent (part_id 4 3) None) ∷ [])
    × (drop 2 (after_by panels furnished (add null_id null_id (part_id 4 3) 7 None ∷ [])).end.sent ≡ message 3 0 (new_id 4 ∷ object 0 ∷ object 4 ∷ []) ∷ [])
    × (lookup 4 (after_by panels furnished (add null_id null_id (part_id 4 3) 7 None ∷ [])).slots ≡ Some (record { interface = 5; version = 3; «data» = 7; serial = 3; client_destroyed = false; server_destroyed = false }))

-- objects that are refused: null where it may not be, other interfaces than wanted, another serial. None of these draws a
-- serial: the part that is added in the end has the next one
abbrev pub ObjectsRefused : Type 0
ObjectsRefused =
    answers_by panels furnished (add null_id null_id null_id 7 None ∷ add null_id null_id registry_id 7 None ∷ add null_id (part_id 4 3) (part_id 4 3) 7 None ∷ add null_id null_id (part_id 4 9) 7 None ∷ add null_id null_id (part_id 4 3) 7 None ∷ [])
    ≡ Err BadObject ∷ Err BadObject ∷ Err BadObject ∷ Err InvalidId ∷ Ok (sent (part_id 4 3) None) ∷ []

-- children that are refused: of another version, another interface or one outside the table; without a data number; in
-- place of something; of no kind where the description leaves it open
abbrev pub ChildrenRefused : Type 0
ChildrenRefused =
    answers_by panels furnished
    (add null_id null_id (part_id 4 3) 7 (Some (record { interface = 5; version = 2 })) ∷ add null_id null_id (part_id 4 3) 7 (Some (record { interface = 4; version = 3 })) ∷ add null_id null_id (part_id 4 3) 7 (Some (record { interface = 6; version = 3 }))
    ∷ add null_id null_id (part_id 4 3) 0 None ∷ add registry_id null_id (part_id 4 3) 7 None ∷ make None ∷ make (Some (record { interface = 6; version = 1 })) ∷ make (Some (record { interface = 5; version = 1 })) ∷ [])
    ≡ Err BadChild ∷ Err BadChild ∷ Err BadChild ∷ Err BadData ∷ Err NewIdNotNull ∷ Err BadChild ∷ Err BadChild ∷ Ok (sent (part_id 4 3) None) ∷ []

-- the sender is looked at, then the opcode, then whether the sender is destroyed, then the arguments
abbrev pub RefusedInOrder : Type 0
RefusedInOrder =
    answers_by panels furnished (plainly 9 ∷ plainly 0 ∷ plainly 1 ∷ plainly 9 ∷ plainly 0 ∷ get_data panel_id ∷ [])
    ≡ Err UnknownOpcode ∷ Err BadSignature ∷ Ok (sent null_id (Some (record { id = panel_id; «data» = 6 }))) ∷ Err UnknownOpcode ∷ Err InvalidId ∷ Ok (content 6) ∷ []

-- events of the panel
abbrev pub grown : ℕ → Message
grown n = message 3 0 (new_id n ∷ [])

abbrev pub named : ℕ → ℕ → Option (List ℕ) → Message
named a b s = message 3 1 (object a ∷ object b ∷ str s ∷ [])

abbrev pub closed : Message
closed = message 3 2 []

-- what an open round begins with, once a frame has come to wait
abbrev pub heard : Moment → Message → Moment
heard m f = after_by panels (brought m f) (prepare ∷ read intent ∷ [])

-- and the rooms that next leaves there
abbrev pub rooms_after : Moment → Rooms
rooms_after m = (defined panels m (next open_round rooms)).rooms

-- a protocol error that the client itself finds
abbrev pub found : ProtocolReason → WaylandError
found r = Protocol (record { code = 0; object_id = 0; object_interface = Empty; reason = r })

-- the server's first number, and a part that it has made there
abbrev pub first_number : ℕ
first_number = 0xFF00_0000

abbrev pub part_born : ℕ → ℕ → Object
part_born d k = record { interface = 5; version = 3; «data» = d; serial = k; client_destroyed = false; server_destroyed = false }

-- a part that the server makes: its handle is among the arguments, it has its receiver's version and no data number until
-- it is settled, which takes one
abbrev pub PartGrows : Type 0
PartGrows =
    (answers_by panels (heard furnished (grown first_number)) (next open_round rooms ∷ settle (handed_event 3 2) 0 ∷ settle (handed_event 3 2) 8 ∷ get_data (part_id first_number 3) ∷ [])
    ≡ Ok (handed_out (handed_event 3 2) panel_id 0) ∷ Err BadData ∷ Ok (settled open_round None) ∷ Ok (content 8) ∷ [])
    × (take 1 (rooms_after (heard furnished (grown first_number))).args ≡ NewId (part_id first_number 3) ∷ [])
    × (lookup first_number (after_by panels (heard furnished (grown first_number)) (next open_round rooms ∷ [])).slots ≡ Some (part_born 0 3))

-- after two parts the two places of the server's room are taken
abbrev pub crowded : Moment
crowded =
    brought (after_by panels (brought (after_by panels (heard furnished (grown first_number)) (next open_round rooms ∷ settle (handed_event 3 2) 8 ∷ [])) (grown 0xFF00_0001)) (next open_round rooms ∷ settle (handed_event 3 2) 9 ∷ [])) (grown 0xFF00_0002)

-- numbers that the server may not use: of the client's range, behind one that was never used, one that is in use; and one
-- for which only a slot lacks. Each draws a serial
abbrev pub NumbersRefused : Type 0
NumbersRefused =
    (answers_by panels (heard furnished (grown 5)) (next open_round rooms ∷ []) ≡ Ok (over (Err (found (UnusableNumber 5 5)))) ∷ [])
    × ((after_by panels (heard furnished (grown 5)) (next open_round rooms ∷ [])).conn.last_serial ≡ 3)
    × (answers_by panels (heard furnished (grown 0xFF00_0001)) (next open_round rooms ∷ []) ≡ Ok (over (Err (found (UnusableNumber 5 0xFF00_0001)))) ∷ [])
    × (answers_by panels (brought (after_by panels (heard furnished (grown first_number)) (next open_round rooms ∷ settle (handed_event 3 2) 8 ∷ [])) (grown first_number)) (next open_round rooms ∷ []) ≡ Ok (over (Err (found (UnusableNumber 5 first_number)))) ∷ [])
    × (answers_by panels crowded (next open_round rooms ∷ []) ≡ Ok (over (Err (found (NoSlot 5 0xFF00_0002)))) ∷ [])

-- arguments as they are passed: handles in place of numbers, null for 0, the text in its room. An event without a child
-- takes no data number
abbrev pub ArgumentsPassed : Type 0
ArgumentsPassed =
    (answers_by panels (heard furnished (named 3 0 (Some (codes "hi")))) (next open_round rooms ∷ settle (handed_event 3 2) 5 ∷ settle (handed_event 3 2) 0 ∷ next open_round rooms ∷ [])
    ≡ Ok (handed_out (handed_event 3 2) panel_id 1) ∷ Err BadData ∷ Ok (settled open_round None) ∷ Ok (over (Ok 1)) ∷ [])
    × (take 3 (rooms_after (heard furnished (named 3 0 (Some (codes "hi"))))).args ≡ ObjectArg panel_id ∷ ObjectArg null_id ∷ Str (Some (record { start = 0; len = 2 })) ∷ [])
    × (take 3 (rooms_after (heard furnished (named 3 0 (Some (codes "hi"))))).text ≡ codes "hi" ++ 0 ∷ [])

-- arguments that fail: an object that is not there, and one of another interface where null went before it. The failing
-- one and those behind it stay as they came
abbrev pub ArgumentsFail : Type 0
ArgumentsFail =
    (answers_by panels (heard furnished (named 77 2 None)) (next open_round rooms ∷ []) ≡ Ok (over (Err (found (UnknownObject 77)))) ∷ [])
    × (take 3 (rooms_after (heard furnished (named 77 2 None))).args ≡ ObjectArg (raw 77) ∷ ObjectArg (raw 2) ∷ Str None ∷ [])
    × (answers_by panels (heard furnished (named 0 2 None)) (next open_round rooms ∷ []) ≡ Ok (over (Err (found (WrongInterface 2 5 1)))) ∷ [])
    × (take 3 (rooms_after (heard furnished (named 0 2 None))).args ≡ ObjectArg null_id ∷ ObjectArg (raw 2) ∷ Str None ∷ [])

-- a destructor event: the notice tells the data number of when it was handed out; the slot has both marks
abbrev pub NoticeAsHanded : Type 0
NoticeAsHanded =
    (answers_by panels (heard furnished closed) (next open_round rooms ∷ set_data panel_id 9 ∷ settle (handed_event 3 2) 0 ∷ get_data panel_id ∷ info panel_id ∷ [])
    ≡ Ok (handed_out (handed_event 3 2) panel_id 2) ∷ Ok done ∷ Ok (settled open_round (Some (record { id = panel_id; «data» = 6 }))) ∷ Ok (content 9) ∷ Err InvalidId ∷ [])
    × (lookup 3 (after_by panels (heard furnished closed) (next open_round rooms ∷ settle (handed_event 3 2) 0 ∷ [])).slots ≡ Some (record { interface = 4; version = 3; «data» = 6; serial = 2; client_destroyed = true; server_destroyed = true }))

-- the panel destroyed by the client: its events keep quiet, but what they create is there, destroyed from birth; such a
-- number may be used again
abbrev pub quietly : Moment
quietly = after_by panels (heard (after_by panels furnished (destroy_object panel_id ∷ [])) (grown first_number)) (next open_round rooms ∷ [])

abbrev pub BornDestroyed : Type 0
BornDestroyed =
    (answers_by panels (heard (after_by panels furnished (destroy_object panel_id ∷ [])) (grown first_number)) (next open_round rooms ∷ []) ≡ Ok (quiet open_round) ∷ [])
    × (lookup first_number quietly.slots ≡ Some (record { interface = 5; version = 3; «data» = 0; serial = 3; client_destroyed = true; server_destroyed = false }))
    × (answers_by panels (brought quietly (grown first_number)) (next open_round rooms ∷ get_data (part_id first_number 3) ∷ get_data (part_id first_number 4) ∷ []) ≡ Ok (quiet open_round) ∷ Err InvalidId ∷ Ok (content 0) ∷ [])

-- reads: none is prepared in an open round; a waiting one knows the read serial of when it began to wait
abbrev pub later_read : WaitingRead
later_read = record { connection = 9; read_serial = 1 }

abbrev pub ReadsInTurn : Type 0
ReadsInTurn =
    (answers_by core start (prepare ∷ read intent ∷ prepare ∷ []) ≡ Ok (prepared intent) ∷ Ok (round open_round) ∷ Err CannotPrepare ∷ [])
    × (answers_by core start (prepare ∷ cancel intent ∷ prepare ∷ prepare ∷ read intent ∷ resume later_read ∷ resume waiting_read ∷ [])
    ≡ Ok (prepared intent) ∷ Ok done ∷ Ok (prepared intent) ∷ Ok (prepared intent) ∷ Ok (waits later_read) ∷ Ok (waits later_read) ∷ Ok done ∷ [])

-- rooms that are too small by one
abbrev pub small : ℕ → ℕ → ℕ → Rooms
small a t f = record { args = replicate a (Uint 0); text = replicate t 0; fault_text = replicate f 0 }

abbrev pub RoomsTooSmall : Type 0
RoomsTooSmall =
    answers_by core start (prepare ∷ read intent ∷ next open_round (small 19 1024 1024) ∷ next open_round (small 20 1023 1024) ∷ next open_round (small 20 1024 1023) ∷ next open_round (small 20 1024 1024) ∷ [])
    ≡ Ok (prepared intent) ∷ Ok (round open_round) ∷ Err BadRoom ∷ Err BadRoom ∷ Err BadRoom ∷ Ok (over (Err (Io (fault 0 11)))) ∷ []

-- counters: settled events stop at 2^64 − 1, read serials and serials begin again at 0
abbrev pub some_event : Event
some_event = record { receiver = callback 2 1; «data» = 5; destroys = false; child = None }

abbrev pub at_most : Moment
at_most = with_conn (with_phase (Handed (2 ^ 64 - 1) some_event) start.conn) start

abbrev pub worn : Moment
worn = with_conn (record { number = 9; last_serial = 2 ^ 32 - 1; fault = None; reads = 0; read_serial = 2 ^ 64 - 1; phase = start.conn.phase }) start

abbrev pub CountersEnd : Type 0
CountersEnd =
    ((after_by core at_most (settle (handed_event 2 1) 0 ∷ [])).conn.phase ≡ Reading (2 ^ 64 - 1))
    × ((after_by core worn (prepare ∷ cancel intent ∷ [])).conn.read_serial ≡ 0)
    × (answers_by core worn (sync 5 ∷ []) ≡ Ok (sent (callback 2 0) None) ∷ [])

-- faults: what the client finds has code and object 0 and no interface; an error about nobody says so; a flush that would
-- block stores nothing; the display is protected; the frame that was taken is in the rooms
abbrev pub FaultsTold : Type 0
FaultsTold =
    (answers_by core (brought start (done_to 7)) (prepare ∷ read intent ∷ next open_round rooms ∷ []) ≡ Ok (prepared intent) ∷ Ok (round open_round) ∷ Ok (over (Err (found Malformed))) ∷ [])
    × (answers_by core (brought start (error_on 77 4 (codes "no"))) taking ≡ Ok (prepared intent) ∷ Ok (round open_round) ∷ Ok (over (Err (Protocol (record { code = 4; object_id = 77; object_interface = Unknown; reason = ErrorEvent 2 })))) ∷ [])
    × (answers_by core narrow (sync 5 ∷ flush ∷ []) ≡ Ok (sent (callback 2 1) None) ∷ Ok (faulted (Io (fault 0 11))) ∷ [])
    × ((after_by core narrow (sync 5 ∷ flush ∷ [])).conn.fault ≡ None)
    × (answers_by core start (destroy_object display_id ∷ set_data display_id 5 ∷ []) ≡ Err DisplayProtected ∷ Err DisplayProtected ∷ [])
    × (take 1 (defined core (after_by core (brought synced (delete_id 2)) (prepare ∷ read intent ∷ [])) (next open_round rooms)).rooms.args ≡ Uint 2 ∷ [])

abbrev pub WiderCases : Type 0
WiderCases =
    SentAsAsked × AddsPart × ObjectsRefused × ChildrenRefused × RefusedInOrder × PartGrows × NumbersRefused × ArgumentsPassed × ArgumentsFail
    × NoticeAsHanded × BornDestroyed × ReadsInTurn × RoomsTooSmall × CountersEnd × FaultsTold
