-- What each call comes to by the history: when it is accepted, what it answers, and what is reckoned then. Nothing here
-- looks into a slot: objects are known by the tenancies that last.
use Rattle.std.specs.Prelude.{ℕ, ◌+◌, ◌-◌, Bool, true, false, cond, not, ◌&&◌, ◌||◌, List, [], ◌∷◌, ◌++◌, length, is_some, is_ok, Some, None, Ok, Err, Option, Result, ◌==◌, nat_le, nat_lt}
use Rattle.std.specs.List.{slice_get}
use Rattle.object_map.specs.Runs.{member}
use Rattle.object_map.specs.Runs as used
use Rattle.protocol.specs.Arguments.{agrees}
use Rattle.protocol.specs.Descriptions.{Message}
use Rattle.protocol.specs.Lookups.{event_at, request_at, null_id, display_id}
use Rattle.protocol.specs.declared.argument.Argument.{Argument}
use Rattle.protocol.specs.declared.argument.Argument.TheVariants.{Int, Uint, Fixed, Str, Object as ObjectArg, NewId, Array, Fd}
use Rattle.protocol.specs.declared.argument.ArgumentType.{ArgumentType}
use Rattle.protocol.specs.declared.error.ProtocolReason.{ProtocolReason}
use Rattle.protocol.specs.declared.error.ProtocolReason.TheVariants.{ErrorEvent, Malformed, UnknownObject, WrongInterface, UnusableNumber, NoSlot}
use Rattle.protocol.specs.declared.error.WaylandError.{WaylandError}
use Rattle.protocol.specs.declared.error.WaylandError.TheVariants.{Io, Protocol}
use Rattle.protocol.specs.declared.id.ObjectId.{ObjectId}
use Rattle.transport.specs.Drafts.{accepted}
use Rattle.transport.specs.Ends.{End, Waiting, first_of, take_of, fault, leaving, sending, put_fault}
use Rattle.transport.specs.Layout.{laid}
use Rattle.transport.specs.Wire.{Arg, texts}
use Rattle.client.specs.Calls.{Call, prepare, cancel, read, resume, next, settle, send_request, destroy_object, get_data, set_data, info, flush, fillable, is_idle, intent_of, round_of, waiting_of, one_less, fault_or_done, ended, breach, number_in, interface_found, taken_into, told_into, passed_into, event_of, counted, data_stands, child_handle}
use Rattle.client.specs.Events.{Walked, walk, newborn, or_anonymous}
use Rattle.client.specs.Ledger.{Ledger, tenant_in, holder, numbers, amend, conclude, free_from, Account, with_ledger, with_conn, with_given, with_hand, for_tenancy, give, draw, bear}
use Rattle.client.specs.Requests.{Table, Request, Child, Sending, object_in, nullable, creates, placeholders, child_for, child_of, counting, suits, first, rest, frame_for}
use Rattle.client.specs.Runs.{History, creation, add, opened, display_object}
use Rattle.client.specs.State.{handle_of, notice_of, client_marked, server_marked, both_marked, with_data, Look, resolved, Conn, with_fault, with_reads, with_phase, woken, next_serial, Rooms, none, Reply, done, prepared, waits, round, faulted, quiet, handed_out, over, settled, sent, destroyed, content, informed}
use Rattle.client.specs.declared.connection.HandedEvent.{HandedEvent}
use Rattle.client.specs.declared.connection.Phase.{Phase}
use Rattle.client.specs.declared.connection.Phase.TheVariants.{Idle, Reading, Handed}
use Rattle.client.specs.declared.object.Object.{Object}

-- what follows from what is there; nothing from none
abbrev pub given_some : {A B : Type 0} → Option A → (A → Option B) → Option B
given_some None f = None
given_some (Some x) f = f x

-- and from what holds
abbrev pub given_that : {A : Type 0} → Bool → Option A → Option A
given_that b x = cond b x None

-- a test of what is there
abbrev pub has : {A : Type 0} → Option A → (A → Bool) → Bool
has None p = false
has (Some x) p = p x

-- the objects that the history knows
abbrev pub known : Account → Look
known a = tenant_in a.ledger

-- a request's object arguments: null where it may be, else a handle whose tenancy lasts, not client_destroyed, of the
-- interface that is wanted
abbrev pub uses : Table → Look → List ℕ → ArgumentType → ObjectId → Bool
uses t look wants k h = cond (h.number == 0) (nullable k) (has (resolved look h) (λ o. not o.client_destroyed && suits t (first wants) o.interface))

abbrev pub uses_if : Table → Look → List ℕ → ArgumentType → Option ObjectId → (List ℕ → Bool) → Bool
uses_if t look wants k None more = more wants
uses_if t look wants k (Some h) more = uses t look wants k h && more (rest wants)

abbrev pub uses_all : Table → Look → List ℕ → List ArgumentType → List (Argument ObjectId) → Bool
uses_all t look wants ks [] = true
uses_all t look wants [] (a ∷ args) = true
uses_all t look wants (k ∷ ks) (a ∷ args) = uses_if t look wants k (object_in a) (λ more. uses_all t look more ks args)

-- the child that a request asks for: the smallest free number, the interface and version that description and spec
-- give, the data number, the next serial
abbrev pub child_asked : Table → Account → Request → Object → Message → Option (Option Child)
child_asked t a r o d =
    cond (creates d)
    (given_some (child_for t d.child o.version r.child)
    (λ c. given_some (free_from a.client_places 1 (known a))
    (λ n. given_that (not (r.content == 0) && placeholders r.args) (Some (Some (n, child_of c r.content (next_serial a.conn.last_serial)))))))
    (Some None)

-- a request that nothing stands against: its sender lasts, not client_destroyed, and has the opcode, the arguments
-- have the kinds and may be sent, a child can be made, and the objects can be used
abbrev pub asked : Table → Account → Request → Option Sending
asked t a r =
    given_some (resolved (known a) r.sender)
    (λ o. given_some (request_at t o.interface r.opcode)
    (λ d. given_that (not o.client_destroyed && (agrees d.signature r.args && accepted r.args r.text))
    (given_some (child_asked t a r o d)
    (λ c. given_that (uses_all t (counting c (known a)) d.args d.signature r.args) (Some (record { by = o; desc = d; child = c }))))))

-- a round is open, and no event is in hand
abbrev pub in_round : Phase → Bool
in_round Idle = false
in_round (Reading n) = true
in_round (Handed n e) = false

-- this event is in hand, and the data number is as its child wants
abbrev pub in_hand : HandedEvent → ℕ → Phase → Bool
in_hand h d Idle = false
in_hand h d (Reading n) = false
in_hand h d (Handed n e) = (h.number == e.receiver.number && h.serial == e.receiver.serial) && data_stands e.child d

-- when each call is accepted
abbrev pub may : Table → Account → Call → Bool
may t a prepare = is_idle a.conn.phase && nat_lt a.conn.reads 65535
may t a (cancel i) = i.connection == a.conn.number && nat_lt 0 a.conn.reads
may t a (read i) = i.connection == a.conn.number && nat_lt 0 a.conn.reads
may t a (resume w) = w.connection == a.conn.number
may t a (next r rooms) = fillable rooms && (r.connection == a.conn.number && in_round a.conn.phase)
may t a (settle h d) = h.connection == a.conn.number && in_hand h d a.conn.phase
may t a (send_request r) = is_some (asked t a r)
may t a (destroy_object h) = has (resolved (known a) h) (λ o. not o.client_destroyed && not (h.number == 1))
may t a (get_data h) = is_some (resolved (known a) h)
may t a (set_data h d) = is_some (resolved (known a) h) && (not (h.number == 1) && not (d == 0))
may t a (info h) = has (resolved (known a) h) (λ o. not o.client_destroyed)
may t a flush = true

-- what an accepted call comes to: its answer, its rooms, the transport after it, and the account
pub record Course : Type 0 where
  pub reply : Reply
  pub rooms : Rooms
  pub end : End
  pub account : Account

-- a call without rooms that leaves the transport alone
abbrev pub told : Reply → End → Account → Course
told r e a = record { reply = r; rooms = none; end = e; account = a }

-- the last read: a round, unless a fault is stored
abbrev pub read_alone : Account → End → Option WaylandError → Course
read_alone a e None = told (round (round_of a.conn)) e (with_conn (with_phase (Reading 0) (one_less a.conn)) a)
read_alone a e (Some f) = told (faulted f) e (with_conn (woken (one_less a.conn)) a)

-- the round is over
abbrev pub over_as : Result ℕ WaylandError → Conn → Rooms → End → Account → Course
over_as r c rooms e a = record { reply = over r; rooms = rooms; end = e; account = with_conn (ended c) a }

abbrev pub over_by : WaylandError → Rooms → End → Account → Course
over_by f rooms e a = over_as (Err f) (with_fault f a.conn) rooms e a

-- no frame waits, and n events were settled
abbrev pub rest_with : Account → End → Rooms → ℕ → Course
rest_with a e rooms n =
    cond (e.read_stop == 0)
    (over_as (cond (n == 0) (Err (Io (fault 0 11))) (Ok n)) a.conn rooms e a)
    (over_by (Io (fault 0 e.read_stop)) rooms e a)

-- a frame that can be read: its sender lasts and has the opcode, and its arguments fit
pub record Reading' : Type 0 where
  pub sender : ℕ
  pub opcode : ℕ
  pub receiver : Object
  pub desc : Message
  pub args : List Arg
  pub behind : Waiting

abbrev pub readable : Table → Look → Waiting → Option Reading'
readable t look w =
    given_some (first_of w)
    (λ f. given_some (look f.0)
    (λ o. given_some (event_at t o.interface f.1)
    (λ d. given_some (take_of d.signature w)
    (λ k. Some (record { sender = f.0; opcode = f.1; receiver = o; desc = d; args = k.0; behind = k.1 })))))

-- how far a frame's arguments were heard: the account, the object that was born, the arg interfaces that are left, and
-- the handles shown, each for the tenancy then at its number
pub record Hearing : Type 0 where
  pub account : Account
  pub child : Option ℕ
  pub wants : List ℕ
  pub shown : List (ObjectId × Option ℕ)

abbrev pub showing : ObjectId → Hearing → Hearing
showing h q = record { account = q.account; child = q.child; wants = rest q.wants; shown = for_tenancy q.account.ledger h ∷ q.shown }

-- an argument as it is shown, or why it fails
abbrev pub Heard : Type 0
Heard = Result (Argument ObjectId) ProtocolReason × Hearing

-- an object: null, or one whose tenancy lasts and which fits what is wanted
abbrev pub hear_found : Table → Hearing → ℕ → Option Object → Heard
hear_found t q n None = (Err (UnknownObject n), q)
hear_found t q n (Some o) =
    cond (suits t (first q.wants) o.interface)
    (Ok (ObjectArg (handle_of n o)), showing (handle_of n o) q)
    (Err (WrongInterface n (or_anonymous (first q.wants)) o.interface), q)

abbrev pub hear_object : Table → Hearing → ℕ → Heard
hear_object t q n = cond (n == 0) (Ok (ObjectArg null_id), showing null_id q) (hear_found t q n (known q.account n))

-- a number that a new object of the server's may have: of its range, the first or one behind a used one, and nobody is
-- there but one that is client_destroyed
abbrev pub may_be_born : ℕ → Ledger → Bool
may_be_born n l = nat_le 0xFF00_0000 n && ((used.first n || member (n - 1) (numbers l)) && not (has (tenant_in l n) (λ o. not o.client_destroyed)))

-- a serial was drawn for nothing
abbrev pub failing : Hearing → Hearing
failing q = record { account = draw q.account; child = q.child; wants = q.wants; shown = q.shown }

-- an object was born
abbrev pub hear_born : ℕ → Object → Hearing → Hearing
hear_born n o q = record { account = bear n o q.account; child = Some n; wants = q.wants; shown = for_tenancy (bear n o q.account).ledger (handle_of n o) ∷ q.shown }

-- a new object: each draws a serial, also one that fails
abbrev pub hear_new : Object → ℕ → Hearing → ℕ → Heard
hear_new by i q n =
    cond (may_be_born n q.account.ledger)
    (cond (nat_lt n (0xFF00_0000 + q.account.server_places))
    (Ok (NewId (handle_of n (newborn by i (next_serial q.account.conn.last_serial)))), hear_born n (newborn by i (next_serial q.account.conn.last_serial)) q)
    (Err (NoSlot i n), failing q))
    (Err (UnusableNumber i n), failing q)

abbrev pub hear_arg : Table → Object → Message → Hearing → Argument ObjectId → Heard
hear_arg t by d q (Int x) = (Ok (Int x), q)
hear_arg t by d q (Uint x) = (Ok (Uint x), q)
hear_arg t by d q (Fixed x) = (Ok (Fixed x), q)
hear_arg t by d q (Str x) = (Ok (Str x), q)
hear_arg t by d q (ObjectArg h) = hear_object t q h.number
hear_arg t by d q (NewId h) = hear_new by (or_anonymous d.child) q h.number
hear_arg t by d q (Array x) = (Ok (Array x), q)
hear_arg t by d q (Fd x) = (Ok (Fd x), q)

-- all arguments of a frame, in order
abbrev pub hear_all : Table → Account → Reading' → Walked Hearing (Argument ObjectId) ProtocolReason
hear_all t a f = walk (hear_arg t f.receiver f.desc) (record { account = a; child = None; wants = f.desc.args; shown = [] }) [] (laid 0 f.args)

-- an event of the display: an error is over; delete_id acknowledges a number
abbrev pub error_heard : Account → List Arg → WaylandError
error_heard a xs = Protocol (record { code = number_in (slice_get xs 1); object_id = number_in (slice_get xs 0); object_interface = interface_found (known a (number_in (slice_get xs 0))); reason = ErrorEvent (length (texts xs)) })

abbrev pub hear_display : Account → End → Rooms → Reading' → Course
hear_display a e rooms f =
    cond (f.opcode == 0)
    (over_by (error_heard a f.args) (told_into f.args rooms) e a)
    (record { reply = quiet (round_of a.conn); rooms = rooms; end = e; account = with_ledger (amend server_marked (number_in (slice_get f.args 0)) (conclude (number_in (slice_get f.args 0)) a.ledger)) a })

-- an event is in the user's hand, with the handles that it shows
abbrev pub handed : ℕ → Reading' → Hearing → Account → Account
handed n f q a =
    with_hand (holder f.sender a.ledger)
    (with_conn (with_phase (Handed n (event_of f.sender f.receiver f.desc q.child)) q.account.conn)
    (with_given (q.shown ++ (for_tenancy a.ledger (handle_of f.sender f.receiver) ∷ a.given)) q.account))

-- an event of another object: an argument that fails ends the round; a client_destroyed receiver keeps quiet
abbrev pub heard_by : ℕ → Account → End → Rooms → Reading' → Walked Hearing (Argument ObjectId) ProtocolReason → Option ProtocolReason → Course
heard_by n a e rooms f w (Some r) = over_by (breach r) (passed_into w.room rooms) e w.state.account
heard_by n a e rooms f w None =
    cond f.receiver.client_destroyed
    (record { reply = quiet (round_of a.conn); rooms = passed_into w.room rooms; end = e; account = w.state.account })
    (record {
      reply = handed_out (record { connection = a.conn.number; number = f.sender; serial = f.receiver.serial }) (handle_of f.sender f.receiver) f.opcode;
      rooms = passed_into w.room rooms;
      end = e;
      account = handed n f w.state a;
    })

-- the first frame: none waits, or it cannot be read and stays, or it is taken
abbrev pub frame_course : Table → ℕ → Account → End → Rooms → Option Reading' → Course
frame_course t n a e rooms None = over_by (breach Malformed) rooms e a
frame_course t n a e rooms (Some f) =
    cond (f.sender == 1)
    (hear_display a (leaving f.behind e) (taken_into f.args rooms) f)
    (heard_by n a (leaving f.behind e) (taken_into f.args rooms) f (hear_all t a f) (hear_all t a f).stop)

abbrev pub next_course : Table → Account → End → Rooms → ℕ → Option (ℕ × ℕ) → Course
next_course t a e rooms n None = rest_with a e rooms n
next_course t a e rooms n (Some p) = frame_course t n a e rooms (readable t (known a) e.waiting)

-- how many events of the open round are settled
abbrev pub settled_in : Phase → ℕ
settled_in Idle = 0
settled_in (Reading n) = n
settled_in (Handed n e) = n

-- an event is settled: its child has its data number, and a destructor's receiver both marks
abbrev pub child_data : Option ℕ → ℕ → Ledger → Ledger
child_data None d l = l
child_data (Some n) d l = amend (with_data d) n l

abbrev pub settle_course : Account → End → ℕ → Phase → Course
settle_course a e d Idle = told done e a
settle_course a e d (Reading n) = told done e a
settle_course a e d (Handed n v) =
    told (settled (round_of a.conn) (cond v.destroys (Some (record { id = v.receiver; «data» = v.«data» })) None)) e
    (with_hand None (with_conn (with_phase (Reading (counted n)) a.conn)
    (with_ledger (child_data v.child d (cond v.destroys (amend both_marked v.receiver.number a.ledger) a.ledger))
    (with_given (cond v.destroys ((v.receiver, a.hand) ∷ a.given) a.given) a))))

-- a request's child is born, and its handle given; without one the answer is null
abbrev pub child_course : Option Child → Account → Account
child_course None a = a
child_course (Some c) a = give (handle_of c.0 c.1) (bear c.0 c.1 a)

-- a destructor marks its sender, and tells of it
abbrev pub destroy_if : Bool → ℕ → Object → Account → Account
destroy_if b n o a = cond b (give (handle_of n o) (with_ledger (amend client_marked n a.ledger) a)) a

-- the frame is sent where there is room; else the fault of put is stored
abbrev pub put_course : Account → End → Account
put_course a e = cond (e.room == 0) (with_conn (with_fault (Io (put_fault e)) a.conn) a) a

abbrev pub send_course : Account → End → Request → Option Sending → Course
send_course a e r None = told done e a
send_course a e r (Some x) =
    told (sent (child_handle x.child) (cond x.desc.destructor (Some (notice_of r.sender.number x.by)) None))
    (cond (e.room == 0) e (sending (frame_for r (child_handle x.child).number) e))
    (destroy_if x.desc.destructor r.sender.number x.by (child_course x.child (put_course a e)))

-- look-ups
abbrev pub destroy_course : Account → End → ObjectId → Option Object → Course
destroy_course a e h None = told done e a
destroy_course a e h (Some o) = told (destroyed (notice_of h.number o)) e (destroy_if true h.number o a)

abbrev pub get_course : Account → End → Option Object → Course
get_course a e None = told done e a
get_course a e (Some o) = told (content o.«data») e a

abbrev pub info_course : Account → End → ObjectId → Option Object → Course
info_course a e h None = told done e a
info_course a e h (Some o) = told (informed (record { id = h.number; interface = o.interface; version = o.version })) e a

-- flush: the stored fault; else a write stop, which is stored; else what has not reached the bottom would block
abbrev pub flush_course : Account → End → Option WaylandError → Course
flush_course a e (Some f) = told (faulted f) e a
flush_course a e None =
    cond (e.write_stop == 0)
    (told (cond (nat_le e.hold e.room) done (faulted (Io (fault 0 11)))) e a)
    (told (faulted (Io (fault 0 e.write_stop))) e (with_conn (with_fault (Io (fault 0 e.write_stop)) a.conn) a))

-- each call, where it is accepted
abbrev pub course : Table → Account → End → Call → Course
course t a e prepare = told (prepared (intent_of a.conn)) e (with_conn (with_reads (a.conn.reads + 1) a.conn) a)
course t a e (cancel i) = told done e (with_conn (cond (a.conn.reads == 1) (woken (one_less a.conn)) (one_less a.conn)) a)
course t a e (read i) = cond (a.conn.reads == 1) (read_alone a e a.conn.fault) (told (waits (waiting_of a.conn)) e (with_conn (one_less a.conn) a))
course t a e (resume w) = told (cond (w.read_serial == a.conn.read_serial) (waits w) (fault_or_done a.conn.fault)) e a
course t a e (next r rooms) = next_course t a e rooms (settled_in a.conn.phase) (first_of e.waiting)
course t a e (settle h d) = settle_course a e d a.conn.phase
course t a e (send_request r) = send_course a e r (asked t a r)
course t a e (destroy_object h) = destroy_course a e h (resolved (known a) h)
course t a e (get_data h) = get_course a e (resolved (known a) h)
course t a e (set_data h d) = told done e (with_ledger (amend (with_data d) h.number a.ledger) a)
course t a e (info h) = info_course a e h (resolved (known a) h)
course t a e flush = flush_course a e a.conn.fault

-- the account of a history. It opens with the display, whose handle everybody has; an accepted call takes its course,
-- a refused one changes nothing
abbrev pub opening : ℕ → ℕ → ℕ → Account
opening number clients servers = record {
  ledger = record { number = 1; object = display_object; over = false } ∷ [];
  given = (display_id, Some 0) ∷ [];
  drawn = 0;
  hand = None;
  client_places = clients;
  server_places = servers;
  conn = opened number;
}

abbrev pub reckon : Table → History → Account
reckon t (creation number clients servers) = opening number clients servers
reckon t (add e h) = cond (is_ok e.left.answer) (course t (reckon t h) e.before.end e.call).account (reckon t h)
