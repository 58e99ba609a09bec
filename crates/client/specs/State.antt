-- A connection, a moment of it, and what a call leaves.
use Rattle.std.specs.Prelude.{ℕ, ◌+◌, ◌%◌, ◌^◌, Bool, true, cond, List, [], Some, None, Ok, Err, Option, Result, ◌==◌}
use Rattle.object_map.specs.Map.{Map, map_of, lookup, remove_at, update_at}
use Rattle.object_map.specs.Number.{place}
use Rattle.protocol.specs.declared.argument.Argument.{Argument}
use Rattle.protocol.specs.declared.error.WaylandError.{WaylandError}
use Rattle.protocol.specs.declared.id.ObjectId.{ObjectId}
use Rattle.protocol.specs.declared.id.ObjectInfo.{ObjectInfo}
use Rattle.protocol.specs.declared.refusal.Refusal.{Refusal}
use Rattle.transport.specs.Ends.{End}
use Rattle.client.specs.declared.connection.Connection.{Connection}
use Rattle.client.specs.declared.connection.HandedEvent.{HandedEvent}
use Rattle.client.specs.declared.connection.Phase.{Phase}
use Rattle.client.specs.declared.connection.ReadIntent.{ReadIntent}
use Rattle.client.specs.declared.connection.Round.{Round}
use Rattle.client.specs.declared.connection.WaitingRead.{WaitingRead}
use Rattle.client.specs.declared.object.Notice.{Notice}
use Rattle.client.specs.declared.object.Object.{Object}

-- the handle of the object at a number
abbrev pub handle_of : ℕ → Object → ObjectId
handle_of n o = record { number = n; serial = o.serial; interface = o.interface }

-- and its notice: the slot's own handle and data number
abbrev pub notice_of : ℕ → Object → Notice
notice_of n o = record { id = handle_of n o; «data» = o.«data» }

-- an object with other marks
abbrev pub with_marks : Bool → Bool → Object → Object
with_marks c s o = record { interface = o.interface; version = o.version; «data» = o.«data»; serial = o.serial; client_destroyed = c; server_destroyed = s }

-- marked as destroyed by the client, by the server, by both
abbrev pub client_marked : Object → Object
client_marked o = with_marks true o.server_destroyed o

abbrev pub server_marked : Object → Object
server_marked o = with_marks o.client_destroyed true o

abbrev pub both_marked : Object → Object
both_marked o = with_marks true true o

-- an object with another data number
abbrev pub with_data : ℕ → Object → Object
with_data d o = record { interface = o.interface; version = o.version; «data» = d; serial = o.serial; client_destroyed = o.client_destroyed; server_destroyed = o.server_destroyed }

-- what is known of objects by their numbers
abbrev pub Look : Type 0
Look = ℕ → Option Object

-- what the slots show
abbrev pub seen_in : Map Object → Look
seen_in s n = lookup n s

-- the object where it bears this serial
abbrev pub bearing : ℕ → Option Object → Option Object
bearing k None = None
bearing k (Some o) = cond (o.serial == k) (Some o) None

-- a handle resolves where its number has an object of its serial
abbrev pub resolved : Look → ObjectId → Option Object
resolved look h = bearing h.serial (look h.number)

-- the slots with the object at a number changed; an empty slot takes no change
abbrev pub changed_at : (Object → Object) → ℕ → Map Object → Map Object
changed_at f n s = (update_at f (place n) s).1

-- and with the slot at a number emptied
abbrev pub emptied_at : ℕ → Map Object → Map Object
emptied_at n s = remove_at (place n) s

-- a connection: the number that its maker gave it, the last serial drawn, the stored fault, the prepared reads, the
-- read serial, by which waiting reads know that they may go on, and the phase
pub record Conn : Type 0 where
  pub number : ℕ
  pub last_serial : ℕ
  pub fault : Option WaylandError
  pub reads : ℕ
  pub read_serial : ℕ
  pub phase : Phase

-- a moment: the connection, its slots, and what its transport means
pub record Moment : Type 0 where
  pub conn : Conn
  pub slots : Map Object
  pub end : End

-- what a connection in the code says
abbrev pub conn_of : Connection → Conn
conn_of c = record { number = c.number; last_serial = c.last_serial; fault = c.last_error; reads = c.prepared_reads; read_serial = c.read_serial; phase = c.phase }

-- what a connection in the code, the lent slot rooms and a transport come to
abbrev pub moment_of : Connection → List (Option Object) → List (Option Object) → End → Moment
moment_of c client server e = record {
  conn = conn_of c;
  slots = map_of c.map client server;
  end = e;
}

-- a connection with other parts
abbrev pub with_fault : WaylandError → Conn → Conn
with_fault f c = record { number = c.number; last_serial = c.last_serial; fault = Some f; reads = c.reads; read_serial = c.read_serial; phase = c.phase }

abbrev pub with_serial : ℕ → Conn → Conn
with_serial n c = record { number = c.number; last_serial = n; fault = c.fault; reads = c.reads; read_serial = c.read_serial; phase = c.phase }

abbrev pub with_reads : ℕ → Conn → Conn
with_reads n c = record { number = c.number; last_serial = c.last_serial; fault = c.fault; reads = n; read_serial = c.read_serial; phase = c.phase }

abbrev pub with_phase : Phase → Conn → Conn
with_phase p c = record { number = c.number; last_serial = c.last_serial; fault = c.fault; reads = c.reads; read_serial = c.read_serial; phase = p }

-- those who wait for a read may go on
abbrev pub woken : Conn → Conn
woken c = record { number = c.number; last_serial = c.last_serial; fault = c.fault; reads = c.reads; read_serial = (c.read_serial + 1) % 2 ^ 64; phase = c.phase }

-- the serial after the last one, which wraps
abbrev pub next_serial : ℕ → ℕ
next_serial n = (n + 1) % 2 ^ 32

-- a moment with another connection, and with other slots
abbrev pub with_conn : Conn → Moment → Moment
with_conn c m = record { conn = c; slots = m.slots; end = m.end }

abbrev pub with_slots : Map Object → Moment → Moment
with_slots s m = record { conn = m.conn; slots = s; end = m.end }

-- the rooms that next fills: an event's arguments, their strings and arrays, the text of an error
pub record Rooms : Type 0 where
  pub args : List (Argument ObjectId)
  pub text : List ℕ
  pub fault_text : List ℕ

-- no rooms, as the other calls have
abbrev pub none : Rooms
none = record { args = []; text = []; fault_text = [] }

-- what an accepted call answers
pub data Reply : Type 0 where
  done : Reply
  prepared : ReadIntent → Reply
  waits : WaitingRead → Reply
  round : Round → Reply
  faulted : WaylandError → Reply
  quiet : Round → Reply
  handed_out : HandedEvent → ObjectId → ℕ → Reply
  over : Result ℕ WaylandError → Reply
  settled : Round → Option Notice → Reply
  sent : ObjectId → Option Notice → Reply
  destroyed : Notice → Reply
  content : ℕ → Reply
  informed : ObjectInfo → Reply

-- what a call leaves: its answer or its refusal, the moment after it, and its rooms
pub record Left : Type 0 where
  pub answer : Result Reply Refusal
  pub moment : Moment
  pub rooms : Rooms

abbrev pub leave : Reply → Moment → Rooms → Left
leave a m r = record { answer = Ok a; moment = m; rooms = r }

-- a refusal leaves all as it was
abbrev pub refuse : Refusal → Moment → Rooms → Left
refuse e m r = record { answer = Err e; moment = m; rooms = r }
