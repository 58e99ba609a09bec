-- Whole runs: a connection's past from its creation on, call by call, with whatever the world did in between.
use Rattle.std.specs.Prelude.{◌≡◌, ℕ, true, false, List, length, None, Option}
use Rattle.object_map.specs.Map.{map_of, fresh, insert_at, lawful}
use Rattle.object_map.specs.Number.{place}
use Rattle.object_map.specs.Store.{emptied}
use Rattle.transport.specs.Ends.{End, Grounded}
use Rattle.client.specs.Calls.{Call, defined}
use Rattle.client.specs.Requests.{Table}
use Rattle.client.specs.State.{Conn, Moment, Left}
use Rattle.client.specs.declared.connection.Phase.TheVariants.{Idle}
use Rattle.client.specs.declared.object.Object.{Object}

-- the display as it is placed at creation
abbrev pub display_object : Object
display_object = record { interface = 0; version = 1; «data» = 0; serial = 0; client_destroyed = false; server_destroyed = false }

-- a connection as it is created
abbrev pub opened : ℕ → Conn
opened number = record { number = number; last_serial = 0; fault = None; reads = 0; read_serial = 0; phase = Idle }

-- a new connection over two slot rooms: both are emptied, then the display is placed at 1
abbrev pub created : ℕ → List (Option Object) → List (Option Object) → End → Moment
created number c s e = record {
  conn = opened number;
  slots = (insert_at (place 1) display_object (map_of (record { client = fresh (length c); server = fresh (length s) }) (emptied c) (emptied s))).1;
  end = e;
}

-- one call: what it found, and what it left
pub record Entry : Type 0 where
  pub call : Call
  pub before : Moment
  pub left : Left

-- a history: a creation, with the connection's number and the places of its rooms, then calls, the newest first
pub data History : Type 0 where
  creation : ℕ → ℕ → ℕ → History
  add : Entry → History → History

-- the entry of a call
abbrev pub entry : Table → Moment → Call → Entry
entry t m c = record { call = c; before = m; left = defined t m c }

-- what the world may do between calls: anything to the frames that wait and were sent, to the stops and the room;
-- nothing to hold and height
pub record Changed (m m' : Moment) : Type 0 where
  pub conn : m'.conn ≡ m.conn
  pub slots : m'.slots ≡ m.slots
  pub hold : m'.end.hold ≡ m.end.hold
  pub height : m'.end.height ≡ m.end.height
  pub grounded : Grounded m'.end

-- a run begins with a creation over lawful rooms; each call starts from what the one before it left
pub data Run (t : Table) : History → Moment → Type 0 where
  made : (number : ℕ) (c s : List (Option Object)) (e : End) → lawful c s ≡ true → Grounded e → Run t (creation number (length c) (length s)) (created number c s e)
  world : {h : History} {m m' : Moment} → Run t h m → Changed m m' → Run t h m'
  called : {h : History} {m : Moment} → Run t h m → (c : Call) → Run t (add (entry t m c) h) (defined t m c).moment
