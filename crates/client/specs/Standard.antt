-- What the Wayland protocol says of objects' numbers and of errors, in its own words, and that every run keeps to it.
use Rattle.std.specs.Prelude.{◌≡◌, ℕ, ◌+◌, ◌%◌, ◌^◌, ◌<◌, ◌≤◌, true, false, cond, ◌⊎◌, List, [], ◌∷◌, length, Some, None, Ok, Option, Result, ◌==◌, ◌≢◌}
use Rattle.object_map.specs.Map.{Map, lookup}
use Rattle.object_map.specs.Runs.{dense}
use Rattle.protocol.specs.Words.{Sound}
use Rattle.protocol.specs.declared.error.WaylandError.{WaylandError}
use Rattle.protocol.specs.declared.id.ObjectId.{ObjectId}
use Rattle.transport.specs.Ends.{frames}
use Rattle.transport.specs.Wire.{Message, message, uint}
use Rattle.client.specs.Calls.{Call, read, resume, next, send_request, flush, round_of, defined}
use Rattle.client.specs.Course.{known, may, Reading', readable, reckon}
use Rattle.client.specs.Law.{takes_delete}
use Rattle.client.specs.Ledger.{Tenancy, tenancy, lasts, numbers}
use Rattle.client.specs.Requests.{Table, Request}
use Rattle.client.specs.Runs.{History, creation, add, entry, Run}
use Rattle.client.specs.State.{server_marked, resolved, Moment, Rooms, Reply, waits, round, faulted, quiet, over, sent}
use Rattle.client.specs.declared.connection.Phase.TheVariants.{Idle}
use Rattle.client.specs.declared.connection.ReadIntent.{ReadIntent}
use Rattle.client.specs.declared.connection.Round.{Round}
use Rattle.client.specs.declared.connection.WaitingRead.{WaitingRead}
use Rattle.client.specs.declared.object.Notice.{Notice}
use Rattle.client.specs.declared.object.Object.{Object}

-- "IDs allocated by the client are in the range [1, 0xfeffffff] while IDs allocated by the server are in the range
-- [0xff000000, 0xffffffff]. The 0 ID is reserved to represent a null or non-existent object."
abbrev pub ClientId : ℕ → Type 0
ClientId n = (1 ≤ n) × (n < 0xFF00_0000)

-- the k-th tenancy has lasted, now or once
abbrev pub Lasted : Table → ℕ → History → Type 0
Lasted t k (creation number clients servers) = lasts k (reckon t (creation number clients servers)).ledger ≡ true
Lasted t k (add e h) = Lasted t k h ⊎ (lasts k (reckon t (add e h)).ledger ≡ true)

-- delete_id: "When a client deletes an object that it had created, the server will send this event to acknowledge that
-- it has seen the delete request. When the client receives this event, it will know that it can safely reuse the object
-- ID." The k-th tenancy is released where a call of the history took a delete_id for its number, and the client had
-- destroyed its object by then
abbrev pub Released : Table → ℕ → History → Type 0
Released t k (creation number clients servers) = ⊥
Released t k (add e h) =
    Released t k h
    ⊎ ((y : Tenancy) × (tenancy k (reckon t h).ledger ≡ Some y) × (y.object.client_destroyed ≡ true) × (takes_delete e.before e.call e.left y.number ≡ true))

-- what a delete_id for a number comes to: a slot whose object the client destroyed is emptied, another keeps its object,
-- marked as destroyed by the server too; no other slot changes
pub record Acknowledged (n : ℕ) (s s' : Map Object) : Type 0 where
  pub emptied : (o : Object) → lookup n s ≡ Some o → o.client_destroyed ≡ true → lookup n s' ≡ None
  pub marked : (o : Object) → lookup n s ≡ Some o → o.client_destroyed ≡ false → lookup n s' ≡ Some (server_marked o)
  pub vacant : lookup n s ≡ None → lookup n s' ≡ None
  pub others : (k : ℕ) → (k ≢ n) → lookup k s' ≡ lookup k s

-- a tenancy that an event to the object `by` began: its number is of the server's range, its object has the version of
-- `by`, is client_destroyed from birth where `by` is, and has no data number yet
pub record BornOf (by : Object) (y : Tenancy) : Type 0 where
  pub range : 0xFF00_0000 ≤ y.number
  pub version : y.object.version ≡ by.version
  pub destroyed : y.object.client_destroyed ≡ by.client_destroyed
  pub content : y.object.«data» ≡ 0

-- what holds of a moment that a history reaches, and of every call made from it
pub record Standard (t : Table) (h : History) (m : Moment) : Type 0 where
  -- the number 0 is nobody's
  pub never_null : (k : ℕ) (y : Tenancy) → tenancy k (reckon t h).ledger ≡ Some y → y.number ≢ 0
  -- "IDs are densely packed in the sense that the ID N will not be used until N-1 has been used", in each range
  pub densely : dense (numbers (reckon t h).ledger) ≡ true
  -- what the client creates has a number of its own range
  pub in_range : (r : Request) (x : ObjectId) (o : Option Notice) → (defined t m (send_request r)).answer ≡ Ok (sent x o) → (x.number ≢ 0) → ClientId x.number
  -- what the server creates is born of an event that could be read, and has a number of the server's range
  pub servers_own : (r : Round) (rooms : Rooms) (k : ℕ) (y : Tenancy) → length (reckon t h).ledger ≤ k → tenancy k (reckon t (add (entry t m (next r rooms)) h)).ledger ≡ Some y → (f : Reading') × (readable t (known (reckon t h)) m.end.waiting ≡ Some f) × BornOf f.receiver y
  -- when a round is over, those who wait are woken
  pub wakes : (c : Call) (a : Result ℕ WaylandError) → (defined t m c).answer ≡ Ok (over a) → ((defined t m c).moment.conn.phase ≡ Idle) × ((defined t m c).moment.conn.read_serial ≡ (m.conn.read_serial + 1) % 2 ^ 64)
  -- a tenancy of the client's range that lasted is over only once its number was released
  pub over_released : (k : ℕ) (y : Tenancy) → Lasted t k h → tenancy k (reckon t h).ledger ≡ Some y → y.over ≡ true → y.number < 0xFF00_0000 → Released t k h
  -- so a number is used again only when everyone who held it was released
  pub reused_safely : (r : Request) (x : ObjectId) (o : Option Notice) → (defined t m (send_request r)).answer ≡ Ok (sent x o) → (x.number ≢ 0) → (k : ℕ) (y : Tenancy) → Lasted t k h → tenancy k (reckon t h).ledger ≡ Some y → y.number ≡ x.number → Released t k h
  -- a delete_id that waits first is taken quietly, and acknowledged
  pub acknowledges : (r : Round) (rooms : Rooms) (n : ℕ) (fs : List Message) → may t (reckon t h) (next r rooms) ≡ true → m.end.waiting ≡ frames (message 1 1 (uint n ∷ []) ∷ fs) → ((defined t m (next r rooms)).answer ≡ Ok (quiet (round_of m.conn))) × Acknowledged n m.slots (defined t m (next r rooms)).moment.slots
  -- an object that a request creates has its sender's version, where the request does not say another
  pub inherits : (r : Request) (x : ObjectId) (o : Option Notice) → (defined t m (send_request r)).answer ≡ Ok (sent x o) → (x.number ≢ 0) → r.child ≡ None → (by : Object) × (resolved (known (reckon t h)) r.sender ≡ Some by) × ((y : Tenancy) × (tenancy (length (reckon t h).ledger) (reckon t (add (entry t m (send_request r)) h)).ledger ≡ Some y) × (y.object.version ≡ by.version))
  -- "The error event is sent out when a fatal (non-recoverable) error has occurred": once a fault is stored, no read
  -- opens a round, a read that waited goes on to the fault, and every flush answers it
  pub fatal_read : (f : WaylandError) → m.conn.fault ≡ Some f → (i : ReadIntent) (r : Round) → (defined t m (read i)).answer ≢ Ok (round r)
  pub fatal_resume : (f : WaylandError) → m.conn.fault ≡ Some f → (w : WaitingRead) (a : Reply) → (defined t m (resume w)).answer ≡ Ok a → a ≡ cond (w.read_serial == m.conn.read_serial) (waits w) (faulted f)
  pub fatal_flush : (f : WaylandError) → m.conn.fault ≡ Some f → (defined t m flush).answer ≡ Ok (faulted f)

abbrev pub StandardOverRuns : Type 0
StandardOverRuns = (t : Table) (h : History) (m : Moment) → Sound t → Run t h m → Standard t h m
