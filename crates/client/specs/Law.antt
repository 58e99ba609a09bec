-- The law over whole runs.
use Rattle.std.specs.Prelude.{◌≡◌, ℕ, ◌+◌, ◌-◌, ◌%◌, ◌^◌, ◌<◌, Bool, true, false, cond, not, ◌&&◌, ◌||◌, ◌⊎◌, List, [], ◌∷◌, ◌++◌, length, is_some, is_ok, Some, None, Ok, Err, Option, ◌==◌, ◌≢◌, nat_eq, nat_le, nat_lt}
use Rattle.std.specs.List.{slice_get}
use Rattle.object_map.specs.Laws.{occupied}
use Rattle.object_map.specs.Map.{lookup}
use Rattle.protocol.specs.Descriptions.{Message}
use Rattle.protocol.specs.Lookups.{request_at, same_object, null_id}
use Rattle.protocol.specs.Words.{Sound}
use Rattle.protocol.specs.declared.argument.ArgumentType.TheVariants.{Uint}
use Rattle.protocol.specs.declared.error.TransportFault.{TransportFault}
use Rattle.protocol.specs.declared.error.WaylandError.{WaylandError}
use Rattle.protocol.specs.declared.error.WaylandError.TheVariants.{Io, Protocol}
use Rattle.protocol.specs.declared.id.ObjectId.{ObjectId}
use Rattle.protocol.specs.declared.refusal.Refusal.{Refusal}
use Rattle.transport.specs.Ends.{Waiting, first_of, take_of, sending, put_fault}
use Rattle.transport.specs.Wire as wire
use Rattle.client.specs.Calls.{Call, prepare, cancel, read, resume, next, settle, send_request, destroy_object, get_data, set_data, info, flush, rooms_of, number_in, defined}
use Rattle.client.specs.Course.{given_some, given_that, has, known, may, course, reckon}
use Rattle.client.specs.Ledger.{Tenancy, Ledger, tenant_in, tenancy, lasts, overs, free_from, Account}
use Rattle.client.specs.Requests.{Table, Request, creates, child_for, frame_for}
use Rattle.client.specs.Runs.{History, creation, add, entry, Run}
use Rattle.client.specs.State.{Moment, Left, bearing, resolved, sent, content, next_serial}
use Rattle.client.specs.declared.object.ChildSpec.{ChildSpec}
use Rattle.client.specs.declared.object.Notice.{Notice}
use Rattle.client.specs.declared.object.Object.{Object}

-- a handle that was given out, with the tenancy that it was given for
abbrev pub Given : ObjectId × Option ℕ → List (ObjectId × Option ℕ) → Type 0
Given p [] = ⊥
Given p (q ∷ more) = (p ≡ q) ⊎ Given p more

-- calls by what they do: 1 prepares a read, 2 reads or cancels it, 3 sends a request, 4 takes a frame
abbrev pub sort_of : Call → ℕ
sort_of prepare = 1
sort_of (cancel i) = 2
sort_of (read i) = 2
sort_of (resume w) = 0
sort_of (next r rooms) = 4
sort_of (settle h d) = 0
sort_of (send_request r) = 3
sort_of (destroy_object h) = 0
sort_of (get_data h) = 0
sort_of (set_data h d) = 0
sort_of (info h) = 0
sort_of flush = 0

-- an entry of an accepted call of a sort
abbrev pub accepts : ℕ → Call → Left → Bool
accepts k c x = is_ok x.answer && sort_of c == k

-- how many there are
abbrev pub accepted_of : ℕ → History → ℕ
accepted_of k (creation number clients servers) = 0
accepted_of k (add e h) = cond (accepts k e.call e.left) 1 0 + accepted_of k h

-- the frames that calls appended to those sent, collected since or not
abbrev pub appended : History → ℕ
appended (creation number clients servers) = 0
appended (add e h) = (length e.left.moment.end.sent - length e.before.end.sent) + appended h

-- this fault of the transport is stored
abbrev pub stored : Option WaylandError → TransportFault → Bool
stored None f = false
stored (Some (Io g)) f = g.layer == f.layer && g.code == f.code
stored (Some (Protocol p)) f = false

-- the accepted requests whose put faulted: there was no room, and the fault is stored
abbrev pub faults_of_put : History → ℕ
faults_of_put (creation number clients servers) = 0
faults_of_put (add e h) = cond (accepts 3 e.call e.left && (e.before.end.room == 0 && stored e.left.moment.conn.fault (put_fault e.before.end))) 1 0 + faults_of_put h

-- the number that a delete_id gives back, where one waits first
abbrev pub deleted : Waiting → Option ℕ
deleted w = given_some (first_of w) (λ f. given_that (f.0 == 1 && f.1 == 1) (given_some (take_of (Uint ∷ []) w) (λ k. Some (number_in (slice_get k.0 0)))))

-- a call takes a delete_id for a number
abbrev pub takes_delete : Moment → Call → Left → ℕ → Bool
takes_delete m c x n = accepts 4 c x && has (deleted m.end.waiting) (λ k. nat_eq k n)

-- the newest tenancy began at a number
abbrev pub newest_at : ℕ → Ledger → Bool
newest_at n [] = false
newest_at n (t ∷ l) = t.number == n

-- a call places an object at a number from 0xFF000000 up
abbrev pub places : Account → Account → ℕ → Bool
places a a' n = nat_le 0xFF00_0000 n && (nat_lt (length a.ledger) (length a'.ledger) && newest_at n a'.ledger)

-- the two occasions for a tenancy at a number to end
abbrev pub occasion : Moment → Call → Left → Account → Account → ℕ → Bool
occasion m c x a a' n = takes_delete m c x n || places a a' n

-- the child of an accepted request, by its answer: null where the description creates none; else at the smallest free
-- number, of the interface and the version that description and spec give
pub record Made (t : Table) (a a' : Account) (r : Request) (x : ObjectId) : Type 0 where
  pub by : Object
  pub desc : Message
  pub sender : resolved (known a) r.sender ≡ Some by
  pub described : request_at t by.interface r.opcode ≡ Some desc
  pub nothing : creates desc ≡ false → (x ≡ null_id) × (length a'.ledger ≡ length a.ledger)
  pub child : creates desc ≡ true → (c : ChildSpec) × (child_for t desc.child by.version r.child ≡ Some c) × (free_from a.client_places 1 (known a) ≡ Some x.number) × (x.serial ≡ next_serial a.conn.last_serial) × (y : Tenancy) × (tenancy (length a.ledger) a'.ledger ≡ Some y) × (y.number ≡ x.number) × (y.object.interface ≡ c.interface) × (y.object.version ≡ c.version) × (y.object.«data» ≡ r.content)

-- what holds of a moment that a history reaches, and of every call made from it
pub record Law (t : Table) (h : History) (m : Moment) : Type 0 where
  -- every handle given out but null was given for a tenancy
  pub for_a_tenancy : (x : ObjectId) (o : Option ℕ) → Given (x, o) (reckon t h).given → (x.number ≢ 0) → is_some o ≡ true
  -- two are equal exactly when they were given for the same one, until serials come round
  pub equal_exactly : (x y : ObjectId) (j k : ℕ) → (reckon t h).drawn < 2 ^ 32 → Given (x, Some j) (reckon t h).given → Given (y, Some k) (reckon t h).given → same_object t x y ≡ (j == k)
  -- get_data accepts a handle exactly while its tenancy lasts
  pub get_accepts : (x : ObjectId) (k : ℕ) → (reckon t h).drawn < 2 ^ 32 → Given (x, Some k) (reckon t h).given → is_ok (defined t m (get_data x)).answer ≡ lasts k (reckon t h).ledger
  -- and answers the data number that the tenancy was given last
  pub get_answers : (x : ObjectId) (k : ℕ) (y : Tenancy) → (reckon t h).drawn < 2 ^ 32 → Given (x, Some k) (reckon t h).given → tenancy k (reckon t h).ledger ≡ Some y → y.over ≡ false → (defined t m (get_data x)).answer ≡ Ok (content y.object.«data»)
  -- a tenancy ends with a call exactly when its object is client_destroyed and the call is one of the two occasions
  pub ends_exactly : (c : Call) (k : ℕ) (y : Tenancy) → tenancy k (reckon t h).ledger ≡ Some y → y.over ≡ false → lasts k (reckon t (add (entry t m c) h)).ledger ≡ not (y.object.client_destroyed && occasion m c (defined t m c) (reckon t h) (reckon t (add (entry t m c) h)) y.number)
  -- and then for good
  pub ends_for_good : (c : Call) (k : ℕ) (y : Tenancy) → tenancy k (reckon t h).ledger ≡ Some y → y.over ≡ true → lasts k (reckon t (add (entry t m c) h)).ledger ≡ false
  -- and a slot loses its object exactly then, until serials come round
  pub emptied_exactly : (c : Call) (n : ℕ) (o : Object) → (reckon t (add (entry t m c) h)).drawn < 2 ^ 32 → lookup n m.slots ≡ Some o → is_some (bearing o.serial (lookup n (defined t m c).moment.slots)) ≡ not (o.client_destroyed && occasion m c (defined t m c) (reckon t h) (reckon t (add (entry t m c) h)) n)
  -- no two tenancies last at one number
  pub one_at_a_time : (j k : ℕ) (y z : Tenancy) → tenancy j (reckon t h).ledger ≡ Some y → tenancy k (reckon t h).ledger ≡ Some z → y.over ≡ false → z.over ≡ false → y.number ≡ z.number → j ≡ k
  -- a slot holds an object exactly where a tenancy lasts: that tenancy's, with its serial, interface, version, data
  -- number and marks as reckoned
  pub slots : (n : ℕ) → lookup n m.slots ≡ tenant_in (reckon t h).ledger n
  -- the connection is as reckoned: its stored fault, its prepared reads, its phase
  pub connection : m.conn ≡ (reckon t h).conn
  -- and its last serial is the number of serials drawn, as far as 32 bits show it
  pub serials : m.conn.last_serial ≡ (reckon t h).drawn % 2 ^ 32
  -- each call is accepted exactly when the history says that it may be
  pub accepts_exactly : (c : Call) → is_ok (defined t m c).answer ≡ may t (reckon t h) c
  -- and then its answer, its rooms and what it does to the transport are what the history says
  pub answers : (c : Call) → may t (reckon t h) c ≡ true → (defined t m c).answer ≡ Ok (course t (reckon t h) m.end c).reply
  pub fills : (c : Call) → may t (reckon t h) c ≡ true → (defined t m c).rooms ≡ (course t (reckon t h) m.end c).rooms
  pub transports : (c : Call) → may t (reckon t h) c ≡ true → (defined t m c).moment.end ≡ (course t (reckon t h) m.end c).end
  -- a refused call leaves all as it was
  pub refusal_leaves : (c : Call) (e : Refusal) → (defined t m c).answer ≡ Err e → ((defined t m c).moment ≡ m) × ((defined t m c).rooms ≡ rooms_of c)
  -- what an accepted request creates
  pub makes : (r : Request) (x : ObjectId) (o : Option Notice) → (defined t m (send_request r)).answer ≡ Ok (sent x o) → Made t (reckon t h) (reckon t (add (entry t m (send_request r)) h)) r x
  -- tenancies begun = ended + occupied slots
  pub tenancies : length (reckon t h).ledger ≡ overs (reckon t h).ledger + occupied m.slots
  -- accepted prepares = accepted reads and cancels + prepared reads
  pub reads : accepted_of 1 h ≡ accepted_of 2 h + m.conn.reads
  -- accepted requests = frames appended to those sent + faults of put
  pub requests : accepted_of 3 h ≡ appended h + faults_of_put h
  -- an accepted request is sent as asked, with its child's number where it is created, if there is room; if not, nothing
  -- is sent and the fault of put is stored
  pub sends_exactly : (r : Request) (x : ObjectId) (o : Option Notice) → (defined t m (send_request r)).answer ≡ Ok (sent x o) → ((defined t m (send_request r)).moment.end ≡ cond (m.end.room == 0) m.end (sending (frame_for r x.number) m.end)) × ((defined t m (send_request r)).moment.conn.fault ≡ cond (m.end.room == 0) (Some (Io (put_fault m.end))) m.conn.fault)
  -- a call takes nothing back of what was sent, and no call but a request sends
  pub keeps_sent : (c : Call) → (more : List wire.Message) × ((defined t m c).moment.end.sent ≡ m.end.sent ++ more) × ((sort_of c == 3) ≡ false → more ≡ [])
  -- a stored fault gives way only to another
  pub keeps_fault : (c : Call) → is_some m.conn.fault ≡ true → is_some (defined t m c).moment.conn.fault ≡ true

abbrev pub LawOverRuns : Type 0
LawOverRuns = (t : Table) (h : History) (m : Moment) → Sound t → Run t h m → Law t h m
