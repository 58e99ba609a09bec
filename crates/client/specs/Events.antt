-- Events: how the arguments of a frame that was taken become handles.
use Rattle.std.specs.Prelude.{ℕ, false, cond, List, [], ◌∷◌, ◌++◌, Some, None, Ok, Err, Option, Result, ◌==◌, nat_lt}
use Rattle.object_map.specs.Map.{Map, lookup, insert_at}
use Rattle.object_map.specs.Number.{place}
use Rattle.object_map.specs.declared.refusal.Refusal.{Refusal}
use Rattle.object_map.specs.declared.refusal.Refusal.TheVariants.{Vacant, ClientFull, Rooms, Null, Occupied, Gap, NoSlot}
use Rattle.protocol.specs.Descriptions.{Message}
use Rattle.protocol.specs.Lookups.{fits_interface, null_id}
use Rattle.protocol.specs.declared.argument.Argument.{Argument}
use Rattle.protocol.specs.declared.argument.Argument.TheVariants.{Int, Uint, Fixed, Str, Object as ObjectArg, NewId, Array, Fd}
use Rattle.protocol.specs.declared.error.ProtocolReason.{ProtocolReason}
use Rattle.protocol.specs.declared.error.ProtocolReason.TheVariants.{UnknownObject, WrongInterface, UnusableNumber, NoSlot as NoSlotLeft}
use Rattle.protocol.specs.declared.id.ObjectId.{ObjectId}
use Rattle.client.specs.Requests.{Table, first, rest}
use Rattle.client.specs.State.{handle_of, emptied_at, next_serial}
use Rattle.client.specs.declared.object.Object.{Object}

-- a room gone through from left to right, each place rewritten, until one stops it: why it stopped, if it did, what
-- became of the state, and the room. The place where it stops and those behind it stay
pub record Walked (S A E : Type 0) : Type 0 where
  pub stop : Option E
  pub state : S
  pub room : List A

abbrev pub onward : {S A E : Type 0} → Result A E × S → List A → A → List A → (S → List A → Walked S A E) → Walked S A E
onward (Ok b, s) done a more go = go s (done ++ b ∷ [])
onward (Err e, s) done a more go = record { stop = Some e; state = s; room = done ++ a ∷ more }

-- done is what lies before, the rest is still to come
abbrev pub walk : {S A E : Type 0} → (S → A → Result A E × S) → S → List A → List A → Walked S A E
walk f s done [] = record { stop = None; state = s; room = done }
walk f s done (a ∷ more) = onward (f s a) done a more (λ t d. walk f t d more)

-- how far the passing of a frame's arguments has come: the slots, the last serial, the number of the object that was
-- created, and the arg interfaces that are left
pub record Passing : Type 0 where
  pub slots : Map Object
  pub last : ℕ
  pub child : Option ℕ
  pub wants : List ℕ

-- one arg interface is consumed
abbrev pub consumed : Passing → Passing
consumed p = record { slots = p.slots; last = p.last; child = p.child; wants = rest p.wants }

-- a serial is drawn, over these slots
abbrev pub drawn : Map Object → Option ℕ → Passing → Passing
drawn s child p = record { slots = s; last = next_serial p.last; child = child; wants = p.wants }

-- an argument as it is passed, or why it is not
abbrev pub Passed : Type 0
Passed = Result (Argument ObjectId) ProtocolReason × Passing

-- an object that is named has to be there, and to fit the next arg interface, if there is one
abbrev pub pass_found : Table → Passing → ℕ → Option ℕ → Option Object → Passed
pass_found t p n want None = (Err (UnknownObject n), p)
pass_found t p n None (Some o) = (Ok (ObjectArg (handle_of n o)), consumed p)
pass_found t p n (Some i) (Some o) = cond (fits_interface t i o.interface) (Ok (ObjectArg (handle_of n o)), consumed p) (Err (WrongInterface n i o.interface), p)

-- null passes, and consumes its arg interface too
abbrev pub pass_object : Table → Passing → ℕ → Passed
pass_object t p n = cond (n == 0) (Ok (ObjectArg null_id), consumed p) (pass_found t p n (first p.wants) (lookup n p.slots))

-- a number whose object the client destroyed may be used again: its slot is emptied
abbrev pub vacated : ℕ → Map Object → Option Object → Map Object
vacated n s None = s
vacated n s (Some o) = cond o.client_destroyed (emptied_at n s) s

-- a child has its receiver's version, and is client_destroyed where its receiver is
abbrev pub newborn : Object → ℕ → ℕ → Object
newborn by i serial = record { interface = i; version = by.version; «data» = 0; serial = serial; client_destroyed = by.client_destroyed; server_destroyed = false }

-- why a number cannot be given to an object: only slots lack, or it is unusable
abbrev pub unplaced : ℕ → ℕ → Refusal → ProtocolReason
unplaced i n NoSlot = NoSlotLeft i n
unplaced i n Vacant = UnusableNumber i n
unplaced i n ClientFull = UnusableNumber i n
unplaced i n Rooms = UnusableNumber i n
unplaced i n Null = UnusableNumber i n
unplaced i n Occupied = UnusableNumber i n
unplaced i n Gap = UnusableNumber i n

-- a serial is drawn, whether the child finds a place or not
abbrev pub pass_placed : Passing → ℕ → Object → Result (Unit {0}) Refusal × Map Object → Passed
pass_placed p n o (Ok _, s) = (Ok (NewId (handle_of n o)), drawn s (Some n) p)
pass_placed p n o (Err e, s) = (Err (unplaced o.interface n e), drawn s p.child p)

-- an interface that is named, else the anonymous one
abbrev pub or_anonymous : Option ℕ → ℕ
or_anonymous None = 3
or_anonymous (Some i) = i

-- a new object: below the server's range its number is unusable
abbrev pub pass_new : Object → ℕ → Passing → ℕ → Passed
pass_new by i p n =
    cond (nat_lt n 0xFF00_0000)
    (Err (UnusableNumber i n), drawn p.slots p.child p)
    (pass_placed p n (newborn by i (next_serial p.last)) (insert_at (place n) (newborn by i (next_serial p.last)) (vacated n p.slots (lookup n p.slots))))

-- one argument of an event to the object `by`
abbrev pub pass_arg : Table → Object → Message → Passing → Argument ObjectId → Passed
pass_arg t by d p (Int x) = (Ok (Int x), p)
pass_arg t by d p (Uint x) = (Ok (Uint x), p)
pass_arg t by d p (Fixed x) = (Ok (Fixed x), p)
pass_arg t by d p (Str x) = (Ok (Str x), p)
pass_arg t by d p (ObjectArg h) = pass_object t p h.number
pass_arg t by d p (NewId h) = pass_new by (or_anonymous d.child) p h.number
pass_arg t by d p (Array x) = (Ok (Array x), p)
pass_arg t by d p (Fd x) = (Ok (Fd x), p)

-- all of them, in order
abbrev pub pass_all : Table → Object → Message → Map Object → ℕ → List (Argument ObjectId) → Walked Passing (Argument ObjectId) ProtocolReason
pass_all t by d s last args = walk (pass_arg t by d) (record { slots = s; last = last; child = None; wants = d.args }) [] args
