-- What an end of a transport means, and what each call answers and leaves.
use Rattle.std.specs.Prelude.{◌≡◌, ℕ, ◌-◌, cond, List, [], ◌∷◌, ◌++◌, Some, None, Ok, Err, Option, Result, OnErr, ◌==◌, nat_le}
use Rattle.protocol.specs.declared.argument.Argument.{Argument}
use Rattle.protocol.specs.declared.argument.ArgumentType.{ArgumentType}
use Rattle.protocol.specs.declared.error.TransportFault.{TransportFault}
use Rattle.protocol.specs.declared.id.ObjectId.{ObjectId}
use Rattle.protocol.specs.declared.refusal.Refusal.TheVariants.{BadRoom}
use Rattle.transport.specs.Wire.{Arg, Message}
use Rattle.transport.specs.Frames.{Filled, roomy, filled}
use Rattle.transport.specs.Signatures.{fits}
use Rattle.transport.specs.declared.frame.TakeError.{TakeError}
use Rattle.transport.specs.declared.frame.TakeError.TheVariants.{Malformed, Refused}

-- what waits to be taken; it is reached only by `first_of` and `take_of`
pub data Waiting : Type 0 where
  frames : List Message → Waiting

-- the sender and the opcode of what comes first
abbrev pub first_of : Waiting → Option (ℕ × ℕ)
first_of (frames []) = None
first_of (frames (m ∷ rest)) = Some (m.sender, m.opcode)

-- its arguments, where a signature fits them, and what waits behind it
abbrev pub take_of : List ArgumentType → Waiting → Option (List Arg × Waiting)
take_of signature (frames []) = None
take_of signature (frames (m ∷ rest)) = cond (fits signature m.args) (Some (m.args, frames rest)) None

-- read_stop and write_stop are 0 or a code; sent are the frames that were accepted and not yet collected; room is how
-- many more are accepted; of the sent ones, hold may lie above the bottom; height is the layer that "too big" names
pub record End : Type 0 where
  pub waiting : Waiting
  pub read_stop : ℕ
  pub sent : List Message
  pub room : ℕ
  pub write_stop : ℕ
  pub hold : ℕ
  pub height : ℕ

-- a fault of a layer
abbrev pub fault : ℕ → ℕ → TransportFault
fault l c = record { layer = l; code = c }

-- the first frame's sender and opcode, else the read stop, else "would block"
abbrev pub first_or : Option (ℕ × ℕ) → ℕ → Result (ℕ × ℕ) TransportFault
first_or (Some m) stop = Ok m
first_or None stop = Err (fault 0 (cond (stop == 0) 11 stop))

-- what `first` answers
abbrev pub first_in : End → Result (ℕ × ℕ) TransportFault
first_in e = first_or (first_of e.waiting) e.read_stop

-- the end once the first frame is gone
abbrev pub leaving : Waiting → End → End
leaving rest e = record { waiting = rest; read_stop = e.read_stop; sent = e.sent; room = e.room; write_stop = e.write_stop; hold = e.hold; height = e.height }

-- the arguments written into the rooms and the frame removed; all as it was where there is none that fits
abbrev pub taken_or : Option (List Arg × Waiting) → End → List (Argument ObjectId) → List ℕ → Filled ℕ TakeError × End
taken_or None e args text = ((Err Malformed, args, text), e)
taken_or (Some (xs, rest)) e args text = (filled xs args text, leaving rest e)

-- a take: rooms that are too small are refused first
abbrev pub taking : List ArgumentType → End → List (Argument ObjectId) → List ℕ → Filled ℕ TakeError × End
taking signature e args text = cond (roomy args text) (taken_or (take_of signature e.waiting) e args text) ((Err (Refused BadRoom), args, text), e)

-- the end with one frame more
abbrev pub sending : Message → End → End
sending m e = record { waiting = e.waiting; read_stop = e.read_stop; sent = e.sent ++ m ∷ []; room = e.room - 1; write_stop = e.write_stop; hold = e.hold; height = e.height }

-- the fault of a put without room: the write stop; else "would block" at the bottom, and "too big" above it
abbrev pub put_fault : End → TransportFault
put_fault e = cond (e.write_stop == 0) (cond (e.hold == 0) (fault 0 11) (fault e.height 7)) (fault 0 e.write_stop)

-- a put: the frame is sent where there is room; else nothing changes
abbrev pub putting : Message → End → Result (Unit {0}) TransportFault × End
putting m e = cond (e.room == 0) (Err (put_fault e), e) (Ok tt, sending m e)

-- a write stop; else nothing where all that was sent reached the bottom, and "would block" where it did not
abbrev pub flushing : End → Result (Unit {0}) TransportFault
flushing e = cond (e.write_stop == 0) (cond (nat_le e.hold e.room) (Ok tt) (Err (fault 0 11))) (Err (fault 0 e.write_stop))

-- what holds of every end: where nothing lies above the bottom no layer is named, and a stop is never "would block"
pub record Grounded (e : End) : Type 0 where
  pub low : e.hold ≡ 0 → e.height ≡ 0
  pub reads : e.read_stop ≡ 11 → ⊥
  pub stops : e.write_stop ≡ 11 → ⊥

-- the same, of an end whose put faulted
abbrev pub GroundedIf : {A : Type 0} → Result A TransportFault → End → Type 0
GroundedIf r e = OnErr r (Grounded e)
