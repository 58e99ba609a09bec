-- What holds of every end and every stack of ends.
use Rattle.std.specs.Prelude.{◌≡◌, ℕ, ◌<◌, List, [], ◌∷◌, ◌++◌, take, is_ok, Ok, Err, Decides, Result}
use Rattle.std.specs.List.{flat_map}
use Rattle.protocol.specs.declared.error.TransportFault.{TransportFault}
use Rattle.transport.specs.Wire.{Message, clipped}
use Rattle.transport.specs.Rings.{Queue}
use Rattle.transport.specs.Ends.{End, fault, putting}
use Rattle.transport.specs.Lists.{Listed, end_of, collecting}
use Rattle.transport.specs.Layers.{total, over, flush_through, stacked}

-- what a frame holds of a message, another frame holds whole
abbrev pub ClippedOnce : Type 0
ClippedOnce = (m : Message) → clipped (clipped m) ≡ clipped m

-- a put is accepted exactly where there is room
abbrev pub PutExactly : Type 0
PutExactly = (m : Message) (e : End) → Decides (is_ok (putting m e).0) (0 < e.room)

-- a full layer over a full list end whose writing goes on: "too big" at layer 1
abbrev pub FullOverList : Type 0
FullOverList = (m : Message) (l : Listed) (q : Queue) → l.write_stop ≡ 0 → l.outgoing.free ≡ 0 → q.free ≡ 0 → 0 < total q → (putting m (over (end_of l) q)).0 ≡ Err (fault 1 7)

-- a full layer over another full layer: the fault of that
abbrev pub FullOverLayer : Type 0
FullOverLayer = (m : Message) (e : End) (q : Queue) → e.room ≡ 0 → 0 < e.hold → q.free ≡ 0 → (putting m (over e q)).0 ≡ (putting m e).0

-- a flush that answers well leaves nothing held
abbrev pub FlushedEmpty : Type 0
FlushedEmpty = (e e' : End) (q q' : Queue) → (Ok tt, e', q') ≡ flush_through e q → q'.frames ≡ []

-- what a stack has sent is what lies at the bottom, then what each layer holds, from the bottom up
abbrev pub InOrder : Type 0
InOrder = (l : Listed) (qs : List Queue) → (stacked l qs).sent ≡ l.outgoing.frames ++ flat_map (λ q. q.frames) qs

-- a stack of ends, what was collected from it, and what it was given and accepted
pub record Moment : Type 0 where
  pub state : End
  pub collected : List Message
  pub given : List Message

-- what is done to it: a put, a flush, a collection of up to n frames at the bottom, and all that leaves the sent frames
-- alone, as a take or a delivery
pub data Act : Type 0 where
  put : Message → Act
  flush : Act
  collect : ℕ → Act
  other : Act

-- what a put added, by its answer
abbrev pub accepted_by : Result (Unit {0}) TransportFault → Message → List Message
accepted_by (Ok _) m = m ∷ []
accepted_by (Err _) m = []

-- one act, as the contracts of the calls have it
abbrev pub Step : Act → Moment → Moment → Type 0
Step (put m) s t = (r : Result (Unit {0}) TransportFault) × ((r, t.state) ≡ putting m s.state) × (t.collected ≡ s.collected) × (t.given ≡ s.given ++ accepted_by r m)
Step flush s t = (t.state ≡ s.state) × (t.collected ≡ s.collected) × (t.given ≡ s.given)
Step (collect n) s t =
    (l : Listed) × (qs : List Queue) × (s.state ≡ stacked l qs) × (t.state ≡ stacked (collecting n l).1 qs)
    × (t.collected ≡ s.collected ++ take n l.outgoing.frames) × (t.given ≡ s.given)
Step other s t = (t.state.sent ≡ s.state.sent) × (t.collected ≡ s.collected) × (t.given ≡ s.given)

-- acts, one after another
abbrev pub Run : List Act → Moment → Moment → Type 0
Run [] s t = t ≡ s
Run (a ∷ acts) s t = (u : Moment) × Step a s u × Run acts u t

-- what was collected, then what is still sent, is what was given, in order
abbrev pub Balanced : Moment → Type 0
Balanced s = s.collected ++ s.state.sent ≡ s.given

-- nothing that was accepted is ever lost or reordered
abbrev pub NothingLost : Type 0
NothingLost = (acts : List Act) (s t : Moment) → Run acts s t → Balanced s → Balanced t
