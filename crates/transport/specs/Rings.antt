-- A queue in a room of places: from its head on, and round the room's end.
use Rattle.std.specs.Prelude.{◌≡◌, ℕ, ◌+◌, ◌-◌, min, Bool, true, false, cond, List, [], ◌∷◌, ◌++◌, map, length, take, drop, ◌==◌, nat_lt}
use Rattle.transport.specs.Wire.{Message}
use Rattle.transport.specs.Frames.{frame_of}
use Rattle.transport.specs.declared.frame.Frame.{Frame}
use Rattle.transport.specs.declared.ring.Ring.{Ring}

-- a room that is read from the place h on; a place past the end is the first
abbrev pub rotated : {X : Type 0} → ℕ → List X → List X
rotated h room = drop h room ++ take h room

-- the head as it counts, in a room of n places
abbrev pub start : ℕ → ℕ → ℕ
start n h = cond (nat_lt h n) h 0

-- the place that is i behind the head h, round the room's end
abbrev pub place : ℕ → ℕ → ℕ → ℕ
place n h i = cond (nat_lt i (n - start n h)) (start n h + i) (i - (n - start n h))

-- the frames in the queue
abbrev pub ring_of : Ring → List Frame → List Message
ring_of r room = map frame_of (take r.count (rotated r.head room))

-- a queue, and the places that are free
pub record Queue : Type 0 where
  pub frames : List Message
  pub free : ℕ

-- the queue that a ring is in a room
abbrev pub queue_of : Ring → List Frame → Queue
queue_of r room = record { frames = ring_of r room; free = length room - r.count }

-- one more at the back, where there is a place
abbrev pub pushing : Message → Queue → Bool × Queue
pushing m q = cond (q.free == 0) (false, q) (true, record { frames = q.frames ++ m ∷ []; free = q.free - 1 })

-- the first n gone
abbrev pub releasing : ℕ → Queue → Queue
releasing n q = record { frames = drop n q.frames; free = q.free + min n (length q.frames) }

-- in every room of that many places
abbrev pub Released : ℕ → ℕ → Ring → Ring → Type 0
Released places n r r' = (room : List Frame) → length room ≡ places → queue_of r' room ≡ releasing n (queue_of r room)
