-- The buffered end: frames held above another end.
use Rattle.std.specs.Prelude.{ℕ, ◌+◌, ◌-◌, max, Bool, true, false, cond, ◌&&◌, List, [], ◌∷◌, ◌++◌, length, Ok, Err, fold, Result, ◌==◌, nat_le}
use Rattle.protocol.specs.declared.error.TransportFault.{TransportFault}
use Rattle.protocol.specs.declared.refusal.Refusal.{Refusal}
use Rattle.protocol.specs.declared.refusal.Refusal.TheVariants.{BadRoom}
use Rattle.transport.specs.declared.buffered.BufferedEnd.{BufferedEnd}
use Rattle.transport.specs.Wire.{Message}
use Rattle.transport.specs.Rings.{Queue, pushing}
use Rattle.transport.specs.Lists.{Listed, end_of}
use Rattle.transport.specs.Ends.{End, fault, putting, flushing}
use Rattle.transport.specs.Kept.{Kept}

-- a queue of frames and free places
abbrev pub queue : List Message → ℕ → Queue
queue ms n = record { frames = ms; free = n }

-- the frames that are held, and the places that are free; there is at least one place
abbrev pub held_of : Kept → Queue
held_of k = queue k.frames (max 1 k.capacity - length k.frames)

-- how many places a queue has, taken and free
abbrev pub total : Queue → ℕ
total q = length q.frames + q.free

-- frames held above an end, as one end: their places add to what it holds, the free ones to its room; it is the first
-- layer, or of the height below
abbrev pub over : End → Queue → End
over e q = record {
  waiting = e.waiting;
  read_stop = e.read_stop;
  sent = e.sent ++ q.frames;
  room = e.room + q.free;
  write_stop = e.write_stop;
  hold = e.hold + total q;
  height = e.height + cond (e.hold == 0) 1 0;
}

-- an answer, the end below, and what is held above it
abbrev pub Layers : Type 0
Layers = Result (Unit {0}) TransportFault × End × Queue

-- frames passed down in order, until the end below faults
abbrev pub passed_or : Result (Unit {0}) TransportFault × End → Queue → (End → Layers) → Layers
passed_or (Ok x, e) q go = go e
passed_or (Err f, e) q go = (Err f, e, q)

-- all that is held, one frame after another; each that is taken leaves a free place
abbrev pub pass_down : End → List Message → ℕ → Layers
pass_down e [] n = (Ok tt, e, queue [] n)
pass_down e (m ∷ ms) n = passed_or (putting m e) (queue (m ∷ ms) n) (λ e'. pass_down e' ms (n + 1))

-- the same of a queue
abbrev pub passing : End → Queue → Layers
passing e q = pass_down e q.frames q.free

-- a fault from below as this layer's: "would block" becomes "too big" at layer 1
abbrev pub raised : TransportFault → TransportFault
raised f = cond (f.code == 11) (fault 1 7) f

-- the same of an answer
abbrev pub raised_in : Result (Unit {0}) TransportFault → Result (Unit {0}) TransportFault
raised_in (Ok x) = Ok x
raised_in (Err f) = Err (raised f)

-- a frame is held if there is a place; else frames are passed down and it is tried again
abbrev pub held_or : Bool × Queue → End → (Queue → Layers) → Layers
held_or (true, q) e go = (Ok tt, e, q)
held_or (false, q) e go = go q

-- the second try; where there is still no place the fault from below comes out
abbrev pub hold_again : Message → Layers → Layers
hold_again m (r, e, q) = held_or (pushing m q) e (λ q'. (raised_in r, e, q'))

-- a put through the layer
abbrev pub put_through : Message → End → Queue → Layers
put_through m e q = held_or (pushing m q) e (λ q'. hold_again m (passing e q'))

-- a flush passes all down and flushes the end below; what could not be passed down would block
abbrev pub left_behind : Result (Unit {0}) TransportFault → Result (Unit {0}) TransportFault
left_behind (Ok x) = Ok x
left_behind (Err f) = Err (fault 0 11)

-- the first fault of two answers
abbrev pub and_then : Result (Unit {0}) TransportFault → Result (Unit {0}) TransportFault → Result (Unit {0}) TransportFault
and_then (Ok x) r = r
and_then (Err f) r = Err f

-- the answer of the end below comes first
abbrev pub flushed_below : Layers → Layers
flushed_below (r, e, q) = (and_then (flushing e) (left_behind r), e, q)

-- a flush through the layer
abbrev pub flush_through : End → Queue → Layers
flush_through e q = flushed_below (passing e q)

-- a layer over an end, if it is to hold 1 to 8 frames; else the end comes back
abbrev pub buffering : {E : Type 0} → E → ℕ → Result (E × Queue) (Refusal × E)
buffering lower n = cond (nat_le 1 n && nat_le n 8) (Ok (lower, queue [] n)) (Err (BadRoom, lower))

-- the layer that was made, if one was
abbrev pub layered : {E : Type 0} → Result (BufferedEnd E) (Refusal × E) → Result (E × Queue) (Refusal × E)
layered (Ok b) = Ok (b.lower, held_of b.held)
layered (Err x) = Err x

-- layers over an end, from the bottom up, as one end
abbrev pub stacked : Listed → List Queue → End
stacked l qs = fold over (end_of l) qs
