-- The list end: the end at the bottom, over two rooms of frames.
use Rattle.std.specs.Prelude.{ℕ, min, Bool, cond, [], length, Some, None, Option, ◌==◌}
use Rattle.transport.specs.Wire.{Message}
use Rattle.transport.specs.Rings.{Queue, queue_of, pushing, releasing}
use Rattle.transport.specs.Ends.{End, frames}
use Rattle.transport.specs.declared.list_end.ListEnd.{ListEnd}

-- the frames that wait and those that were sent, each with the places that are free behind them
pub record Listed : Type 0 where
  pub incoming : Queue
  pub read_stop : ℕ
  pub outgoing : Queue
  pub write_stop : ℕ

-- a stop as a number: 0 is none
abbrev pub code_of : Option ℕ → ℕ
code_of None = 0
code_of (Some code) = code

-- and back
abbrev pub code_in : ℕ → Option ℕ
code_in code = cond (code == 0) None (Some code)

-- a stop is never "would block": that is read as no stop
abbrev pub stop_of : ℕ → ℕ
stop_of code = cond (code == 11) 0 code

-- what a list end in the code holds
abbrev pub list_of : ListEnd → Listed
list_of s = record { incoming = queue_of s.waiting s.incoming.now; read_stop = stop_of (code_of s.read_stop); outgoing = queue_of s.sent s.outgoing.now; write_stop = stop_of (code_of s.write_stop) }

-- what it means as an end: nothing lies above it, and once writing stopped there is no room
abbrev pub end_of : Listed → End
end_of l = record {
  waiting = frames l.incoming.frames;
  read_stop = l.read_stop;
  sent = l.outgoing.frames;
  room = cond (l.write_stop == 0) l.outgoing.free 0;
  write_stop = l.write_stop;
  hold = 0;
  height = 0;
}

-- and means
abbrev pub list_means : ListEnd → End
list_means s = end_of (list_of s)

-- no frames, and n and m places
abbrev pub fresh : ℕ → ℕ → Listed
fresh n m = record { incoming = record { frames = []; free = n }; read_stop = 0; outgoing = record { frames = []; free = m }; write_stop = 0 }

-- the same end with other frames that wait
abbrev pub with_incoming : Queue → Listed → Listed
with_incoming q l = record { incoming = q; read_stop = l.read_stop; outgoing = l.outgoing; write_stop = l.write_stop }

-- the same end with other sent frames
abbrev pub with_outgoing : Queue → Listed → Listed
with_outgoing q l = record { incoming = l.incoming; read_stop = l.read_stop; outgoing = q; write_stop = l.write_stop }

-- what the world does: a frame arrives, where there is a place
abbrev pub delivering : Message → Listed → Bool × Listed
delivering m l = ((pushing m l.incoming).0, with_incoming (pushing m l.incoming).1 l)

-- the first n sent frames are collected
abbrev pub collecting : ℕ → Listed → ℕ × Listed
collecting n l = (min n (length l.outgoing.frames), with_outgoing (releasing n l.outgoing) l)

-- reading stops, or goes on
abbrev pub stopping_reads : ℕ → Listed → Listed
stopping_reads code l = record { incoming = l.incoming; read_stop = stop_of code; outgoing = l.outgoing; write_stop = l.write_stop }

-- writing stops, or goes on
abbrev pub stopping_writes : ℕ → Listed → Listed
stopping_writes code l = record { incoming = l.incoming; read_stop = l.read_stop; outgoing = l.outgoing; write_stop = stop_of code }
