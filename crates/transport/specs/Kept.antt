-- What a buffered end keeps, as its contracts see it.
use Rattle.std.specs.Prelude.{ℕ, List, length}
use Rattle.transport.specs.Wire.{Message}
use Rattle.transport.specs.Rings.{ring_of}
use Rattle.transport.specs.declared.frame.Frame.{Frame}
use Rattle.transport.specs.declared.ring.Ring.{Ring}

-- frames, and how many there is place for
pub record Kept : Type 0 where
  pub frames : List Message
  pub capacity : ℕ

-- what a ring keeps in a room
abbrev pub kept : Ring → List Frame → Kept
kept r room = record { frames = ring_of r room; capacity = length room }
