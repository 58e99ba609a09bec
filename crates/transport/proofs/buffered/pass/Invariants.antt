use Rattle.std.proofs.Common.{◌≡◌, length}
use Rattle.transport.specs.Layers.{held_of, passing}
use Rattle.transport.proofs.buffered.pass.Given as goal

abbrev pub invariant-loop-frame : goal.invariant-loop-frame
invariant-loop-frame g l = passing (g.E.Transport.means l.initial.lower) (held_of l.initial.held) ≡ passing (g.E.Transport.means l.lower) (held_of l.held)

abbrev pub decreases-loop-frame : goal.decreases-loop-frame
decreases-loop-frame g l = length (held_of l.held).frames
