use Rattle.std.proofs.Common.{◌≡◌}
use Rattle.transport.proofs.Lays.{values, laying, so_far}
use Rattle.transport.proofs.layout.lay.Given as goal

abbrev pub invariant-loop-i : goal.invariant-loop-i
invariant-loop-i l = (l.end, l.places, l.room) ≡ laying (so_far (values l.args l.text l.child) l.i) l.initial.places l.initial.room
