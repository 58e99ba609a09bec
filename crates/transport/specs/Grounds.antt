-- What every end owes, proved of the list end and of a layer above an end.
use Rattle.std.specs.Prelude.{◌≡◌, ℕ, ◌<◌, refl}
use Rattle.std.proofs.Common.{arith}
use Rattle.std.proofs.lemmas.Bool.Decides.{nat_tests}
use Rattle.transport.specs.Rings.{Queue}
use Rattle.transport.specs.Ends.{End, Grounded}
use Rattle.transport.specs.Lists.{code_of, stop_of, list_means}
use Rattle.transport.specs.Layers.{total, over, held_of}
use Rattle.transport.specs.declared.list_end.ListEnd.{ListEnd}
use Rattle.transport.specs.Kept.{Kept}

-- a stop is never "would block"
stops_so : (code : ℕ) → stop_of code ≡ 11 → ⊥
stops_so code h = grind (arith, nat_tests)

-- the list end: nothing lies above it
pub list_grounded : (s : ListEnd) → Grounded (list_means s)
list_grounded s = record { low = λ _. refl; reads = stops_so (code_of s.read_stop); stops = stops_so (code_of s.write_stop) }

-- a layer has a place
pub held_some : (k : Kept) → 0 < total (held_of k)
held_some k = omega arith

-- the layer above an end is grounded where that is
pub over_grounded : (e : End) (q : Queue) → Grounded e → 0 < total q → Grounded (over e q)
over_grounded e q g h = record { low = λ z. absurd (omega arith); reads = g.reads; stops = g.stops }
