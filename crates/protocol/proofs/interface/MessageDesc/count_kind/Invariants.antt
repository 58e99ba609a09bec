use Rattle.std.proofs.Common.{◌≡◌, ◌≤◌, take, count_by}
use Rattle.protocol.specs.Arguments.{same_type}
use Rattle.protocol.proofs.interface.MessageDesc.count_kind.Given as goal

abbrev pub invariant-loop-k : goal.invariant-loop-k
invariant-loop-k l = (l.count ≡ count_by (same_type l.kind) (take l.k-index l.self.signature.now)) × (l.count ≤ l.k-index)
