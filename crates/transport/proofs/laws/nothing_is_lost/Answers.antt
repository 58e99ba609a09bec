use Rattle.transport.proofs.Balances.{nothing_lost, in_order, flushed_empty}
use Rattle.transport.proofs.laws.nothing_is_lost.Goals as goal

pub returns : goal.returns
returns c = record { lost = nothing_lost; order = in_order; flushed = flushed_empty }
