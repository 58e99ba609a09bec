use Rattle.protocol.proofs.Handles.{same_reflexive, same_symmetric, same_transitive}
use Rattle.protocol.proofs.laws.handles_compare.Goals as goal

pub returns : goal.returns
returns c = record { reflexive = same_reflexive; symmetric = same_symmetric; transitive = same_transitive }
