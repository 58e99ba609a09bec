use Rattle.protocol.proofs.Damage.{core_accepted}
use Rattle.protocol.proofs.laws.core_is_accepted.Goals as goal

pub returns : goal.returns
returns c = core_accepted
