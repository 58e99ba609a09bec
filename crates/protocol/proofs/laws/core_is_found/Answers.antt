use Rattle.protocol.proofs.CoreFound.{core_found, outside_anonymous}
use Rattle.protocol.proofs.laws.core_is_found.Goals as goal

pub returns : goal.returns
returns c = record { inside = core_found; outside = outside_anonymous }
