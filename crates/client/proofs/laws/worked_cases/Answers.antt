use Rattle.client.proofs.Cases.{worked_cases}
use Rattle.client.proofs.Wider.{wider_cases}
use Rattle.client.proofs.laws.worked_cases.Goals as goal

pub returns : goal.returns
returns c = record { core = worked_cases; wider = wider_cases }
