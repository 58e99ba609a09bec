use Rattle.client.proofs.Standard.{standard_over_runs}
use Rattle.client.proofs.laws.standard_over_runs.Goals as goal

pub returns : goal.returns
returns c = standard_over_runs
