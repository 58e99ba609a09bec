use Rattle.client.proofs.Whole.{law_over_runs}
use Rattle.client.proofs.laws.law_over_runs.Goals as goal

pub returns : goal.returns
returns c = law_over_runs
