use Rattle.client.proofs.Reached.{reused}
use Rattle.client.proofs.laws.numbers_come_back.Goals as goal

pub returns : goal.returns
returns c = reused
