use Rattle.transport.proofs.Balances.{clipped_once}
use Rattle.transport.proofs.laws.frames_pass_whole.Goals as goal

pub returns : goal.returns
returns c = clipped_once
