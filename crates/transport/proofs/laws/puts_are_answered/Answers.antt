use Rattle.transport.proofs.Balances.{put_exactly, full_over_list, full_over_layer}
use Rattle.transport.proofs.laws.puts_are_answered.Goals as goal

pub returns : goal.returns
returns c = record { exactly = put_exactly; list = full_over_list; layer = full_over_layer }
