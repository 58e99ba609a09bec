use Rattle.std.proofs.Common.{vec_len}
use Rattle.replay.proofs.hand.Hand.end.Given as goal

abbrev pub decreases-loop-intent : goal.decreases-loop-intent
decreases-loop-intent l = vec_len l.intents
