use Rattle.std.proofs.Common.{rules, tests}
use Rattle.std.proofs.lemmas.Iterator.{YieldsList-from_slice}
use Rattle.protocol.proofs.Totals.{few_from_fold}
use Rattle.protocol.proofs.rules.few_messages.Goals as goal

pub returns : goal.returns
returns c = few_from_fold c.is_some.result (λ a e. search (rules, tests)) (λ f a x e. (search (rules, tests), search (rules, tests))) (λ p q x t. search (rules, tests)) c.args.interfaces.now (YieldsList-from_slice c.args.interfaces.now c.iter.ensures.rest) c.try_fold.ensures.ran
