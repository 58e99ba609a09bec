use Rattle.std.proofs.Common.{rules, tests, ◌∙◌}
use Rattle.std.proofs.lemmas.Iterator.{YieldsList-from_slice}
use Rattle.transport.proofs.Sending.{sendable_so}
use Rattle.transport.proofs.outgoing.all_sendable.Goals as goal

pub returns : goal.returns
returns c =
    c.is_some.ensures ∙ sendable_so _ _ _ c.args.text.now (λ n x v q k. search (rules, tests)) (YieldsList-from_slice c.args.args.now cc) 1024 c.try_fold.result {u = c.try_fold.new.self} c.try_fold.ensures.ran
