use Rattle.std.proofs.Common.{◌∙◌, tests, rules, arith}
use Rattle.std.proofs.lemmas.Iterator.{YieldsList-from_slice, YieldsList-from_zip}
use Rattle.std.proofs.lemmas.Iterator.Consumers.{YieldsList-at}
use Rattle.std.proofs.lemmas.Iterator.Search.{all_from_yields_List}
use Rattle.protocol.specs.Arguments.{same_type, type_of}
use Rattle.protocol.proofs.Pairs.{alike_from_zip}
use Rattle.protocol.proofs.argument.kinds_agree.Goals as goal

pub returns : goal.returns
returns g c =
    all_from_yields_List (λ p. same_type (type_of p.1) p.0) c.all.new.self _ c.all.result c.all.ensures.ran (YieldsList-from_zip (YieldsList-at c.zip.ensures.first (YieldsList-from_slice c.args.signature.now c.iter.ensures.rest)) (YieldsList-from_slice c.args.args.now c.zip.ensures.second.0)) (λ x b q k. search (rules, tests))
    ∙ alike_from_zip (λ t a. same_type (type_of a) t) c.args.signature.now c.args.args.now c.requires
