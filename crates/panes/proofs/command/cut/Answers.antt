use Rattle.std.proofs.Common.{sym, ◌∙◌, rules}
use Rattle.std.proofs.lemmas.Iterator.{YieldsList-from_slice}
use Rattle.std.proofs.lemmas.Iterator.Search.{position_from_yields_List}
use Rattle.panes.specs.Lines.{is_space}
use Rattle.panes.proofs.Texts.{at_space, no_space}
use Rattle.panes.proofs.command.cut.Goals as goal

pub returns-in-Some : goal.returns-in-Some
returns-in-Some c =
    let e = position_from_yields_List is_space _ _ _ c.position.ensures.ran (YieldsList-from_slice c.args.line.now c.iter.ensures.rest) (λ x b q k. search rules) in
    let cuts = at_space c.args.line.now c.in-Some.end (sym e ∙ c.in-Some.is) in
    record { first = cuts.0; after = cuts.1 }

pub returns-in-None : goal.returns-in-None
returns-in-None c =
    let e = position_from_yields_List is_space _ _ _ c.position.ensures.ran (YieldsList-from_slice c.args.line.now c.iter.ensures.rest) (λ x b q k. search rules) in
    let cuts = no_space c.args.line.now (sym e ∙ c.in-None.is) in
    record { first = cuts.0; after = cuts.1 }
