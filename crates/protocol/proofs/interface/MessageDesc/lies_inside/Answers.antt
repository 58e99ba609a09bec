use Rattle.std.proofs.Common.{◌≡◌, Bool, true, ◌&&◌, sym, ap, ◌∙◌, tests, rules}
use Rattle.std.proofs.lemmas.Iterator.{YieldsList-from_slice}
use Rattle.std.proofs.lemmas.Iterator.Search.{all_from_yields_List}
use Rattle.protocol.specs.Pairwise.{all}
use Rattle.protocol.specs.Rules.{is_below, child_inside}
use Rattle.protocol.proofs.interface.MessageDesc.lies_inside.Goals as goal

pub returns-then-is_none_or : goal.returns-then-is_none_or
returns-then-is_none_or c =
    let k : child_inside c.args.count c.args.self.now.child_interface ≡ true = search rules in
    all_from_yields_List (is_below c.args.count) _ _ _ c.all.ensures.ran (YieldsList-from_slice c.args.self.now.arg_interfaces.now cc) (λ x b q k. search (rules, tests))
    ∙ ap (λ (b : Bool). b && all (is_below c.args.count) c.args.self.now.arg_interfaces.now) (sym k)
