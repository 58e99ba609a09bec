-- One layer more over a stack.
use Rattle.std.specs.Prelude.{◌≡◌, List, [], ◌∷◌, ◌++◌}
use Rattle.std.proofs.Common.{sym, ap, ◌∙◌}
use Rattle.std.proofs.lemmas.List.Sums.{fold_push}
use Rattle.transport.specs.Rings.{Queue}
use Rattle.transport.specs.Ends.{End}
use Rattle.transport.specs.Lists.{Listed, end_of}
use Rattle.transport.specs.Layers.{over, stacked}

-- what it means is the stack with what it holds on top
pub stacked_more : (q : Queue) (e : End) (l : Listed) (qs : List Queue) → e ≡ stacked l qs → over e q ≡ stacked l (qs ++ q ∷ [])
stacked_more q e l qs h = ap (λ (x : End). over x q) h ∙ sym (fold_push over (end_of l) qs q)
