-- A name without a zero byte.
use Rattle.std.proofs.Common.{◌≡◌, ℕ, Bool, true, false, not, ◌&&◌, ◌||◌, eqb, List, [], ◌∷◌, refl, ap, ◌∙◌}
use Rattle.std.specs.List.{list_any}
use Rattle.protocol.specs.Pairwise.{all}
use Rattle.protocol.specs.Rules.{nonzero}

either : (p q : Bool) → (not p && not q) ≡ not (p || q)
either true q = refl
either false q = refl

pub none_zero : (bs : List ℕ) → all nonzero bs ≡ not (list_any (λ b. eqb b 0) bs)
none_zero [] = refl
none_zero (b ∷ bs) = ap (λ (r : Bool). nonzero b && r) (none_zero bs) ∙ either (eqb b 0) (list_any (λ a. eqb a 0) bs)
