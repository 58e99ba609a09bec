use Rattle.std.proofs.Common.{◌≡◌, ℕ, List, [], ◌∷◌, ◌==◌, ◌||◌, ◌&&◌, true, false, refl, arith}
use Rattle.std.proofs.Math.Bool.{not}
use Rattle.std.proofs.lemmas.Grind.{common_steps}
use Rattle.std.specs.List.{list_any}
use Rattle.protocol.specs.Pairwise.{all}
use Rattle.protocol.specs.Rules.{nonzero}
use Rattle.transport.proofs.outgoing.left_after.Goals as goal

not_zero : (bs : List ℕ) → all nonzero bs ≡ not (list_any (λ b. b == 0) bs)
not_zero [] = refl
not_zero (b ∷ bs) = elim (b == 0) as (λ z. (not z && all nonzero bs) ≡ not (z || list_any (λ b. b == 0) bs)) [ true ↦ refl | false ↦ not_zero bs ]

pub returns-in_ok-bytes-in-Str-Some : goal.returns-in_ok-bytes-in-Str-Some
returns-in_ok-bytes-in-Str-Some c = let z = not_zero c.in_ok-bytes-in-Str-Some.bytes.now in let p = c.in_ok-bytes-in-Str-Some.ensures in grind (arith, common_steps)
