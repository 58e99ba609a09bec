-- Each case is what the definitions compute.
use Rattle.std.proofs.Common.{refl}
use Rattle.client.specs.Wider.{WiderCases}

pub wider_cases : WiderCases
wider_cases = (
  refl,
  (refl, refl, refl),
  refl,
  refl,
  refl,
  (refl, refl, refl),
  (refl, refl, refl, refl, refl),
  (refl, refl, refl),
  (refl, refl, refl, refl),
  (refl, refl),
  (refl, refl, refl),
  (refl, refl),
  refl,
  (refl, refl, refl),
  (refl, refl, refl, refl, refl, refl),
)
