-- Each case is what the definitions compute.
use Rattle.std.proofs.Common.{refl}
use Rattle.client.specs.Cases.{WorkedCases}

pub worked_cases : WorkedCases
worked_cases = ((refl, refl), (refl, refl, refl), refl, (refl, refl, refl, refl), (refl, refl), (refl, refl, refl), (refl, refl, refl), refl, (refl, refl, refl))
