-- The places that numbers name.
use Rattle.std.proofs.Common.{◌≡◌, ℕ, ◌+◌, ◌<◌, ◌≢◌, Some, None, arith}
use Rattle.std.proofs.lemmas.Bool.Decides.{nat_tests}
use Rattle.object_map.specs.Number.{place}
use Rattle.object_map.specs.declared.number.Place.TheVariants.{Client, Server}

pub place_client : (n i : ℕ) → place n ≡ Some (Client i) → n ≡ i + 1
place_client n i e = grind (arith, nat_tests)

pub place_server : (n i : ℕ) → place n ≡ Some (Server i) → n ≡ 0xFF00_0000 + i
place_server n i e = grind (arith, nat_tests)

pub place_none : (n : ℕ) → place n ≡ None → n ≡ 0
place_none n e = grind (arith, nat_tests)

pub client_place : (i : ℕ) → i + 1 < 0xFF00_0000 → place (i + 1) ≡ Some (Client i)
client_place i h = grind (arith, nat_tests)

-- different numbers name different places
pub place_apart : (k n : ℕ) → k ≢ n → place k ≢ place n
place_apart k n ne e = grind (arith, nat_tests)
