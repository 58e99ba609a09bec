-- Object numbers.
use Rattle.std.specs.Prelude.{ℕ, ◌-◌, cond, Some, None, Option, ◌==◌, nat_lt}
use Rattle.object_map.specs.declared.number.Place.{Place}
use Rattle.object_map.specs.declared.number.Place.TheVariants.{Client, Server}

-- 0 names no slot, client slot i has the number i + 1, server slot i the number 0xFF000000 + i
abbrev pub place : ℕ → Option Place
place n = cond (n == 0) None (cond (nat_lt n 0xFF00_0000) (Some (Client (n - 1))) (Some (Server (n - 0xFF00_0000))))
