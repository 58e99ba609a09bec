-- That the law speaks of something: a run in which a number is used again.
use Rattle.std.specs.Prelude.{◌≡◌, ℕ, true, false, [], ◌∷◌, Some}
use Rattle.protocol.specs.Core.{core}
use Rattle.protocol.specs.Lookups.{display_id}
use Rattle.protocol.specs.Words.{Sound}
use Rattle.client.specs.Cases.{callback, destroyed_callback}
use Rattle.client.specs.Course.{reckon}
use Rattle.client.specs.Ledger.{Ledger}
use Rattle.client.specs.Requests.{child_of}
use Rattle.client.specs.Runs.{History, Run, display_object}
use Rattle.client.specs.State.{Moment}

-- the tenancies of the display and of two callbacks at the number 2, of which the first is over
abbrev pub tenancies : Ledger
tenancies =
    record { number = 2; object = child_of (record { interface = 2; version = 1 }) 6 2; over = false }
    ∷ record { number = 2; object = destroyed_callback 5 1; over = true }
    ∷ record { number = 1; object = display_object; over = false } ∷ []

-- the core is a table that keeps every rule, and by some run over it the handle of the first callback was given for one
-- tenancy of the number 2, that of the second for another; two serials were drawn
abbrev pub Reused : Type 0
Reused =
    Sound core
    × ((h : History) × ((m : Moment) × (Run core h m
    × ((reckon core h).given ≡ (callback 2 2, Some 2) ∷ (callback 2 1, Some 1) ∷ (callback 2 1, Some 1) ∷ (callback 2 1, Some 1) ∷ (display_id, Some 0) ∷ [])
    × ((reckon core h).ledger ≡ tenancies)
    × (◌≡◌ {A = ℕ} (reckon core h).drawn 2))))
