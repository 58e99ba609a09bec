-- What an update of the map by a known function leaves, over rooms of the right lengths.
use Rattle.std.proofs.Common.{◌≡◌, ℕ, true, Err, Some, Ok, Result, ap, ◌∙◌}
use Rattle.std.proofs.lemmas.Bool.{cond-true}
use Rattle.object_map.proofs.Updates.{updates_known}
use Rattle.object_map.specs.Map.{Map, fits, finding, update_at}
use Rattle.object_map.specs.Number.{place}
use Rattle.object_map.specs.Runs.{UpdatesBy}
use Rattle.object_map.specs.declared.refusal.Refusal.{Refusal}
use Rattle.object_map.specs.declared.refusal.Refusal.TheVariants.{Rooms}
use Rattle.client.specs.State.{changed_at}
use Rattle.client.specs.declared.object.Object.{Object}

pub changed_by : {may_give : Object → Object → Type 0} {n : ℕ} {m m' : Map Object} {a : Result (Unit {0}) Refusal} (g : Object → Object) → ((r r' : Object) → finding n m ≡ Ok (Some r) → may_give r r' → r' ≡ g r) → UpdatesBy may_give n m a m' → fits m ≡ true → m' ≡ changed_at g n m
changed_by {n = n} {m = m} {m' = m'} {a = a} g k u fit =
    let w = updates_known g k u in
    let p : (a, m') ≡ update_at g (place n) m = w.defined ∙ cond-true (fits m) (update_at g (place n) m) (Err Rooms, m) fit in
    ap (λ x. x.1) p
