use Rattle.std.proofs.Common.{ap}
use Rattle.object_map.specs.Runs.{insert_at_call}
use Rattle.object_map.proofs.Calls.{inserts}
use Rattle.object_map.proofs.Runs.{stands}
use Rattle.object_map.proofs.map.ObjectMap.insert_at.Goals as goal

pub returns : goal.returns
returns g c =
    let e = c.insert_at.ensures in
    record { defined = e; puts = inserts c.args.id c.args.«record» _ _ _ e; stands = stands (insert_at_call c.args.id c.args.«record») _ _ (ap (λ d. d.1) e) }
