use Rattle.std.proofs.Common.{ap}
use Rattle.object_map.specs.Runs.{insert_new_call}
use Rattle.object_map.proofs.Calls.{inserts_new}
use Rattle.object_map.proofs.Runs.{stands}
use Rattle.object_map.proofs.map.ObjectMap.client_insert_new.Goals as goal

pub returns : goal.returns
returns g c =
    let e = c.client_insert_new.ensures.defined in
    record { defined = e; puts = inserts_new c.args.«record» _ _ _ c.client_insert_new.ensures.places e; stands = stands (insert_new_call c.args.«record») _ _ (ap (λ d. d.1) e) }
