use Rattle.std.proofs.Common.{ap}
use Rattle.object_map.specs.Runs.{remove_call}
use Rattle.object_map.proofs.Calls.{removes}
use Rattle.object_map.proofs.Runs.{stands}
use Rattle.object_map.proofs.map.ObjectMap.remove.Goals as goal

pub returns : goal.returns
returns g c =
    let e = c.remove.ensures in
    record { defined = e; empties = removes c.args.id _ _ _ e; stands = stands (remove_call c.args.id) _ _ (ap (λ d. d.1) e) }
