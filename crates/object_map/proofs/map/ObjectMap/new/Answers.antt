use Rattle.object_map.proofs.Runs.{begins}
use Rattle.object_map.proofs.map.ObjectMap.new.Goals as goal

pub returns : goal.returns
returns g c = let e = c.create.ensures in record { defined = e; begins = begins _ c.args.client.now c.args.server.now _ _ e }
