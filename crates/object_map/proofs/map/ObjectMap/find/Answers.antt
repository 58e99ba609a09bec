use Rattle.std.proofs.Common.{refl}
use Rattle.object_map.specs.Runs.{find_call}
use Rattle.object_map.proofs.Runs.{stands}
use Rattle.object_map.proofs.map.ObjectMap.find.Goals as goal

pub returns : goal.returns
returns g c = record { defined = c.find.ensures; stands = stands (find_call c.args.id) _ _ refl }
