use Rattle.std.proofs.Common.{◌≡◌, length}
use Rattle.object_map.specs.Map.{map_of}
use Rattle.protocol.specs.Lookups.{table_of}
use Rattle.client.specs.Requests.{counting, objects_stand}
use Rattle.client.specs.State.{seen_in}
use Rattle.client.proofs.connection.Connection.check_objects.Given as goal

abbrev pub invariant-loop-kind : goal.invariant-loop-kind
invariant-loop-kind l =
    objects_stand (table_of l.table) (counting l.child (seen_in (map_of l.self.map l.client l.server))) l.desc.arg_interfaces.now l.desc.signature.now l.args
    ≡ objects_stand (table_of l.table) (counting l.child (seen_in (map_of l.self.map l.client l.server))) l.wants l.kinds l.rest

abbrev pub decreases-loop-kind : goal.decreases-loop-kind
decreases-loop-kind l = length l.rest
