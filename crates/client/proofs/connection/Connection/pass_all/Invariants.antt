use Rattle.std.proofs.Common.{◌≡◌, true, take, drop}
use Rattle.object_map.specs.Map.{map_of, fits}
use Rattle.protocol.specs.Descriptions.{message_of}
use Rattle.protocol.specs.Lookups.{table_of}
use Rattle.client.specs.Coded.{passing_of, KeepsConn}
use Rattle.client.specs.Events.{walk, pass_arg, pass_all}
use Rattle.client.proofs.connection.Connection.pass_all.Given as goal

abbrev pub invariant-loop-arg : goal.invariant-loop-arg
invariant-loop-arg l =
    (pass_all (table_of l.table) l.by (message_of l.desc) (map_of l.initial.self.map l.initial.client l.initial.server) l.initial.self.last_serial l.initial.args
    ≡ walk (pass_arg (table_of l.table) l.by (message_of l.desc)) (passing_of l.passing l.self (map_of l.self.map l.client l.server)) (take l.arg-index l.args) (drop l.arg-index l.args))
    × (fits (map_of l.self.map l.client l.server) ≡ true) × KeepsConn l.initial.self l.self
