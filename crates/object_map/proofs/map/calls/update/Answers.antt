use Rattle.std.proofs.Common.{rules}
use Rattle.object_map.specs.Map.{map_of}
use Rattle.object_map.specs.Store.{store_of}
use Rattle.object_map.proofs.Updates.{refused_by, nowhere_by, client_by, server_by}
use Rattle.object_map.proofs.map.calls.update.Goals as goal

pub returns-in_err-check_rooms : goal.returns-in_err-check_rooms
returns-in_err-check_rooms g c = refused_by c.args.id (map_of c.args.map.now c.args.client.now c.args.server.now) c.from_residual.result (search rules) (search rules)

pub returns-in-None : goal.returns-in-None
returns-in-None g c = nowhere_by c.args.id (map_of c.args.map.now c.args.client.now c.args.server.now) (search rules) (search rules)

pub returns-in-Some-Client : goal.returns-in-Some-Client
returns-in-Some-Client g c =
    client_by c.args.id c.in-Some-Client.index (map_of c.args.map.now c.args.client.now c.args.server.now) c.update.result (store_of c.update.new.room c.args.map.now.client.len) (search rules) (search rules) c.update.ensures

pub returns-in-Some-Server : goal.returns-in-Some-Server
returns-in-Some-Server g c =
    server_by c.args.id c.in-Some-Server.index (map_of c.args.map.now c.args.client.now c.args.server.now) c.update-in-Some-Server.result (store_of c.update-in-Some-Server.new.room c.args.map.now.server.len) (search rules) (search rules) c.update-in-Some-Server.ensures
