use Rattle.protocol.specs.Lookups.{table_of}
use Rattle.client.specs.Calls.{send_request}
use Rattle.client.specs.Coded.{request_of}
use Rattle.client.specs.State.{moment_of}
use Rattle.client.proofs.Promise.{stands}
use Rattle.client.proofs.connection.Connection.send_request.Goals as goal

pub returns-clause-stands : goal.returns-clause-stands
returns-clause-stands g c = stands (table_of c.args.table.now) (send_request (request_of c.args.request.now)) (moment_of c.args.self.now c.args.client.now c.args.server.now (g.E.Transport.means c.args.end.now)) c.send.ensures
