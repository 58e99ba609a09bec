use Rattle.protocol.specs.Lookups.{table_of}
use Rattle.client.specs.Calls.{next}
use Rattle.client.specs.Coded.{rooms_in}
use Rattle.client.specs.State.{moment_of}
use Rattle.client.proofs.Promise.{stands}
use Rattle.client.proofs.connection.Connection.next.Goals as goal

pub returns-clause-stands : goal.returns-clause-stands
returns-clause-stands g c = stands (table_of c.args.table.now) (next c.args.round (rooms_in c.args.args.now c.args.text.now c.args.fault_text.now)) (moment_of c.args.self.now c.args.client.now c.args.server.now (g.E.Transport.means c.args.end.now)) c.next_event.ensures.defined
