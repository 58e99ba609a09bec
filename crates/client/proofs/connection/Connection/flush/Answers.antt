use Rattle.client.specs.Calls.{flush}
use Rattle.client.specs.State.{moment_of}
use Rattle.client.proofs.Promise.{stands}
use Rattle.client.proofs.connection.Connection.flush.Goals as goal

pub returns-clause-stands : goal.returns-clause-stands
returns-clause-stands g c = λ t. stands t flush (moment_of c.args.self.now c.args.client.now c.args.server.now (g.E.Transport.means c.args.end.now)) (c.flush_end.ensures t)
