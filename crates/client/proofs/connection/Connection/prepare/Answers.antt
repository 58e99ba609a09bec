use Rattle.client.specs.Calls.{prepare}
use Rattle.client.specs.State.{moment_of}
use Rattle.client.proofs.Promise.{stands}
use Rattle.client.proofs.connection.Connection.prepare.Goals as goal

pub returns-clause-stands : goal.returns-clause-stands
returns-clause-stands c = λ t e. stands t prepare (moment_of c.args.self.now c.args.client.now c.args.server.now e) (c.prepare_read.ensures t e)
