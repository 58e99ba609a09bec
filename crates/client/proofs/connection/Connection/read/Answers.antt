use Rattle.client.specs.Calls.{read}
use Rattle.client.specs.State.{moment_of}
use Rattle.client.proofs.Promise.{stands}
use Rattle.client.proofs.connection.Connection.read.Goals as goal

pub returns-clause-stands : goal.returns-clause-stands
returns-clause-stands c = λ t e. stands t (read c.args.intent) (moment_of c.args.self.now c.args.client.now c.args.server.now e) (c.begin_read.ensures.defined t e)
