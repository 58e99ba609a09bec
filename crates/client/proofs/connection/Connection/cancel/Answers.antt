use Rattle.client.specs.Calls.{cancel}
use Rattle.client.specs.State.{moment_of}
use Rattle.client.proofs.Promise.{stands}
use Rattle.client.proofs.connection.Connection.cancel.Goals as goal

pub returns-clause-stands : goal.returns-clause-stands
returns-clause-stands c = λ t e. stands t (cancel c.args.intent) (moment_of c.args.self.now c.args.client.now c.args.server.now e) (c.cancel_read.ensures.defined t e)
