use Rattle.client.specs.Calls.{settle}
use Rattle.client.specs.State.{moment_of}
use Rattle.client.proofs.Promise.{stands}
use Rattle.client.proofs.connection.Connection.settle.Goals as goal

pub returns-clause-stands : goal.returns-clause-stands
returns-clause-stands c = λ t e. stands t (settle c.args.event c.args.«data») (moment_of c.args.self.now c.args.client.now c.args.server.now e) (c.settle_event.ensures.defined t e)
