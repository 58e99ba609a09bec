use Rattle.client.specs.Calls.{set_data}
use Rattle.client.specs.State.{moment_of}
use Rattle.client.proofs.Promise.{stands}
use Rattle.client.proofs.connection.Connection.set_data.Goals as goal

pub returns-clause-stands : goal.returns-clause-stands
returns-clause-stands c = λ t e. stands t (set_data c.args.handle c.args.«data») (moment_of c.args.self.now c.args.client.now c.args.server.now e) (c.set_data_of.ensures t e)
