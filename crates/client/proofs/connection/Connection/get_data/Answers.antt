use Rattle.client.specs.Calls.{get_data}
use Rattle.client.specs.State.{moment_of}
use Rattle.client.proofs.Promise.{stands}
use Rattle.client.proofs.connection.Connection.get_data.Goals as goal

pub returns-clause-stands : goal.returns-clause-stands
returns-clause-stands c = λ t e. stands t (get_data c.args.handle) (moment_of c.args.self.now c.args.client.now c.args.server.now e) (c.data_of.ensures t e)
