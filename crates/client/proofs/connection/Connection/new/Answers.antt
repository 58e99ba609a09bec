use Rattle.client.proofs.Promise.{begins}
use Rattle.client.proofs.connection.Connection.new.Goals as goal

pub returns-clause-begins : goal.returns-clause-begins
returns-clause-begins c = begins c.args.number c.args.client.now c.args.server.now _ _ _ c.create.ensures
