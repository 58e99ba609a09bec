use Rattle.client.specs.Calls.{resume}
use Rattle.client.specs.State.{moment_of}
use Rattle.client.proofs.Promise.{stands}
use Rattle.client.proofs.connection.Connection.resume.Goals as goal

pub returns-clause-stands : goal.returns-clause-stands
returns-clause-stands c = λ t e. stands t (resume c.args.waiting) (moment_of c.args.self.now c.args.client.now c.args.server.now e) (c.resume_read.ensures t e)
