use Rattle.std.proofs.Common.{rules}
use Rattle.client.specs.State.{with_data}
use Rattle.client.proofs.Changes.{changed_by}
use Rattle.client.proofs.connection.Connection.give_data.Goals as goal

pub returns : goal.returns
returns c = changed_by (with_data c.args.«data») (λ r r' found gives. search rules) c.update.ensures c.requires
