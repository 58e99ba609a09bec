use Rattle.std.proofs.Common.{rules}
use Rattle.client.specs.State.{client_marked}
use Rattle.client.proofs.Changes.{changed_by}
use Rattle.client.proofs.connection.Connection.mark_client.Goals as goal

pub returns : goal.returns
returns c = changed_by client_marked (λ r r' found gives. search rules) c.update.ensures c.requires
