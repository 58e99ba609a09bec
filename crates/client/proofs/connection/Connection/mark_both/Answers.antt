use Rattle.std.proofs.Common.{rules}
use Rattle.client.specs.State.{both_marked}
use Rattle.client.proofs.Changes.{changed_by}
use Rattle.client.proofs.connection.Connection.mark_both.Goals as goal

pub returns-clause-slots : goal.returns-clause-slots
returns-clause-slots c = changed_by both_marked (λ r r' found gives. search rules) c.update.ensures c.requires
