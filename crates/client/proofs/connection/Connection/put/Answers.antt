use Rattle.std.proofs.Common.{ap, ◌∙◌, refl}
use Rattle.transport.specs.Drafts.{spoken}
use Rattle.transport.specs.Wire.{clipped}
use Rattle.transport.specs.Ends.{putting}
use Rattle.client.specs.Calls.{with_put}
use Rattle.client.specs.State.{conn_of}
use Rattle.client.proofs.connection.Connection.put.Goals as goal

pub returns-in_default : goal.returns-in_default
returns-in_default g c =
    let m = g.E.Transport.means c.args.end.now in
    let e = c.in_default.ensures.defined ∙ ap (λ d. putting (clipped (spoken d)) m) c.with_child.ensures in
    (ap (λ r. with_put r.0 (conn_of c.args.self.now)) e, refl, ap (λ r. r.1) e)
