use Rattle.transport.proofs.Rings.{ring-release}
use Rattle.transport.proofs.ring.Ring.release.Goals as goal

pub returns : goal.returns
returns c room same =
    ring-release room c.args.self.now.head c.args.self.now.count c.args.n c.args.places c.len-len.result c.min-gone.result _ same c.len-len.ensures c.min-gone.ensures c.place_of-self.ensures
