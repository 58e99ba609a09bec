use Rattle.std.proofs.Common.{arith}
use Rattle.transport.proofs.Rings.{ring_past, ring-get}
use Rattle.transport.proofs.ring.Ring.get.Goals as goal

pub returns-then-i-len : goal.returns-then-i-len
returns-then-i-len c = ring_past c.args.room.now c.args.self.now.head c.args.self.now.count c.args.i (omega arith)

pub returns : goal.returns
returns c = ring-get c.args.room.now c.args.self.now.head c.args.self.now.count c.args.i _ _ (omega arith) c.place_of-at.ensures
