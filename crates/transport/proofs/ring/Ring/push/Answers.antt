use Rattle.std.proofs.Common.{ℕ, ◌+◌, true, set, ap, ◌∙◌, arith}
use Rattle.transport.specs.Rings.{queue_of}
use Rattle.transport.proofs.Rings.{ring-push}
use Rattle.transport.proofs.ring.Ring.push.Goals as goal

pub returns : goal.returns
returns c =
    ap (λ (k : ℕ). (true, queue_of (record { head = c.args.self.now.head; count = c.args.self.now.count + 1 }) (set c.args.room.now k c.set.new.self))) c.place_of-i.ensures
    ∙ ring-push c.args.room.now c.args.self.now.head c.args.self.now.count c.set.new.self _ (omega arith) c.set.ensures
