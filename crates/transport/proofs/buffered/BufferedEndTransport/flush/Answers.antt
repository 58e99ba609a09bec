use Rattle.std.proofs.Common.{rules, ◌≡◌}
use Rattle.transport.specs.Layers.{held_of, Layers, flush_through}
use Rattle.transport.specs.Grounds.{over_grounded, held_some}
use Rattle.transport.proofs.Layers.{flush_over}
use Rattle.transport.proofs.buffered.BufferedEndTransport.flush.Goals as goal

pub returns-in_err-flush : goal.returns-in_err-flush
returns-in_err-flush g c =
    let e = g.E.Transport.means c.args.self.now.lower in
    let q = held_of c.args.self.now.held in
    let t : Layers = (c.from_residual.result, g.E.Transport.means c.flush.new.self, held_of c.pass-passed.new.held) in
    let layers : t ≡ flush_through e q = search rules in
    let over = flush_over t e q layers in
    record { layers = layers; same = over.0; answer = over.1; grounded = over_grounded e q (g.met.E.Transport.grounded c.args.self.now.lower) (held_some c.args.self.now.held) }

pub returns : goal.returns
returns g c =
    let e = g.E.Transport.means c.args.self.now.lower in
    let q = held_of c.args.self.now.held in
    let t : Layers = (c.map_err.result, g.E.Transport.means c.flush.new.self, held_of c.pass-passed.new.held) in
    let layers : t ≡ flush_through e q = search rules in
    let over = flush_over t e q layers in
    record { layers = layers; same = over.0; answer = over.1; grounded = over_grounded e q (g.met.E.Transport.grounded c.args.self.now.lower) (held_some c.args.self.now.held) }
