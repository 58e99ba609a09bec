use Rattle.std.proofs.Common.{rules, ◌≡◌, Ok}
use Rattle.transport.specs.Drafts.{outgoing_of}
use Rattle.transport.specs.Layers.{held_of, Layers, over, put_through}
use Rattle.transport.specs.Grounds.{over_grounded, held_some}
use Rattle.transport.proofs.Layers.{put_over, ground_if}
use Rattle.transport.proofs.buffered.BufferedEndTransport.put.Goals as goal

pub returns-then-push-2 : goal.returns-then-push-2
returns-then-push-2 g c =
    let m = outgoing_of c.args.message.now in
    let e = g.E.Transport.means c.args.self.now.lower in
    let q = held_of c.args.self.now.held in
    let t : Layers = (Ok tt, g.E.Transport.means c.pass-passed.new.lower, held_of c.push-2.new.self) in
    let layers : t ≡ put_through m e q = search rules in
    let low = g.met.E.Transport.grounded c.args.self.now.lower in
    let some = held_some c.args.self.now.held in
    record { layers = layers; defined = put_over m e q low some t layers; grounded = tt }

pub returns : goal.returns
returns g c =
    let m = outgoing_of c.args.message.now in
    let e = g.E.Transport.means c.args.self.now.lower in
    let q = held_of c.args.self.now.held in
    let t : Layers = (c.map_err.result, g.E.Transport.means c.pass-passed.new.lower, held_of c.push-2.new.self) in
    let layers : t ≡ put_through m e q = search rules in
    let low = g.met.E.Transport.grounded c.args.self.now.lower in
    let some = held_some c.args.self.now.held in
    record { layers = layers; defined = put_over m e q low some t layers; grounded = ground_if c.map_err.result (over e q) (over_grounded e q low some) }
