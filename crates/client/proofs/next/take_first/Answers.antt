use Rattle.std.proofs.Common.{◌++◌, drop, subst, sym}
use Rattle.client.specs.Coded.{TakesAs}
use Rattle.client.proofs.Takings.{takes}
use Rattle.client.proofs.next.take_first.Goals as goal

pub returns : goal.returns
returns g c =
    let m = g.E.Transport.means c.args.end.now in
    let n = g.E.Transport.means c.take.new.self in
    let w = takes c.args.signature.now m n c.args.args.now c.take.new.args c.args.text.now c.take.new.text c.take.result c.requires.args c.requires.text c.take.auto.text c.take.ensures in
    subst (λ o. TakesAs c.args.signature.now m c.args.args.now c.args.text.now o n c.take.new.args (c.take.new.text ++ drop 1024 c.args.text.now)) (sym c.ok.ensures.value) w
