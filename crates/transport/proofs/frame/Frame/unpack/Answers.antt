use Rattle.std.proofs.Common.{take, sym, ◌∙◌, arith}
use Rattle.transport.proofs.Frames.{held_plain, fits_few, unpacked_so, malformed_so}
use Rattle.transport.proofs.frame.Frame.unpack.Goals as goal

pub returns-then-not-accepts_all : goal.returns-then-not-accepts_all
returns-then-not-accepts_all c =
    malformed_so c.args.args.now c.args.text.now _ c.args.signature.now
    (fits_few c.args.self.now.count c.args.self.now.text c.args.signature.now c.args.self.now.args _ (omega arith) c.in_use.ensures ∙ sym c.if-not-accepts_all.ensures)

pub returns : goal.returns
returns c =
    unpacked_so c.args.args.now c.args.text.now _ _
    (held_plain (take c.args.self.now.count c.args.self.now.args) _ c.args.self.now.text c.in_use-2.ensures) _ _ _ c.lay.ensures c.args.signature.now
    (fits_few c.args.self.now.count c.args.self.now.text c.args.signature.now c.args.self.now.args _ (omega arith) c.in_use.ensures ∙ sym c.if-not-accepts_all.ensures)
