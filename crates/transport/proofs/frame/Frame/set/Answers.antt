use Rattle.std.proofs.Common.{map, ap}
use Rattle.transport.specs.Wire.{message, given}
use Rattle.transport.specs.Layout.{args_of}
use Rattle.transport.proofs.Frames.{held_back}
use Rattle.transport.proofs.frame.Frame.set.Goals as goal

pub returns : goal.returns
returns c =
    ap (message c.args.message.now.sender c.args.message.now.opcode)
    (held_back (map (given c.args.message.now.child) (args_of c.args.message.now.args.now c.args.message.now.text.now)) _ _ _ _ _ c.lay-self.ensures)
