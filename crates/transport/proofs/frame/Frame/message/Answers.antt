use Rattle.std.proofs.Common.{take, ap}
use Rattle.transport.specs.Wire.{message}
use Rattle.transport.proofs.Frames.{held_plain}
use Rattle.transport.proofs.frame.Frame.message.Goals as goal

pub returns : goal.returns
returns c = ap (message c.args.self.now.sender c.args.self.now.opcode) (held_plain (take c.args.self.now.count c.args.self.now.args) _ c.args.self.now.text c.in_use.ensures)
