use Rattle.std.proofs.Common.{take}
use Rattle.transport.proofs.Frames.{held_plain, read_so}
use Rattle.transport.proofs.frame.Frame.read.Goals as goal

pub returns : goal.returns
returns c =
    read_so c.args.args.now c.args.text.now _ _
    (held_plain (take c.args.self.now.count c.args.self.now.args) _ c.args.self.now.text c.in_use.ensures) _ _ _ c.lay.ensures c.in_ok-check_rooms.ensures
