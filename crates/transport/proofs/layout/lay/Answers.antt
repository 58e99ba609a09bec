use Rattle.std.proofs.Common.{take, arith, length-take}
use Rattle.transport.proofs.Lays.{args_more, args_all, end_fits}
use Rattle.transport.proofs.layout.lay.Goals as goal

pub lay_one-requires-clause-at : goal.lay_one-requires-clause-at
lay_one-requires-clause-at c = end_fits (take c.min.result c.args.args.now) c.args.text.now c.args.child c.args.places.now c.args.room.now c.loop-i.i _ _ _ c.loop-i.invariant

pub loop-i-preserved : goal.loop-i-preserved
loop-i-preserved c =
    args_more (take c.min.result c.args.args.now) c.args.text.now c.args.child c.args.places.now c.args.room.now c.loop-i.i _ _ _ _ _ _ _
    c.loop-i-test.true (omega (arith, length-take c.min.result c.args.args.now)) c.loop-i.invariant c.lay_one.ensures

pub returns : goal.returns
returns c =
    args_all c.args.args.now c.args.text.now c.args.child c.args.places.now c.args.room.now c.min.result c.loop-i.i _ _ _
    c.min.ensures (omega arith) c.loop-i.invariant
