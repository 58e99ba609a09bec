use Rattle.std.proofs.Common.{◌≡◌, ◌-◌, min, length, take, drop, ap, arith, length-drop, length-take}
use Rattle.transport.proofs.Rooms.{part_wanted, copied}
use Rattle.transport.proofs.layout.copy_span.Goals as goal

pub returns : goal.returns
returns c =
    let text = c.args.text.now in
    let start = c.min.result in
    let behind = take (length text - start) (drop start text) in
    let size = length-take (length text - start) (drop start text) in
    let more = length-drop start text in
    let n : c.min-3.result ≡ min (min c.args.span.len (length text - start)) (1024 - c.args.at) = omega arith in
    let part = part_wanted text c.args.span.start c.args.span.len (1024 - c.args.at) start c.min-3.result c.min.ensures n in
    record { fits = omega (arith, length-take c.min-3.result behind); len = ap length part; room = copied c.args.at c.args.room.now _ _ _ c.copy_from_slice.ensures.after part }
