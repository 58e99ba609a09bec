use Rattle.std.proofs.Common.{sym, rules}
use Rattle.object_map.proofs.Free.{first_free_is}
use Rattle.object_map.specs.Store.{store_of}
use Rattle.object_map.proofs.range.Range.first_free.Goals as goal

-- src/range.rt:126:5
pub returns : goal.returns
returns g c = sym (first_free_is c.loop-index.index (store_of c.args.room.now c.args.self.now.len) c.loop-index.invariant (search rules))
