use Rattle.std.proofs.Common.{◌≡◌, ℕ, ◌-◌, ◌<◌, true, is_some}
use Rattle.object_map.specs.Store.{store_of, at}
use Rattle.object_map.proofs.range.Range.first_free.Given as goal

-- the places passed are occupied
abbrev pub invariant-loop-index : goal.invariant-loop-index
invariant-loop-index g l = (k : ℕ) → k < l.index → is_some (at k (store_of l.room l.self.len)) ≡ true

abbrev pub decreases-loop-index : goal.decreases-loop-index
decreases-loop-index g l = l.self.len - l.index
