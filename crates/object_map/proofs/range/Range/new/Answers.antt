use Rattle.std.proofs.Common.{None, refl, ◌∙◌, rules}
use Rattle.std.proofs.lemmas.Simd.{splat_is_map}
use Rattle.object_map.proofs.range.Range.new.Goals as goal

pub returns-clause-empties : goal.returns-clause-empties
returns-clause-empties g c = c.fill.ensures.after (λ y h. search rules) ∙ splat_is_map c.args.room.now _ None refl
