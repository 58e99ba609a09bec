-- The core interfaces in a table that keeps every rule.
use Rattle.std.proofs.Common.{◌≡◌, ℕ, ◌<◌, List, length, get_or, sym, ap, ◌∙◌, arith}
use Rattle.std.proofs.lemmas.List.{get_or-take, get_or_past}
use Rattle.std.proofs.lemmas.Bool.{ltb-false}
use Rattle.protocol.specs.Core.{anonymous, core}
use Rattle.protocol.specs.Descriptions.{Description}
use Rattle.protocol.specs.Laws.{CoreFound, OutsideAnonymous}
use Rattle.protocol.specs.Words.{Sound}

at : (t : List Description) (n : ℕ) (d : Description) → Sound t → n < 4 → get_or t n d ≡ get_or core n d
at t n d s h = sym (get_or-take 4 t n d h) ∙ ap (λ (l : List Description). get_or l n d) s.begins

pub core_found : CoreFound
core_found t s = (at t 0 _ s (omega arith), at t 1 _ s (omega arith), at t 2 _ s (omega arith), at t 3 _ s (omega arith))

pub outside_anonymous : OutsideAnonymous
outside_anonymous t n s e = get_or_past t n (get_or t 3 anonymous) (ltb-false n (length t) e) ∙ at t 3 anonymous s (omega arith)
