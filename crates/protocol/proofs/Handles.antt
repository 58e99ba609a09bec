-- Handles compare as an equivalence.
use Rattle.std.proofs.Common.{◌≡◌, List, Decides, sym, refl, ◌∙◌}
use Rattle.std.proofs.lemmas.Slice.Eq.{bytes_eq-Decides}
use Rattle.std.proofs.lemmas.Bool.Decides.{Decides-and, Decides-eqb}
use Rattle.protocol.specs.Descriptions.{Description}
use Rattle.protocol.specs.Laws.{SameReflexive, SameSymmetric, SameTransitive}
use Rattle.protocol.specs.Lookups.{name_at, same_object}
use Rattle.protocol.specs.declared.id.ObjectId.{ObjectId}

same_decides : (t : List Description) (a b : ObjectId) → Decides (same_object t a b) ((a.number ≡ b.number) × ((a.serial ≡ b.serial) × (name_at t a.interface ≡ name_at t b.interface)))
same_decides t a b = Decides-and _ _ (Decides-eqb a.number b.number) (Decides-and _ _ (Decides-eqb a.serial b.serial) (bytes_eq-Decides (name_at t a.interface) (name_at t b.interface)))

pub same_reflexive : SameReflexive
same_reflexive t a = (same_decides t a a).1 (refl, (refl, refl))

pub same_symmetric : SameSymmetric
same_symmetric t a b h = let s = (same_decides t a b).0 h in (same_decides t b a).1 (sym s.0, (sym s.1.0, sym s.1.1))

pub same_transitive : SameTransitive
same_transitive t a b c h k =
    let s = (same_decides t a b).0 h in
    let u = (same_decides t b c).0 k in
    (same_decides t a c).1 (s.0 ∙ u.0, (s.1.0 ∙ u.1.0, s.1.1 ∙ u.1.1))
