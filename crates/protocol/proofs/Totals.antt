-- The messages of a table, counted by what is left of 4,096.
use Rattle.std.proofs.Common.{◌≡◌, ℕ, ◌+◌, ◌<◌, Bool, true, false, leb, List, [], ◌∷◌, map, length, Some, None, Option, MatchOption, sum_by, Bor, sym, refl, ap, ◌∙◌, arith}
use Rattle.std.specs.List.{FoldsTo}
use Rattle.std.specs.Iterator.{Yields, YieldsThen}
use Rattle.std.proofs.lemmas.Iterator.{YieldsList}
use Rattle.std.proofs.lemmas.Iterator.Consumers.{YieldsList-so_far, YieldsList-turn, YieldsList-end}
use Rattle.std.proofs.lemmas.List.Recursion.{is_sum_by}
use Rattle.std.proofs.lemmas.List.Sums.{sum_by-cons, sum_by_more_le}
use Rattle.std.proofs.lemmas.Bool.{le-leb, lt-leb}
use Rattle.protocol.specs.Descriptions.{description_of, described}
use Rattle.protocol.specs.Rules.{message_count, few_messages}
use Rattle.protocol.specs.declared.interface.Interface.{Interface}

abbrev pub count : Interface → ℕ
count i = message_count (description_of i)

counted : (is : List Interface) → sum_by message_count (described is) ≡ sum_by count is
counted = is_sum_by (λ is. sum_by message_count (described is)) count refl (λ x xs. sum_by-cons message_count (description_of x) (map description_of xs))

-- a fold over interfaces that takes each count off what is left
folded : {F : Type 0} (R : F × ℕ → Bor Interface → F × ℕ → Type 0) → ((p q : F × ℕ) (x : Bor Interface) → R p x q → q.1 + count x.now ≡ p.1) → (xs : List (Bor Interface)) (p q : F × ℕ) → FoldsTo R p xs q → q.1 + sum_by count (map (λ x. x.now) xs) ≡ p.1
folded R turn [] p q e = let s = ap (λ (z : _ × ℕ). z.1) e in omega (arith, s)
folded R turn (x ∷ xs) p q e = let a = turn p e.0 x e.1 in let b = folded R turn xs e.0 q e.2 in let s = sum_by-cons count x.now (map (λ y. y.now) xs) in omega (arith, a, b, s)

-- and stops where it cannot
module _ {S F : Type 0} {steps : S → Option (Bor Interface) → S → Type 0} {End : ℕ → Type 0} {Stop : F → ℕ → Bor Interface → Type 0}
    (r : Bool) (ended : (a : ℕ) → End a → r ≡ true) (stopped : (f : F) (a : ℕ) (x : Bor Interface) → Stop f a x → (r ≡ false) × (a < count x.now)) where
  at_stop : {s : S} (is : List Interface) → YieldsList steps (λ x. x.now) s is → (xs : List (Bor Interface)) (o : Option (Bor Interface)) (t u : S) → Yields steps s xs t → steps t o u → (f : F) (a : ℕ) → a + sum_by count (map (λ x. x.now) xs) ≡ 4096 → MatchOption o (End a) (λ x. Stop f a x) → r ≡ leb (sum_by count is) 4096
  at_stop is e xs None t u y n f a h m =
      let w = (YieldsList-end e xs t y None u refl n).0 in
      ended a m ∙ sym (le-leb (sum_by count is) 4096 (omega (arith, h, ap (sum_by count) w)))
  at_stop is e xs (Some x) t u y n f a h m =
      let k = stopped f a x m in
      let w = YieldsList-so_far e xs t y in
      let v = YieldsList-turn e xs t y (Some x) u x refl n in
      let l = sum_by_more_le count is (length xs) x.now v.0 in
      k.0 ∙ sym (lt-leb (sum_by count is) 4096 (omega (arith, h, k.1, ap (sum_by count) w, ap count v.1, l)))

  pub few_from_fold : {R : F × ℕ → Bor Interface → F × ℕ → Type 0} → ((p q : F × ℕ) (x : Bor Interface) → R p x q → q.1 + count x.now ≡ p.1) → {s u : S} {f : F} (is : List Interface) → YieldsList steps (λ x. x.now) s is
      → (xs : List (Bor Interface)) × (o : Option (Bor Interface)) × (f' : F) × (a : ℕ) × YieldsThen steps s xs o u × FoldsTo R (f, 4096) xs (f', a) × MatchOption o (End a) (λ x. Stop f' a x)
      → r ≡ few_messages (described is)
  few_from_fold {R} turn {s} {u} {f} is e p = at_stop is e p.0 p.1 p.4.0 u p.4.1 p.4.2 p.2 p.3 (folded R turn p.0 (f, 4096) (p.2, p.3) p.5) p.6 ∙ ap (λ (n : ℕ). leb n 4096) (sym (counted is))
