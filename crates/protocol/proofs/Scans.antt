-- A test of each element, one step of a loop after another.
use Rattle.std.proofs.Common.{◌≡◌, ℕ, ◌+◌, ◌<◌, ◌≤◌, Bool, true, false, ◌&&◌, List, [], ◌∷◌, length, get_or, drop, sym, ◌∙◌}
use Rattle.std.proofs.lemmas.List.{at_drop_more, at_drop_all}

-- F tests each element of a list by q
module _ {X : Type 0} (F : List X → Bool) (q : X → Bool) (none : F [] ≡ true) (step : (x : X) (xs : List X) → F (x ∷ xs) ≡ (q x && F xs)) where
  pub scan_no : (xs : List X) (i : ℕ) (x : X) → i < length xs → false ≡ q (get_or xs i x) → F (drop i xs) ≡ F xs → false ≡ F xs
  scan_no xs i x h e inv = let s = at_drop_more F xs i x h in let t = step (get_or xs i x) (drop (i + 1) xs) in cc

  pub scan_more : (xs : List X) (i : ℕ) (x : X) → i < length xs → true ≡ q (get_or xs i x) → F (drop i xs) ≡ F xs → F (drop (i + 1) xs) ≡ F xs
  scan_more xs i x h e inv = let s = at_drop_more F xs i x h in let t = step (get_or xs i x) (drop (i + 1) xs) in cc

  pub scan_all : (xs : List X) (i : ℕ) → length xs ≤ i → F (drop i xs) ≡ F xs → true ≡ F xs
  scan_all xs i h inv = sym (at_drop_all F xs i h ∙ none) ∙ inv
