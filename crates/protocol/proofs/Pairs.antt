-- Two lists compared place by place: by a chain over both together, and one step of a loop after another.
use Rattle.std.proofs.Common.{◌≡◌, ℕ, suc, ◌+◌, ◌<◌, ◌≤◌, Bool, true, false, ◌&&◌, List, [], ◌∷◌, length, get_or, drop, zip, sym, refl, ap, ◌∙◌, arith}
use Rattle.std.proofs.lemmas.List.{drop_more, drop_all}
use Rattle.std.proofs.lemmas.Bool.{and_right}
use Rattle.protocol.specs.Pairwise.{all, alike}

module _ {X Y : Type 0} (p : X → Y → Bool) where
  pub alike_apart : (xs : List X) (ys : List Y) → (length xs ≡ length ys → ⊥) → false ≡ alike p xs ys
  alike_apart [] [] h = absurd (h refl)
  alike_apart [] (y ∷ ys) h = refl
  alike_apart (x ∷ xs) [] h = refl
  alike_apart (x ∷ xs) (y ∷ ys) h = sym (and_right (p x y) (alike p xs ys) (sym (alike_apart xs ys (λ e. h (ap suc e)))))

  module _ (xs : List X) (ys : List Y) (i : ℕ) (x : X) (y : Y) (in_xs : i < length xs) (in_ys : i < length ys) where
    alike_step : alike p (drop i xs) (drop i ys) ≡ (p (get_or xs i x) (get_or ys i y) && alike p (drop (i + 1) xs) (drop (i + 1) ys))
    alike_step = ap (λ (l : List X). alike p l (drop i ys)) (drop_more xs i x in_xs) ∙ ap (λ (l : List Y). alike p (get_or xs i x ∷ drop (i + 1) xs) l) (drop_more ys i y in_ys)

    pub alike_no : (b : Bool) → b ≡ p (get_or xs i x) (get_or ys i y) → b ≡ false → alike p (drop i xs) (drop i ys) ≡ alike p xs ys → false ≡ alike p xs ys
    alike_no b e n inv = let s = alike_step in cc

    pub alike_more : (b : Bool) → b ≡ p (get_or xs i x) (get_or ys i y) → b ≡ true → alike p (drop i xs) (drop i ys) ≡ alike p xs ys → alike p (drop (i + 1) xs) (drop (i + 1) ys) ≡ alike p xs ys
    alike_more b e n inv = let s = alike_step in cc

  pub alike_all : (xs : List X) (ys : List Y) (i : ℕ) → length xs ≤ i → length ys ≤ i → alike p (drop i xs) (drop i ys) ≡ alike p xs ys → true ≡ alike p xs ys
  alike_all xs ys i h k inv = sym (ap (λ (l : List X). alike p l (drop i ys)) (drop_all i xs h) ∙ ap (λ (l : List Y). alike p [] l) (drop_all i ys k)) ∙ inv

pub alike_from_zip : {X Y : Type 0} (p : X → Y → Bool) (xs : List X) (ys : List Y) → length xs ≡ length ys → all (λ q. p q.0 q.1) (zip xs ys) ≡ alike p xs ys
alike_from_zip p [] [] h = refl
alike_from_zip p [] (y ∷ ys) h = absurd (omega arith)
alike_from_zip p (x ∷ xs) [] h = absurd (omega arith)
alike_from_zip p (x ∷ xs) (y ∷ ys) h = ap (λ b. p x y && b) (alike_from_zip p xs ys (omega arith))
