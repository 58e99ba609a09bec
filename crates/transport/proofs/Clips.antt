-- Arguments cut to a number of bytes, and laid one after another.
use Rattle.std.proofs.Common.{◌≡◌, ℕ, suc, ◌+◌, ◌-◌, ◌≤◌, min, cond, eqb, List, [], ◌∷◌, ◌++◌, map, length, take, drop, Some, None, sym, refl, ap, ◌∙◌, inl, inr, append_assoc, append-nil, arith, length-append, length-take}
use Rattle.std.proofs.lemmas.List.{take_all, take_at, drop_at}
use Rattle.std.proofs.lemmas.Bool.Decides.{eqb_tells}
use Rattle.transport.specs.Wire.{Arg, int, uint, fixed, str, object, new_id, array, fd, bytes_of, texts, cut, clip, held, given}
use Rattle.transport.specs.Layout.{placed, laid, arg_of, args_of}

pub size-cut : (n : ℕ) (x : Arg) → length (bytes_of (cut n x)) ≡ min n (length (bytes_of x))
size-cut n (int x) = omega arith
size-cut n (uint x) = omega arith
size-cut n (fixed x) = omega arith
size-cut n (str None) = omega arith
size-cut n (str (Some b)) = length-take n b
size-cut n (object x) = omega arith
size-cut n (new_id x) = omega arith
size-cut n (array b) = length-take n b
size-cut n (fd x) = omega arith

-- one more argument at the end
pub clip-push : (n : ℕ) (xs : List Arg) (x : Arg) → clip n (xs ++ x ∷ []) ≡ clip n xs ++ cut (n - length (texts xs)) x ∷ []
clip-push n [] x = let e : n ≡ n - 0 = omega arith in ap (λ (k : ℕ). cut k x ∷ []) e
clip-push n (y ∷ ys) x =
    let ih = clip-push (n - length (bytes_of y)) ys x in
    let e : (n - length (bytes_of y)) - length (texts ys) ≡ n - length (bytes_of y ++ texts ys) = omega (arith, length-append (bytes_of y) (texts ys)) in
    cc

pub texts-push : (xs : List Arg) (x : Arg) → texts (xs ++ x ∷ []) ≡ texts xs ++ bytes_of x
texts-push [] x = let e = append-nil (bytes_of x) in cc
texts-push (y ∷ ys) x = let ih = texts-push ys x in let e = append_assoc (bytes_of y) (texts ys) (bytes_of x) in cc

pub laid-push : (o : ℕ) (xs : List Arg) (x : Arg) → laid o (xs ++ x ∷ []) ≡ laid o xs ++ placed (o + length (texts xs)) x ∷ []
laid-push o [] x = let e : o ≡ o + 0 = omega arith in ap (λ (k : ℕ). placed k x ∷ []) e
laid-push o (y ∷ ys) x =
    let ih = laid-push (o + length (bytes_of y)) ys x in
    let e : (o + length (bytes_of y)) + length (texts ys) ≡ o + length (bytes_of y ++ texts ys) = omega (arith, length-append (bytes_of y) (texts ys)) in
    cc

pub length-clip : (n : ℕ) (xs : List Arg) → length (clip n xs) ≡ length xs
length-clip n [] = refl
length-clip n (x ∷ xs) = ap suc (length-clip (n - length (bytes_of x)) xs)

pub length-laid : (o : ℕ) (xs : List Arg) → length (laid o xs) ≡ length xs
length-laid o [] = refl
length-laid o (x ∷ xs) = ap suc (length-laid (o + length (bytes_of x)) xs)

pub size-clip : (n : ℕ) (xs : List Arg) → length (texts (clip n xs)) ≡ min n (length (texts xs))
size-clip n [] = omega arith
size-clip n (x ∷ xs) =
    omega (arith, size-cut n x, size-clip (n - length (bytes_of x)) xs, length-append (bytes_of (cut n x)) (texts (clip (n - length (bytes_of x)) xs)), length-append (bytes_of x) (texts xs))

-- what is short enough is not cut
cut_fits : (n : ℕ) (x : Arg) → length (bytes_of x) ≤ n → cut n x ≡ x
cut_fits n (int x) h = refl
cut_fits n (uint x) h = refl
cut_fits n (fixed x) h = refl
cut_fits n (str None) h = refl
cut_fits n (str (Some b)) h = ap (λ (l : List ℕ). str (Some l)) (take_all n b h)
cut_fits n (object x) h = refl
cut_fits n (new_id x) h = refl
cut_fits n (array b) h = ap array (take_all n b h)
cut_fits n (fd x) h = refl

clip-fits : (n : ℕ) (xs : List Arg) → length (texts xs) ≤ n → clip n xs ≡ xs
clip-fits n [] h = refl
clip-fits n (x ∷ xs) h =
    let l = length-append (bytes_of x) (texts xs) in
    let p = cut_fits n x (omega arith) in
    let q = clip-fits (n - length (bytes_of x)) xs (omega arith) in
    cc

pub held_fits : (xs : List Arg) → length xs ≤ 20 → length (texts xs) ≤ 1024 → held xs ≡ xs
held_fits xs h k = ap (clip 1024) (take_all 20 xs h) ∙ clip-fits 1024 xs k

pub held_few : (xs : List Arg) → length (held xs) ≤ 20
held_few xs = omega (arith, length-clip 1024 (take 20 xs), length-take 20 xs)

-- what a frame holds, it holds whole
pub held_held : (xs : List Arg) → held (held xs) ≡ held xs
held_held xs = held_fits (held xs) (held_few xs) (omega (arith, size-clip 1024 (take 20 xs)))

-- the child changes no text, and no child changes nothing
bytes_given : (child : ℕ) (x : Arg) → bytes_of (given child x) ≡ bytes_of x
bytes_given child (int x) = refl
bytes_given child (uint x) = refl
bytes_given child (fixed x) = refl
bytes_given child (str None) = refl
bytes_given child (str (Some b)) = refl
bytes_given child (object x) = refl
bytes_given child (new_id x) = refl
bytes_given child (array b) = refl
bytes_given child (fd x) = refl

pub texts_given : (child : ℕ) (xs : List Arg) → texts (map (given child) xs) ≡ texts xs
texts_given child [] = refl
texts_given child (x ∷ xs) = let p = bytes_given child x in let q = texts_given child xs in cc

null_given : (x : ℕ) → cond (eqb x 0) 0 x ≡ x
null_given x = elim (eqb_tells x 0) [ inl t ↦ let p = t.0 in let q = t.1 in cc | inr t ↦ let p = t.0 in cc ]

given_none_one : (x : Arg) → given 0 x ≡ x
given_none_one (int x) = refl
given_none_one (uint x) = refl
given_none_one (fixed x) = refl
given_none_one (str t) = refl
given_none_one (object x) = refl
given_none_one (new_id x) = ap new_id (null_given x)
given_none_one (array b) = refl
given_none_one (fd x) = refl

pub given_none : (xs : List Arg) → map (given 0) xs ≡ xs
given_none [] = refl
given_none (x ∷ xs) = let p = given_none_one x in let q = given_none xs in cc

-- what was laid is read back, behind any text p and before any other
span_back : (p b rest : List ℕ) → take (length b) (drop (length p) (p ++ (b ++ rest))) ≡ b
span_back p b rest = ap (take (length b)) (drop_at p (b ++ rest) (length p) refl) ∙ take_at b rest (length b) refl

one_back : (p rest : List ℕ) (x : Arg) → arg_of (p ++ (bytes_of x ++ rest)) (placed (length p) x) ≡ x
one_back p rest (int x) = refl
one_back p rest (uint x) = refl
one_back p rest (fixed x) = refl
one_back p rest (str None) = refl
one_back p rest (str (Some b)) = ap (λ (l : List ℕ). str (Some l)) (span_back p b rest)
one_back p rest (object x) = refl
one_back p rest (new_id x) = refl
one_back p rest (array b) = ap array (span_back p b rest)
one_back p rest (fd x) = refl

laid_behind : (p rest : List ℕ) (xs : List Arg) → args_of (laid (length p) xs) (p ++ (texts xs ++ rest)) ≡ xs
laid_behind p rest [] = refl
laid_behind p rest (x ∷ xs) =
    let text : List ℕ = p ++ (texts (x ∷ xs) ++ rest) in
    let near : text ≡ p ++ (bytes_of x ++ (texts xs ++ rest)) = ap (λ (l : List ℕ). p ++ l) (append_assoc (bytes_of x) (texts xs) rest) in
    let far : text ≡ (p ++ bytes_of x) ++ (texts xs ++ rest) = near ∙ sym (append_assoc p (bytes_of x) (texts xs ++ rest)) in
    let one : arg_of text (placed (length p) x) ≡ x = ap (λ (l : List ℕ). arg_of l (placed (length p) x)) near ∙ one_back p (texts xs ++ rest) x in
    let more : args_of (laid (length p + length (bytes_of x)) xs) text ≡ xs =
    ap (λ (n : ℕ). args_of (laid n xs) text) (sym (length-append p (bytes_of x))) ∙ ap (args_of (laid (length (p ++ bytes_of x)) xs)) far ∙ laid_behind (p ++ bytes_of x) rest xs in
    ap (λ (y : Arg). y ∷ args_of (laid (length p + length (bytes_of x)) xs) text) one ∙ ap (λ (l : List Arg). x ∷ l) more

pub laid_back : (xs : List Arg) (rest : List ℕ) → args_of (laid 0 xs) (texts xs ++ rest) ≡ xs
laid_back xs rest = laid_behind [] rest xs
