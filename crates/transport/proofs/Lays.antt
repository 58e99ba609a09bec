-- The loop that lays arguments, one after another.
use Rattle.std.proofs.Common.{◌≡◌, ℕ, ◌+◌, ◌-◌, ◌<◌, ◌≤◌, min, List, [], ◌∷◌, ◌++◌, map, length, get_or, take, set, sym, ap, ◌∙◌, arith, length-append}
use Rattle.std.proofs.lemmas.List.{take_more, take_all, length-take-le, get_or-map, length-map, take-map}
use Rattle.protocol.specs.declared.argument.Argument.{Argument}
use Rattle.protocol.specs.declared.id.ObjectId.{ObjectId}
use Rattle.transport.specs.Wire.{Arg, bytes_of, texts, cut, clip, held, given}
use Rattle.transport.specs.Layout.{arg_of, args_of, placed, laid, written, overwritten, lay_one, lay_into}
use Rattle.transport.proofs.Rooms.{written_more, written_push, take_min}
use Rattle.transport.proofs.Clips.{clip-push, texts-push, laid-push, length-clip, length-laid, size-clip}

-- the bytes in use and the two rooms, once values are laid
abbrev pub laying : List Arg → List (Argument ObjectId) → List ℕ → ℕ × List (Argument ObjectId) × List ℕ
laying xs places room = (length (texts xs), written (laid 0 xs) places, written (texts xs) room)

-- the first i of the values
abbrev pub so_far : List Arg → ℕ → List Arg
so_far xs i = clip 1024 (take i xs)

together : {A B C : Type 0} (a a' : A) (b b' : B) (c c' : C) → a ≡ a' → b ≡ b' → c ≡ c' → ◌≡◌ {A = A × B × C} (a, b, c) (a', b', c')
together a a' b b' c c' p q r = cc

pushed : {X : Type 0} (t room₀ room t' : List X) (i : ℕ) (a b : X) → length t ≡ i → i < length room₀ → room ≡ written t room₀ → a ≡ b → t' ≡ t ++ b ∷ [] → set room i a ≡ written t' room₀
pushed t room₀ room t' i a b l h p q r = let w = written_push t room₀ b (omega arith) in cc

joins : {X : Type 0} (t room₀ room ys t' : List X) (n : ℕ) → n ≡ length t → room ≡ written t room₀ → t' ≡ t ++ ys → overwritten n ys room ≡ written t' room₀
joins t room₀ room ys t' n e p q = let w = written_more t ys room₀ in cc

module _ (xs : List Arg) (places₀ : List (Argument ObjectId)) (room₀ : List ℕ) where
  lay_more : (i end next : ℕ) (places : List (Argument ObjectId)) (room room' : List ℕ) (x : Arg) (a : Argument ObjectId) → i < length xs → i < length places₀
      → get_or xs i x ≡ x → (end, places, room) ≡ laying (so_far xs i) places₀ room₀ → ((a, next), room') ≡ lay_one end x room
      → (next, set places i a, room') ≡ laying (so_far xs (i + 1)) places₀ room₀
  lay_more i end next places room room' x a h k at inv step =
      let m : List Arg = so_far xs i in
      let y : Arg = cut (1024 - end) x in
      let e : end ≡ length (texts m) = ap (λ (t : ℕ × List (Argument ObjectId) × List ℕ). t.0) inv in
      let p : places ≡ written (laid 0 m) places₀ = ap (λ (t : ℕ × List (Argument ObjectId) × List ℕ). t.1) inv in
      let r : room ≡ written (texts m) room₀ = ap (λ (t : ℕ × List (Argument ObjectId) × List ℕ). t.2) inv in
      let len : length (take i xs) ≡ i = length-take-le i xs (omega arith) in
      let laid_len : length (laid 0 m) ≡ i = length-laid 0 m ∙ length-clip 1024 (take i xs) ∙ len in
      let left : 1024 - length (texts (take i xs)) ≡ 1024 - end = omega (arith, size-clip 1024 (take i xs)) in
      let more : so_far xs (i + 1) ≡ m ++ y ∷ [] =
      ap (clip 1024) (take_more xs i x h ∙ ap (λ (z : Arg). take i xs ++ z ∷ []) at) ∙ clip-push 1024 (take i xs) x ∙ ap (λ (n : ℕ). m ++ cut n x ∷ []) left in
      let first : next ≡ length (texts (m ++ y ∷ [])) = ap (λ (s : (Argument ObjectId × ℕ) × List ℕ). s.0.1) step ∙ omega (arith, length-append (texts m) (bytes_of y), ap length (texts-push m y)) in
      let here : placed end y ≡ placed (0 + length (texts m)) y = ap (λ (n : ℕ). placed n y) (omega arith) in
      let put : a ≡ placed (0 + length (texts m)) y = ap (λ (s : (Argument ObjectId × ℕ) × List ℕ). s.0.0) step ∙ here in
      let second : set places i a ≡ written (laid 0 (m ++ y ∷ [])) places₀ =
      pushed (laid 0 m) places₀ places (laid 0 (m ++ y ∷ [])) i a (placed (0 + length (texts m)) y) laid_len k p put (laid-push 0 m y) in
      let third : room' ≡ written (texts (m ++ y ∷ [])) room₀ =
      ap (λ (s : (Argument ObjectId × ℕ) × List ℕ). s.1) step ∙ joins (texts m) room₀ room (bytes_of y) (texts (m ++ y ∷ [])) end e r (texts-push m y) in
      together _ _ _ _ _ _ first second third ∙ ap (λ (l : List Arg). laying l places₀ room₀) (sym more)

  lay_all : (i end : ℕ) (places : List (Argument ObjectId)) (room : List ℕ) → i ≡ length xs → (end, places, room) ≡ laying (so_far xs i) places₀ room₀
      → (length xs, places, room) ≡ lay_into (clip 1024 xs) places₀ room₀
  lay_all i end places room e inv =
      let all : so_far xs i ≡ clip 1024 xs = ap (clip 1024) (take_all i xs (omega arith)) in
      let count : length xs ≡ length (clip 1024 xs) = sym (length-clip 1024 xs) in
      let p : places ≡ written (laid 0 (so_far xs i)) places₀ = ap (λ (t : ℕ × List (Argument ObjectId) × List ℕ). t.1) inv in
      let r : room ≡ written (texts (so_far xs i)) room₀ = ap (λ (t : ℕ × List (Argument ObjectId) × List ℕ). t.2) inv in
      together _ _ _ _ _ _ count (p ∙ ap (λ (l : List Arg). written (laid 0 l) places₀) all) (r ∙ ap (λ (l : List Arg). written (texts l) room₀) all)

-- arguments as values, with the child put in
abbrev pub values : List (Argument ObjectId) → List ℕ → ℕ → List Arg
values args text child = map (given child) (args_of args text)

length-values : (args : List (Argument ObjectId)) (text : List ℕ) (child : ℕ) → length (values args text child) ≡ length args
length-values args text child = length-map (args_of args text) (given child) ∙ length-map args (arg_of text)

-- the same of arguments and their text
module _ (args : List (Argument ObjectId)) (text : List ℕ) (child : ℕ) (places₀ : List (Argument ObjectId)) (room₀ : List ℕ) where
  value_at : (i : ℕ) (d : Argument ObjectId) → i < length args → get_or (values args text child) i (given child (arg_of text (get_or args i d))) ≡ given child (arg_of text (get_or args i d))
  value_at i d h =
      let k : i < length (args_of args text) = omega (arith, length-map args (arg_of text)) in
      get_or-map (given child) (args_of args text) i (arg_of text d) (given child (arg_of text (get_or args i d))) k ∙ ap (given child) (get_or-map (arg_of text) args i d (arg_of text d) h)

  pub args_more : (i end next : ℕ) (d : Argument ObjectId) (places : List (Argument ObjectId)) (room room' : List ℕ) (a : Argument ObjectId) → i < length args → i < length places₀
      → (end, places, room) ≡ laying (so_far (values args text child) i) places₀ room₀ → ((a, next), room') ≡ lay_one end (given child (arg_of text (get_or args i d))) room
      → (next, set places i a, room') ≡ laying (so_far (values args text child) (i + 1)) places₀ room₀
  args_more i end next d places room room' a h k inv step =
      lay_more (values args text child) places₀ room₀ i end next places room room' _ a (omega (arith, length-values args text child)) k (value_at i d h) inv step

  pub args_all : (n i end : ℕ) (places : List (Argument ObjectId)) (room : List ℕ) → n ≡ min (length args) 20 → i ≡ length (take n args)
      → (end, places, room) ≡ laying (so_far (values (take n args) text child) i) places₀ room₀ → (length (take n args), places, room) ≡ lay_into (held (values args text child)) places₀ room₀
  args_all n i end places room c h inv =
      let front : values (take n args) text child ≡ take 20 (values args text child) =
      ap (λ (l : List (Argument ObjectId)). values l text child) (ap (λ (k : ℕ). take k args) c ∙ take_min 20 args)
      ∙ sym (take-map (given child) 20 (args_of args text) ∙ ap (map (given child)) (take-map (arg_of text) 20 args)) in
      let l = length-values (take n args) text child in
      ap (λ (k : ℕ). (k, places, room)) (sym l) ∙ lay_all (values (take n args) text child) places₀ room₀ i end places room (h ∙ sym l) inv
      ∙ ap (λ (xs : List Arg). lay_into (clip 1024 xs) places₀ room₀) front

  pub end_fits : (i end : ℕ) (places : List (Argument ObjectId)) (room : List ℕ) → (end, places, room) ≡ laying (so_far (values args text child) i) places₀ room₀ → end ≤ 1024
  end_fits i end places room inv =
      let e : end ≡ length (texts (so_far (values args text child) i)) = ap (λ (t : ℕ × List (Argument ObjectId) × List ℕ). t.0) inv in
      omega (arith, size-clip 1024 (take i (values args text child)))
