-- What a frame holds, once it is written, read and checked against a signature.
use Rattle.std.proofs.Common.{◌≡◌, ℕ, ◌-◌, ◌≤◌, Bool, true, false, cond, List, [], ◌∷◌, map, length, take, drop, Some, None, Ok, Err, Result, sym, refl, ap, ◌∙◌, arith, length-take}
use Rattle.std.proofs.lemmas.List.{take_at, take_all, length-map}
use Rattle.std.proofs.lemmas.Bool.{cond-true, cond-false}
use Rattle.protocol.specs.declared.argument.Argument.{Argument}
use Rattle.protocol.specs.declared.argument.Argument.TheVariants.{Int, Uint, Fixed, Str, Object, NewId, Array, Fd}
use Rattle.protocol.specs.declared.argument.ArgumentType.{ArgumentType}
use Rattle.protocol.specs.declared.id.ObjectId.{ObjectId}
use Rattle.transport.specs.Wire.{Arg, bytes_of, texts, cut, clip, held, given}
use Rattle.transport.specs.Layout.{arg_of, args_of, laid, written, lay_into}
use Rattle.transport.specs.Signatures.{kind_of, fits, fits_raw}
use Rattle.transport.specs.Frames.{Filled, roomy, filled, reading, unpacking}
use Rattle.transport.specs.declared.frame.TakeError.{TakeError}
use Rattle.transport.specs.declared.frame.TakeError.TheVariants.{Malformed}
use Rattle.protocol.specs.declared.refusal.Refusal.{Refusal}
use Rattle.protocol.specs.declared.refusal.Refusal.TheVariants.{BadRoom}
use Rattle.transport.proofs.Clips.{length-laid, held_held, given_none, laid_back}

-- no child is put into the arguments of a frame
pub held_plain : (args used : List (Argument ObjectId)) (text : List ℕ) → used ≡ args → held (map (given 0) (args_of used text)) ≡ held (args_of args text)
held_plain args used text e = ap held (given_none (args_of used text)) ∙ ap (λ (l : List (Argument ObjectId)). held (args_of l text)) e

same : (c c' : ℕ) (a a' f : List (Argument ObjectId)) (t t' : List ℕ) (ms : List Arg) → c ≡ c' → a ≡ a' → t ≡ t' → take c' a' ≡ f → args_of f t' ≡ ms → args_of (take c a) t ≡ ms
same c c' a a' f t t' ms p q r front back = cc

-- a place that a message was laid into
pub held_back : (xs : List Arg) (count : ℕ) (args₀ args : List (Argument ObjectId)) (text₀ text : List ℕ) → (count, args, text) ≡ lay_into (held xs) args₀ text₀
    → held (args_of (take count args) text) ≡ held xs
held_back xs count args₀ args text₀ text e =
    let ms : List Arg = held xs in
    let c : count ≡ length ms = ap (λ (t : ℕ × List (Argument ObjectId) × List ℕ). t.0) e in
    let a : args ≡ written (laid 0 ms) args₀ = ap (λ (t : ℕ × List (Argument ObjectId) × List ℕ). t.1) e in
    let t : text ≡ written (texts ms) text₀ = ap (λ (t : ℕ × List (Argument ObjectId) × List ℕ). t.2) e in
    let front : take (length ms) (written (laid 0 ms) args₀) ≡ laid 0 ms = take_at (laid 0 ms) (drop (length (laid 0 ms)) args₀) (length ms) (length-laid 0 ms) in
    let back : args_of (laid 0 ms) (written (texts ms) text₀) ≡ ms = laid_back ms (drop (length (texts ms)) text₀) in
    ap held (same count (length ms) args (written (laid 0 ms) args₀) (laid 0 ms) text (written (texts ms) text₀) ms c a t front back) ∙ held_held xs

-- kinds, as they stand before a text is read
kind_same : (n : ℕ) (text : List ℕ) (a : Argument ObjectId) → kind_of (cut n (arg_of text a)) ≡ kind_of (arg_of [] a)
kind_same n text (Int x) = refl
kind_same n text (Uint x) = refl
kind_same n text (Fixed x) = refl
kind_same n text (Str None) = refl
kind_same n text (Str (Some s)) = refl
kind_same n text (Object x) = refl
kind_same n text (NewId x) = refl
kind_same n text (Array s) = refl
kind_same n text (Fd x) = refl

fits_clip : (n : ℕ) (text : List ℕ) (ts : List ArgumentType) (args : List (Argument ObjectId)) → fits ts (clip n (args_of args text)) ≡ fits_raw ts args
fits_clip n text [] [] = refl
fits_clip n text [] (a ∷ args) = refl
fits_clip n text (t ∷ ts) [] = refl
fits_clip n text (t ∷ ts) (a ∷ args) = let p = kind_same n text a in let q = fits_clip (n - length (bytes_of (arg_of text a))) text ts args in cc

pub fits_few : (c : ℕ) (text : List ℕ) (ts : List ArgumentType) (args used : List (Argument ObjectId)) → length args ≤ 20 → used ≡ take c args → fits ts (held (args_of (take c args) text)) ≡ fits_raw ts used
fits_few c text ts args used h e =
    let few : length (args_of (take c args) text) ≤ 20 = omega (arith, length-map (take c args) (arg_of text), length-take c args) in
    ap (λ (l : List Arg). fits ts (clip 1024 l)) (take_all 20 (args_of (take c args) text) few) ∙ fits_clip 1024 text ts (take c args) ∙ ap (fits_raw ts) (sym e)

roomy_ok : (b : Bool) → ◌≡◌ {A = Result (Unit {0}) Refusal} (Ok tt) (cond b (Ok tt) (Err BadRoom)) → b ≡ true
roomy_ok true e = refl
roomy_ok false e = let z : ◌≡◌ {A = ℕ} 0 1 = cc in absurd (omega arith)

abbrev answered : {E : Type 0} → ℕ × List (Argument ObjectId) × List ℕ → Filled ℕ E
answered t = (Ok t.0, t.1, t.2)

module _ (args : List (Argument ObjectId)) (text : List ℕ) where
  module _ (xs ys : List Arg) (same : ys ≡ xs) (n : ℕ) (args' : List (Argument ObjectId)) (text' : List ℕ) (laid : (n, args', text') ≡ lay_into ys args text) where
    filled_so : {E : Type 0} → ◌≡◌ {A = Filled ℕ E} (Ok n, args', text') (filled xs args text)
    filled_so {E} = ap (answered {E = E}) laid ∙ ap (λ (l : List Arg). filled l args text) same

    pub read_so : ◌≡◌ {A = Result (Unit {0}) Refusal} (Ok tt) (cond (roomy args text) (Ok tt) (Err BadRoom)) → ◌≡◌ {A = Filled ℕ Refusal} (Ok n, args', text') (reading xs args text)
    read_so room = filled_so ∙ sym (cond-true (roomy args text) (filled xs args text) (Err BadRoom, args, text) (roomy_ok (roomy args text) room))

    pub unpacked_so : (ts : List ArgumentType) → fits ts xs ≡ true → ◌≡◌ {A = Filled ℕ TakeError} (Ok n, args', text') (unpacking ts xs args text)
    unpacked_so ts fit = filled_so ∙ sym (cond-true (fits ts xs) (filled xs args text) (Err Malformed, args, text) fit)

  pub malformed_so : (xs : List Arg) (ts : List ArgumentType) → fits ts xs ≡ false → ◌≡◌ {A = Filled ℕ TakeError} (Err Malformed, args, text) (unpacking ts xs args text)
  malformed_so xs ts fit = sym (cond-false (fits ts xs) (filled xs args text) (Err Malformed, args, text) fit)
