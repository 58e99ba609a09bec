use Rattle.std.proofs.Common.{rules, tests, ◌≡◌, Bool, ◌&&◌, List, [], ◌∷◌, length, refl, sym, ap, ◌∙◌, arith}
use Rattle.std.specs.List.{list_all, zip}
use Rattle.std.proofs.lemmas.Iterator.{YieldsList-from_slice, YieldsList-from_zip}
use Rattle.std.proofs.lemmas.Iterator.Search.{all_from_yields_List}
use Rattle.protocol.specs.Pairwise.{alike}
use Rattle.protocol.specs.declared.argument.Argument.{Argument}
use Rattle.protocol.specs.declared.argument.ArgumentType.{ArgumentType}
use Rattle.protocol.specs.declared.id.ObjectId.{ObjectId}
use Rattle.transport.specs.Signatures.{takes, kind_of}
use Rattle.transport.specs.Layout.{arg_of}
use Rattle.transport.proofs.frame.accepts_all.Goals as goal

alike_zip : {A B : Type 0} (p : A → B → Bool) (xs : List A) (ys : List B) → length xs ≡ length ys → alike p xs ys ≡ list_all (λ (z : A × B). p z.0 z.1) (zip xs ys)
alike_zip p [] [] h = refl
alike_zip p [] (y ∷ ys) h = absurd (omega arith)
alike_zip p (x ∷ xs) [] h = absurd (omega arith)
alike_zip p (x ∷ xs) (y ∷ ys) h = ap (λ b. p x y && b) (alike_zip p xs ys (omega arith))

pub returns-then-signature-args : goal.returns-then-signature-args
returns-then-signature-args c =
    all_from_yields_List (λ (z : ArgumentType × Argument ObjectId). takes z.0 (kind_of (arg_of [] z.1))) c.all.new.self _ _ c.all.ensures.ran
    (YieldsList-from_zip (YieldsList-from_slice c.args.signature.now cc) (YieldsList-from_slice c.args.args.now cc)) (λ x b q k. search (rules, tests))
    ∙ sym (alike_zip (λ t a. takes t (kind_of (arg_of [] a))) c.args.signature.now c.args.args.now c.if-signature-args.true)
