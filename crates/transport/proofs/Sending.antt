-- What may be sent is not cut.
use Rattle.std.proofs.Common.{◌≡◌, ℕ, ◌+◌, ◌-◌, ◌≤◌, Bool, true, false, cond, ◌&&◌, leb, List, [], ◌∷◌, ◌++◌, map, length, get_or, drop, Some, None, Option, sym, refl, ap, ◌∙◌, subst, append-nil, arith, length-append, length-take}
use Rattle.std.proofs.lemmas.List.{length-map, at_drop_more, take-append-drop}
use Rattle.std.proofs.lemmas.Iterator.{YieldsList}
use Rattle.std.proofs.lemmas.Iterator.Consumers.{YieldsList-so_far, YieldsList-turn, YieldsList-end}
use Rattle.std.specs.ControlFlow.{continue_value}
use Rattle.std.specs.Iterator.{TryFoldTurn, TryFoldsItems, Yields}
use Rattle.std.specs.List.{FoldsTo}
use Rattle.std.specs.Option.{is_some, MatchOption}
use Rattle.std.specs.declared.ops.ControlFlow.{ControlFlow}
use denote.Param.Members.{Mut, Called}
use denote.Ref.{Bor}
use Rattle.std.proofs.lemmas.Bool.{and_parts, leb-true, false≢true}
use Rattle.protocol.specs.Pairwise.{all}
use Rattle.protocol.specs.Rules.{nonzero}
use Rattle.protocol.specs.declared.argument.Span.{Span}
use Rattle.protocol.specs.declared.argument.Argument.{Argument}
use Rattle.protocol.specs.declared.argument.Argument.TheVariants.{Int, Uint, Fixed, Str, Object, NewId, Array, Fd}
use Rattle.protocol.specs.declared.id.ObjectId.{ObjectId}
use Rattle.transport.specs.Wire.{Arg, message, bytes_of, texts, given}
use Rattle.transport.specs.Layout.{arg_of, args_of, spanned}
use Rattle.transport.specs.Drafts.{Whole, inside, left_after, when_left, sendable, accepted}
use Rattle.transport.proofs.Clips.{held_fits, texts_given}

cond_some : (t : Bool) (k m : ℕ) → cond t (Some k) None ≡ Some m → (t ≡ true) × (k ≡ m)
cond_some true k m h = (refl, cc)
cond_some false k m h = let z : ◌≡◌ {A = ℕ} 0 1 = cc in absurd (omega arith)

span_size : (n m : ℕ) (text : List ℕ) (s : Span) → inside n text s ≡ true → n - s.len ≡ m → length (spanned text s) + m ≤ n
span_size n m text s h e =
    let p = and_parts (leb s.start (length text)) (leb s.len (length text - s.start) && leb s.len n) h in
    let q = and_parts (leb s.len (length text - s.start)) (leb s.len n) p.1 in
    omega (arith, leb-true s.len n q.1, length-take s.len (drop s.start text))

left_size : (n m : ℕ) (text : List ℕ) (a : Argument ObjectId) → left_after n text a ≡ Some m → length (bytes_of (arg_of text a)) + m ≤ n
left_size n m text (Int x) h = let e : n ≡ m = cc in omega arith
left_size n m text (Uint x) h = let e : n ≡ m = cc in omega arith
left_size n m text (Fixed x) h = let e : n ≡ m = cc in omega arith
left_size n m text (Str None) h = let e : n ≡ m = cc in omega arith
left_size n m text (Str (Some s)) h =
    let p = cond_some (inside n text s && all nonzero (spanned text s)) (n - s.len) m h in
    span_size n m text s (and_parts (inside n text s) (all nonzero (spanned text s)) p.0).0 p.1
left_size n m text (Object x) h = let e : n ≡ m = cc in omega arith
left_size n m text (NewId x) h = let e : n ≡ m = cc in omega arith
left_size n m text (Array s) h = let p = cond_some (inside n text s) (n - s.len) m h in span_size n m text s p.0 p.1
left_size n m text (Fd x) h = let e : n ≡ m = cc in omega arith

when_left_lem : (o : Option ℕ) (p : ℕ → Bool) → when_left o p ≡ true → (m : ℕ) × (o ≡ Some m) × (p m ≡ true)
when_left_lem None p h = absurd (false≢true h)
when_left_lem (Some m) p h = (m, refl, h)

sendable-size : (n : ℕ) (text : List ℕ) (args : List (Argument ObjectId)) → sendable n text args ≡ true → length (texts (args_of args text)) ≤ n
sendable-size n text [] h = omega arith
sendable-size n text (a ∷ args) h =
    let w = when_left_lem (left_after n text a) (λ m. sendable m text args) h in
    omega (arith, left_size n w.0 text a w.1, sendable-size w.0 text args w.2, length-append (bytes_of (arg_of text a)) (texts (args_of args text)))

pub accepted_whole : (s o c : ℕ) (args : List (Argument ObjectId)) (text : List ℕ) → accepted args text ≡ true → Whole (record { written = message s o (args_of args text); child = c })
accepted_whole s o c args text h n =
    let p = and_parts (leb (length args) 20) (sendable 1024 text args) h in
    let xs : List Arg = args_of args text in
    let few = leb-true (length args) 20 p.0 in
    let short = sendable-size 1024 text args p.1 in
    ap (message s o) (held_fits (map (given n) xs) (omega (arith, length-map xs (given n), length-map args (arg_of text))) (omega (arith, ap length (texts_given n xs))))

-- arguments checked one after another, by a closure that does what `left_after` does
module _ (E : Type 0) {F : Type 0} (g : Mut F (ℕ × (Bor (Argument ObjectId) × Unit {0})) (Option ℕ)) (f : F) (text : List ℕ)
    (calls : (n : ℕ) (x : Bor (Argument ObjectId)) (v : Option ℕ) (q : F) → Called g f (n, (x, tt)) v q → (q ≡ f) × (v ≡ left_after n text x.now)) where
  abbrev Turn : F × ℕ → Bor (Argument ObjectId) → F × ℕ → Type 0
  Turn = TryFoldTurn g (λ (v : Option ℕ) (r : ControlFlow E ℕ). v ≡ continue_value r)

  gone_on : (xs : List (Bor (Argument ObjectId))) (ys : List (Argument ObjectId)) (n a : ℕ) (q : F) → FoldsTo Turn (f, n) xs (q, a)
      → (q ≡ f) × (sendable n text (map (λ x. x.now) xs ++ ys) ≡ sendable a text ys)
  gone_on [] ys n a q h = (sym (ap (λ (p : F × ℕ). p.0) h), ap (λ (p : F × ℕ). sendable p.1 text ys) h)
  gone_on (x ∷ xs) ys n a q h =
      let k = calls n x h.1.0 h.0.0 h.1.1 in
      let rest = gone_on xs ys h.0.1 a q (subst (λ (p : F). FoldsTo Turn (p, h.0.1) xs (q, a)) k.0 h.2) in
      (rest.0, ap (λ (o : Option ℕ). when_left o (λ m. sendable m text (map (λ x. x.now) xs ++ ys))) (sym k.1 ∙ h.1.2) ∙ rest.1)

  module _ {S : Type 0} {steps : S → Option (Bor (Argument ObjectId)) → S → Type 0} {s : S} {args : List (Argument ObjectId)} (road : YieldsList steps (λ x. x.now) s args) where
    ended : (o : Option (Bor (Argument ObjectId))) (xs : List (Bor (Argument ObjectId))) (q : F) (n a : ℕ) (t u : S) (r : Option ℕ) → Yields steps s xs t → steps t o u → FoldsTo Turn (f, n) xs (q, a)
        → MatchOption o (r ≡ Some a) (λ x. (v : Option ℕ) × (h : F) × (e : E) × Called g q (a, (x, tt)) v h × (v ≡ None) × (r ≡ None)) → is_some r ≡ sendable n text args
    ended None xs q n a t u r y l h e =
        ap is_some e ∙ sym (ap (sendable n text) (sym (YieldsList-end road xs t y None u refl l).0 ∙ sym (append-nil (map (λ x. x.now) xs))) ∙ (gone_on xs [] n a q h).1)
    ended (Some x) xs q n a t u r y l h e =
        let k : ℕ = length xs in
        let here = YieldsList-turn road xs t y (Some x) u x refl l in
        let before = gone_on xs (drop k args) n a q h in
        let last = calls a x e.0 e.1 (subst (λ (p : F). Called g p (a, (x, tt)) e.0 e.1) before.0 e.3) in
        let none : None ≡ left_after a text (get_or args k x.now) = sym e.4 ∙ last.1 ∙ ap (left_after a text) here.1 in
        let parts : args ≡ map (λ x. x.now) xs ++ drop k args = sym (take-append-drop k args) ∙ ap (λ (zs : List (Argument ObjectId)). zs ++ drop k args) (sym (YieldsList-so_far road xs t y)) in
        ap is_some e.5
        ∙ sym (ap (sendable n text) parts ∙ before.1 ∙ at_drop_more (sendable a text) args k x.now here.0 ∙ ap (λ (o : Option ℕ). when_left o (λ m. sendable m text (drop (k + 1) args))) (sym none))

    pub sendable_so : (n : ℕ) (r : Option ℕ) {u : S} → TryFoldsItems steps g (λ (v : Option ℕ) (c : ControlFlow E ℕ). v ≡ continue_value c) (λ _ r. r ≡ None) s f n r u → is_some r ≡ sendable n text args
    sendable_so n r {u} h = ended h.1 h.0 h.2 n h.3 h.4.0 u r h.4.1 h.4.2 h.5 h.6
