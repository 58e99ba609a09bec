-- `try_fold` by calls that give an `Option`: what a step gives over all the items, where each call gives what the step does.
use Rattle.std.proofs.Common.{◌≡◌, suc, List, [], ◌∷◌, map, take, drop, length, get_or, fold, Some, None, Option, sym, refl, ap, ◌∙◌, subst}
use Rattle.std.specs.ControlFlow.{continue_value}
use Rattle.std.specs.Fn.{Mut, Called}
use Rattle.std.specs.Iterator.{Yields, TryFoldTurn, TryFoldsItems}
use Rattle.std.specs.List.{FoldsTo}
use Rattle.std.specs.Option.{MatchOption}
use Rattle.std.specs.declared.ops.ControlFlow.{ControlFlow}
use Rattle.std.specs.declared.ops.ControlFlow.TheVariants.{Continue, Break}
use Rattle.std.proofs.Math.Seq.{split_at}
use Rattle.std.proofs.lemmas.Iterator.{YieldsList}
use Rattle.std.proofs.lemmas.Iterator.Consumers.{YieldsList-so_far, YieldsList-turn, YieldsList-end}
use Rattle.std.proofs.lemmas.List.Folds.{fold_stays}
use Rattle.std.proofs.lemmas.List.Sums.{fold-append}

-- what `?` does with an `Option`
abbrev pub branches : {B E : Type 0} → Option B → ControlFlow E B → Type 0
branches r c = r ≡ continue_value c

abbrev pub resumes : {B E : Type 0} → E → Option B → Type 0
resumes e r = r ≡ None

-- each call leaves f as it was, and gives what the step gives, which goes on from no `None`
pub record StepsBy {A B X F : Type 0} (v : A → X) (g : Mut F (B × (A × Unit {0})) (Option B)) (step : Option B → X → Option B) (f : F) : Type 0 where
  pub gives : (b : B) (x : A) (r : Option B) (q : F) → Called g f (b, (x, tt)) r q → (q ≡ f) × (r ≡ step (Some b) (v x))
  pub stays : (x : X) → step None x ≡ None

module _ {S A B X F : Type 0} (E : Type 0) (steps : S → Option A → S → Type 0) {v : A → X} {g : Mut F (B × (A × Unit {0})) (Option B)} (step : Option B → X → Option B) {f : F} (by : StepsBy v g step f) where
  -- the turns that went on
  turns : (xs : List A) (b : B) (q : F × B) → FoldsTo {P = F × B} (TryFoldTurn g (branches {E = E})) (f, b) xs q → (q.0 ≡ f) × (fold step (Some b) (map v xs) ≡ Some q.1)
  turns [] b q c = (sym (ap (λ (p : F × B). p.0) c), ap (λ (p : F × B). Some p.1) c)
  turns (x ∷ xs) b q c =
      let called = by.gives b x c.1.0 c.0.0 c.1.1 in
      let more = turns xs c.0.1 q (subst (λ (p : F × B). FoldsTo {P = F × B} (TryFoldTurn g (branches {E = E})) p xs q) {x = c.0} {y = (f, c.0.1)} (λ i. (called.0 i, c.0.1)) c.2) in
      (more.0, ap (λ o. fold step o (map v xs)) (sym called.1 ∙ c.1.2) ∙ more.1)

  module _ {s u : S} {all : List X} (init : B) {r : Option B} (road : YieldsList steps v s all) where
    -- and the end: no item is left, or a call broke off
    ends : (xs : List A) (t : S) (f' : F) (a : B) (o : Option A) → Yields steps s xs t → steps t o u → f' ≡ f → fold step (Some init) (map v xs) ≡ Some a → MatchOption o (branches {E = E} r (Continue a)) (λ x. (w : Option B) × (h : F) × (e : E) × Called g f' (a, (x, tt)) w h × branches w (Break e) × resumes e r) → r ≡ fold step (Some init) all
    ends xs t f' a None ys last same sum m =
        m ∙ (sym sum ∙ ap (fold step (Some init)) (YieldsList-end road xs t ys None u refl last).0)
    ends xs t f' a (Some x) ys last same sum m =
        let n = length xs in
        let at = YieldsList-turn road xs t ys (Some x) u x refl last in
        let y = get_or all n (v x) in
        let after = drop (suc n) all in
        let called = by.gives a x m.0 m.1 (subst (λ k. Called g k (a, (x, tt)) m.0 m.1) same m.3) in
        let none : step (Some a) y ≡ None = ap (step (Some a)) (sym at.1) ∙ (sym called.1 ∙ m.4) in
        let whole : fold step (Some init) all ≡ fold step (fold step (Some init) (take n all)) (y ∷ after) =
        ap (fold step (Some init)) (split_at all n (v x) at.0) ∙ fold-append step (Some init) (take n all) (y ∷ after) in
        let front : fold step (Some init) (take n all) ≡ Some a = ap (fold step (Some init)) (sym (YieldsList-so_far road xs t ys)) ∙ sum in
        let over : fold step (Some init) all ≡ None =
        whole ∙ (ap (λ o. fold step (step o y) after) front ∙ (ap (λ o. fold step o after) none ∙ fold_stays step None by.stays after)) in
        m.5 ∙ sym over

    pub try_fold_steps : TryFoldsItems steps g (branches {E = E}) resumes s f init r u → r ≡ fold step (Some init) all
    try_fold_steps d =
        let w = turns d.0 init (d.2, d.3) d.5 in
        ends d.0 d.4.0 d.2 d.3 d.1 d.4.1 d.4.2 w.0 w.1 d.6
