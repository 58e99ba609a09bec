-- What the answers so far say of each number: the viewer's own account of its panes, without a look at the slots.
use Rattle.std.specs.Prelude.{◌≡◌, ℕ, ◌<◌, ◌≤◌, true, cond, List, [], ◌∷◌, is_some, Some, None, Ok, Err, Option, Result, ◌==◌}
use Rattle.object_map.specs.Map.{Map, lookup}
use Rattle.object_map.specs.declared.refusal.Refusal.{Refusal}
use Rattle.panes.specs.declared.pane.Pane.{Pane}
use Rattle.panes.specs.declared.table.Answer.{Answer}
use Rattle.panes.specs.declared.table.Answer.TheVariants.{Opened, Shown, Resized, Closed, Listed}

-- the answers so far, newest first; a refused command has its refusal
abbrev pub Answers : Type 0
Answers = List (Result Answer Refusal)

-- the pane that a number stands for, by the answers: the size last given to it, unless it was closed since
abbrev pub pane_at : Answers → ℕ → Option Pane
pane_at [] n = None
pane_at (Ok (Opened k p) ∷ h) n = cond (n == k) (Some p) (pane_at h n)
pane_at (Ok (Resized k p) ∷ h) n = cond (n == k) (Some p) (pane_at h n)
pane_at (Ok (Closed k) ∷ h) n = cond (n == k) None (pane_at h n)
pane_at (Ok (Shown k p) ∷ h) n = pane_at h n
pane_at (Ok (Listed c) ∷ h) n = pane_at h n
pane_at (Err e ∷ h) n = pane_at h n

-- the map holds just what the answers say
abbrev pub Agrees : Answers → Map Pane → Type 0
Agrees h m = (n : ℕ) → lookup n m ≡ pane_at h n

-- an answer is right by those before it: a number that is given was free, and the smallest such; what is shown, resized or closed is open
abbrev pub Right : Result Answer Refusal → Answers → Type 0
Right (Ok (Opened k p)) h = (pane_at h k ≡ None) × (1 ≤ k) × ((j : ℕ) → 1 ≤ j → j < k → is_some (pane_at h j) ≡ true)
Right (Ok (Shown k p)) h = pane_at h k ≡ Some p
Right (Ok (Resized k p)) h = is_some (pane_at h k) ≡ true
Right (Ok (Closed k)) h = is_some (pane_at h k) ≡ true
Right (Ok (Listed c)) h = Unit {0}
Right (Err e) h = Unit {0}

-- every run of commands stays in agreement, and each answer is right
abbrev pub Told : Map Pane → Result Answer Refusal → Map Pane → Type 0
Told m a m' = (h : Answers) → Agrees h m → Agrees (a ∷ h) m' × Right a h

-- a new table is in agreement with no answers
abbrev pub Begun : Result (Map Pane) Refusal → Type 0
Begun (Ok m) = Agrees [] m
Begun (Err _) = Unit {0}
