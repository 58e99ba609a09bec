-- What is printed of an answer.
use Rattle.std.specs.Prelude.{ℕ, List, ◌++◌, codes}
use Rattle.std.specs.Fmt.{decimal}
use Rattle.panes.specs.declared.pane.Pane.{Pane}
use Rattle.panes.specs.declared.table.Answer.{Answer}
use Rattle.panes.specs.declared.table.Answer.TheVariants.{Opened, Shown, Resized, Closed, Listed}

-- a pane under its number
abbrev pub pane_text : ℕ → Pane → List ℕ
pane_text n p = decimal n ++ (codes ": " ++ (decimal p.width ++ (codes " x " ++ decimal p.height)))

-- an answer
abbrev pub answer_text : Answer → List ℕ
answer_text (Opened n p) = codes "opened " ++ pane_text n p
answer_text (Shown n p) = codes "pane " ++ pane_text n p
answer_text (Resized n p) = codes "resized " ++ pane_text n p
answer_text (Closed n) = codes "closed " ++ decimal n
answer_text (Listed c) = codes "open panes: " ++ decimal c
