-- What a command answers, and the map that it leaves.
use Rattle.std.specs.Prelude.{ℕ, [], List, length, cond, Some, None, Ok, Err, Option, Result}
use Rattle.object_map.specs.Laws.{occupied_in}
use Rattle.object_map.specs.Map.{Map, map_of, fresh, lawful, finding, removing, inserting_new, updating}
use Rattle.object_map.specs.Store.{emptied}
use Rattle.object_map.specs.declared.refusal.Refusal.{Refusal}
use Rattle.object_map.specs.declared.refusal.Refusal.TheVariants.{Vacant, Rooms}
use Rattle.panes.specs.declared.pane.Pane.{Pane}
use Rattle.panes.specs.declared.command.Command.{Command}
use Rattle.panes.specs.declared.command.Command.TheVariants.{Open, Show, Resize, Close, List as ListAll}
use Rattle.panes.specs.declared.table.Answer.{Answer}
use Rattle.panes.specs.declared.table.Answer.TheVariants.{Opened, Shown, Resized, Closed, Listed}

-- a new table: the slots are emptied, and none has been in use
abbrev pub begun : List (Option Pane) → Result (Map Pane) Refusal
begun panes =
    cond (lawful {R = Pane} panes [])
    (Ok (map_of (record { client = fresh (length panes); server = fresh 0 }) (emptied panes) []))
    (Err Rooms)

-- open: the pane gets the smallest free number
abbrev pub opened : Pane → Result ℕ Refusal × Map Pane → Result Answer Refusal × Map Pane
opened p (Ok n, m) = (Ok (Opened n p), m)
opened p (Err e, m) = (Err e, m)

-- show: the pane at a number
abbrev pub shown : ℕ → Result (Option Pane) Refusal → Result Answer Refusal
shown n (Ok (Some p)) = Ok (Shown n p)
shown n (Ok None) = Err Vacant
shown n (Err e) = Err e

-- resize: the pane at a number gets another size
abbrev pub resized : ℕ → Pane → Result (Unit {0}) Refusal × Map Pane → Result Answer Refusal × Map Pane
resized n p (Ok _, m) = (Ok (Resized n p), m)
resized n p (Err e, m) = (Err e, m)

-- close: the pane goes
abbrev pub removed : ℕ → Result (Unit {0}) Refusal × Map Pane → Result Answer Refusal × Map Pane
removed n (Ok _, m) = (Ok (Closed n), m)
removed n (Err e, m) = (Err e, m)

-- where there is one
abbrev pub closed : ℕ → Result (Option Pane) Refusal → Map Pane → Result Answer Refusal × Map Pane
closed n (Ok (Some p)) m = removed n (removing n m)
closed n (Ok None) m = (Err Vacant, m)
closed n (Err e) m = (Err e, m)

-- each command's answer, and the map that it leaves
abbrev pub applied : Command → Map Pane → Result Answer Refusal × Map Pane
applied (Open p) m = opened p (inserting_new p m)
applied (Show n) m = (shown n (finding n m), m)
applied (Resize n p) m = resized n p (updating (λ _. p) n m)
applied (Close n) m = closed n (finding n m) m
applied ListAll m = (Ok (Listed (occupied_in m.client)), m)
