use Rattle.std.proofs.Common.{rules}
use Rattle.object_map.proofs.Updates.{updates_known}
use Rattle.panes.proofs.table.PaneTable.resize.Goals as goal

pub returns-clause-told : goal.returns-clause-told
returns-clause-told c =
    let w = updates_known (λ _. c.args.pane) (λ r r' found gives. search rules) c.update.ensures in
    search (rules, w.changes)

pub returns-clause-defined : goal.returns-clause-defined
returns-clause-defined c =
    let w = updates_known (λ _. c.args.pane) (λ r r' found gives. search rules) c.update.ensures in
    search (rules, w.defined)
