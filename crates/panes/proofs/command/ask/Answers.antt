use Rattle.std.proofs.Common.{◌≡◌, codes, rules}
use Rattle.std.proofs.lemmas.Slice.Eq.{text_from_reads}
use Rattle.panes.proofs.command.ask.Goals as goal

pub returns-in_ok-read_pane-in-resize : goal.returns-in_ok-read_pane-in-resize
returns-in_ok-read_pane-in-resize c =
    let first : c.args.first.now ≡ codes "resize" = text_from_reads c.args.first.now (codes "resize") (search rules) (search rules) in
    rw first (search rules)
