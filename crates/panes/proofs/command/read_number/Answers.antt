use Rattle.std.proofs.Common.{sym, ◌∙◌, refl, rules}
use Rattle.std.proofs.lemmas.Iterator.{YieldsList-from_slice}
use Rattle.panes.specs.Lines.{pushed}
use Rattle.panes.proofs.Steps.{try_fold_steps}
use Rattle.panes.proofs.Texts.{all_digits}
use Rattle.panes.proofs.command.read_number.Goals as goal

pub returns : goal.returns
returns c =
    let road = YieldsList-from_slice c.args.text.now c.iter.ensures.rest in
    try_fold_steps _ _ pushed (record { gives = λ b x r q k. search rules; stays = λ x. refl }) 0 road c.try_fold.ensures.ran ∙ sym (all_digits c.args.text.now (λ h. search rules))
