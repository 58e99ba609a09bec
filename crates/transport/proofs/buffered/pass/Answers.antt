use Rattle.std.proofs.Common.{sym, ◌∙◌}
use Rattle.std.proofs.lemmas.Result.{err_from_is_err_and}
use Rattle.transport.specs.Layers.{held_of}
use Rattle.transport.proofs.Layers.{pass_end, pass_stop}
use Rattle.transport.proofs.buffered.pass.Goals as goal

pub returns-in_err-put : goal.returns-in_err-put
returns-in_err-put g c =
    let p = err_from_is_err_and c.from_residual.result c.from_residual.ensures.1 in
    rw (p.1, p.2)
    (pass_stop _ _ (held_of c.loop-frame.held).frames (held_of c.loop-frame.held).free _ _ _ c.in-Some.ensures c.message.ensures c.in_err-put.ensures.defined ∙ sym c.loop-frame.invariant)

pub returns : goal.returns
returns g c = pass_end _ (held_of c.loop-frame.held).frames (held_of c.loop-frame.held).free c.in_default.ensures ∙ sym c.loop-frame.invariant
