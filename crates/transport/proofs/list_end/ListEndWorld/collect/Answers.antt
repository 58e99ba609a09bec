use Rattle.std.proofs.Common.{◌≡◌, ℕ, min, length, refl, ap, ◌∙◌}
use Rattle.transport.specs.Rings.{Queue, queue_of, releasing}
use Rattle.transport.specs.Lists.{list_of, with_outgoing, collecting}
use Rattle.transport.specs.declared.list_end.ListEnd.{ListEnd}
use Rattle.transport.specs.declared.ring.Ring.{Ring}
use Rattle.transport.proofs.list_end.ListEndWorld.collect.Goals as goal

collect_so : (s : ListEnd) (n gone len : ℕ) (r : Ring) → gone ≡ min n len → len ≡ length (list_of s).outgoing.frames
    → queue_of r s.outgoing.now ≡ releasing n (queue_of s.sent s.outgoing.now)
    → (gone, with_outgoing (queue_of r s.outgoing.now) (list_of s)) ≡ collecting n (list_of s)
collect_so s n gone len r g l q =
    ap (λ (k : ℕ). (k, with_outgoing (queue_of r s.outgoing.now) (list_of s))) (g ∙ ap (min n) l)
    ∙ ap (λ (x : Queue). (min n (length (list_of s).outgoing.frames), with_outgoing x (list_of s))) q

pub returns : goal.returns
returns c =
    record { defined = collect_so c.args.self.now c.args.n _ _ _ c.min-gone.ensures c.sent_len.ensures (c.release.ensures _ refl); above = refl; before = refl; stack = refl }
