use Rattle.std.proofs.Common.{◌≡◌, ◌≤◌, take}
use Rattle.client.specs.Coded.{text_lens}
use Rattle.client.proofs.next.text_len.Given as goal

abbrev pub invariant-loop-arg : goal.invariant-loop-arg
invariant-loop-arg l = (l.len ≤ 1024) × (text_lens l.args ≤ 1024 → l.len ≡ text_lens (take l.arg-index l.args))
