use Rattle.std.proofs.Common.{sym, ◌∙◌}
use Rattle.transport.proofs.Rings.{length-ring}
use Rattle.transport.proofs.list_end.ListEndWorld.sent_len.Goals as goal

pub returns : goal.returns
returns c = c.len.ensures ∙ sym (length-ring c.args.self.now.outgoing.now c.args.self.now.sent.head c.args.self.now.sent.count)
