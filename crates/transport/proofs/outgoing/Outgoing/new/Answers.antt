use Rattle.std.proofs.Common.{◌≡◌, true, leb, length, sym}
use Rattle.std.proofs.lemmas.Bool.{le-leb, and_from, cond-true}
use Rattle.transport.specs.Drafts.{sendable, accepted}
use Rattle.transport.proofs.Sending.{accepted_whole}
use Rattle.transport.proofs.outgoing.Outgoing.new.Goals as goal

pub returns : goal.returns
returns c =
    let t : accepted c.args.args.now c.args.text.now ≡ true =
    and_from (leb (length c.args.args.now) 20) (sendable 1024 c.args.text.now c.args.args.now) (le-leb _ _ c.if-args-gt-MAX_ARGS.false) (sym c.if-not-all_sendable.ensures) in
    record {
      defined = sym (cond-true (accepted c.args.args.now c.args.text.now) _ _ t);
      whole = accepted_whole c.args.sender c.args.opcode 0 c.args.args.now c.args.text.now t;
    }
