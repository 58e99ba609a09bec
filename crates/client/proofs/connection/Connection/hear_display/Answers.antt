use Rattle.std.proofs.Common.{rules, ap, ◌≤◌, subst, sym}
use Rattle.object_map.specs.Map.{map_of}
use Rattle.client.specs.State.{moment_of}
use Rattle.client.proofs.Holdings.{held_lens, display_error, display_quiet}
use Rattle.client.proofs.connection.Connection.hear_display.Goals as goal

pub returns-then-opcode-eq0 : goal.returns-then-opcode-eq0
returns-then-opcode-eq0 c = λ xs h a b e.
    let l = subst (λ n. n ≤ 1024) (sym (held_lens xs c.args.args.now c.args.text.now h)) h.1 in
    let k = c.hear_error.ensures.left l in
    display_error (moment_of c.args.self.now c.args.client.now c.args.server.now e) c.args.opcode xs c.args.args.now a c.args.text.now b c.args.fault_text.now c.hear_error.new.fault_text _ _ _ h (search rules) (c.hear_error.ensures.answer l) k.0 (ap (λ w. map_of w c.args.client.now c.args.server.now) k.1) (c.hear_error.ensures.told l)

pub returns : goal.returns
returns c = λ xs h a b e.
    display_quiet (moment_of c.args.self.now c.args.client.now c.args.server.now e) c.args.opcode xs c.args.args.now a c.args.text.now b c.args.fault_text.now (map_of c.args.self.now.map c.acknowledge.new.client c.acknowledge.new.server) h (search rules) (search rules)
