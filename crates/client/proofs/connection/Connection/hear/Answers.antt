use Rattle.std.proofs.Common.{rules, ◌≡◌, Ok, ◌++◌, length, drop, subst, sym, ◌∙◌, arith}
use Rattle.std.proofs.lemmas.Bool.{cond-true, cond-false, eq-eqb, ne_eqb}
use Rattle.std.proofs.lemmas.List.{take-append-drop, length-take}
use Rattle.object_map.specs.Map.{map_of, lookup}
use Rattle.protocol.specs.Descriptions.{message_of}
use Rattle.protocol.specs.Lookups.{table_of}
use Rattle.client.specs.Calls.{sent_by}
use Rattle.client.specs.Coded.{Leaves, next_reply, rooms_in}
use Rattle.client.specs.State.{moment_of}
use Rattle.client.proofs.Takings.{taken_args, taken_texts, taken_first}
use Rattle.client.proofs.connection.Connection.hear.Goals as goal

pub returns-then-sender-eq1 : goal.returns-then-sender-eq1
returns-then-sender-eq1 g c =
    let e = g.E.Transport.means c.take_first.new.end in
    let m = moment_of c.args.self.now c.args.client.now c.args.server.now (g.E.Transport.means c.args.end.now) in
    let w = c.in-Some-take_first.ensures in
    let a = c.take_first.new.args in
    let b = c.take_first.new.text in
    let n = c.in-Some-take_first.count in
    let p = taken_first (table_of c.args.table.now) m c.args.settled c.args.sender c.args.opcode n c.in-Some.receiver (message_of c.in-Some-event.desc) e c.args.args.now a c.args.text.now b c.args.fault_text.now (search rules) (search rules) w in
    let q = c.hear_display.ensures w.values (taken_args w, w.short, taken_texts w) a b e in
    subst (λ r. Leaves (sent_by (table_of c.args.table.now) m (rooms_in c.args.args.now c.args.text.now c.args.fault_text.now) c.args.settled c.args.sender c.args.opcode (lookup c.args.sender (map_of c.args.self.now.map c.args.client.now c.args.server.now))) (Ok (next_reply c.hear_display.result)) (moment_of c.hear_display.new.self c.hear_display.new.client c.hear_display.new.server e) (rooms_in r b c.hear_display.new.fault_text))
    (sym (take-append-drop n a))
    (p ∙ (cond-true _ _ _ (eq-eqb c.args.sender 1 c.if-sender-eq1.true) ∙ q))

pub returns : goal.returns
returns g c =
    let e = g.E.Transport.means c.take_first.new.end in
    let m = moment_of c.args.self.now c.args.client.now c.args.server.now (g.E.Transport.means c.args.end.now) in
    let w = c.in-Some-take_first.ensures in
    let a = c.take_first.new.args in
    let b = c.take_first.new.text in
    let n = c.in-Some-take_first.count in
    let p = taken_first (table_of c.args.table.now) m c.args.settled c.args.sender c.args.opcode n c.in-Some.receiver (message_of c.in-Some-event.desc) e c.args.args.now a c.args.text.now b c.args.fault_text.now (search rules) (search rules) w in
    let q = c.hear_event.ensures e (rooms_in a b c.args.fault_text.now) in
    let l : length c.hear_event.new.args ≡ n = let k = c.hear_event.auto.args in let j = length-take n a in let f = w.fit in omega (arith, k, j, f) in
    subst (λ k. Leaves (sent_by (table_of c.args.table.now) m (rooms_in c.args.args.now c.args.text.now c.args.fault_text.now) c.args.settled c.args.sender c.args.opcode (lookup c.args.sender (map_of c.args.self.now.map c.args.client.now c.args.server.now))) (Ok (next_reply c.hear_event.result)) (moment_of c.hear_event.new.self c.hear_event.new.client c.hear_event.new.server e) (rooms_in (c.hear_event.new.args ++ drop k a) b c.args.fault_text.now))
    l
    (p ∙ (cond-false _ _ _ (ne_eqb c.args.sender 1 c.if-sender-eq1.false) ∙ q))
