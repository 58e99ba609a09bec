use Rattle.std.proofs.Common.{rules, true, false, Some, None, refl, ap, ap₂, ◌∙◌}
use Rattle.object_map.specs.Map.{map_of}
use Rattle.protocol.specs.Descriptions.{message_of}
use Rattle.protocol.specs.Lookups.{table_of}
use Rattle.transport.specs.Ends.{putting}
use Rattle.client.specs.Calls.{with_put}
use Rattle.client.specs.Coded.{request_of}
use Rattle.client.specs.State.{conn_of, moment_of, changed_at, client_marked}
use Rattle.client.proofs.Sendings.{carried, send_left}
use Rattle.client.proofs.connection.Connection.send.Goals as goal

pub returns-then-sending : goal.returns-then-sending
returns-then-sending g c =
    let m = g.E.Transport.means c.args.end.now in
    let x = c.in_ok-sending.sending in
    let k = c.in_ok-sending.ensures in
    let f = carried c.args.request.now x.message c.place-child.result.number k.1 in
    let u = c.put.ensures in
    send_left (table_of c.args.table.now) (moment_of c.args.self.now c.args.client.now c.args.server.now m) (request_of c.args.request.now) (record { by = x.by; desc = message_of x.desc; child = x.child }) (search rules) k.0 true c.if-sending.true
    c.place-child.result (Some c.notice.result) (conn_of c.put.new.self) (map_of c.put.new.self.map c.mark_client.new.client c.mark_client.new.server) (g.E.Transport.means c.put.new.end)
    (ap Some c.notice.ensures)
    c.place-child.ensures.handle
    (u.0 ∙ ap₂ (λ w q. with_put (putting w m).0 q) f c.place-child.ensures.conn)
    (c.mark_client.ensures ∙ ap (changed_at client_marked c.args.request.now.sender.number) (ap (λ w. map_of w c.place-child.new.client c.args.server.now) u.1 ∙ c.place-child.ensures.slots.0))
    (u.2 ∙ ap (λ w. (putting w m).1) f)

pub returns-else-sending : goal.returns-else-sending
returns-else-sending g c =
    let m = g.E.Transport.means c.args.end.now in
    let x = c.in_ok-sending.sending in
    let k = c.in_ok-sending.ensures in
    let f = carried c.args.request.now x.message c.place-child.result.number k.1 in
    let u = c.put.ensures in
    send_left (table_of c.args.table.now) (moment_of c.args.self.now c.args.client.now c.args.server.now m) (request_of c.args.request.now) (record { by = x.by; desc = message_of x.desc; child = x.child }) (search rules) k.0 false c.if-sending.false
    c.place-child.result None (conn_of c.put.new.self) (map_of c.put.new.self.map c.place-child.new.client c.args.server.now) (g.E.Transport.means c.put.new.end)
    refl
    c.place-child.ensures.handle
    (u.0 ∙ ap₂ (λ w q. with_put (putting w m).0 q) f c.place-child.ensures.conn)
    (ap (λ w. map_of w c.place-child.new.client c.args.server.now) u.1 ∙ c.place-child.ensures.slots.0)
    (u.2 ∙ ap (λ w. (putting w m).1) f)
