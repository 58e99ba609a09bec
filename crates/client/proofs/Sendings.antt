-- What an accepted request leaves, from what its steps in the code leave.
use Rattle.std.proofs.Common.{◌≡◌, ℕ, Bool, true, cond, Ok, None, Some, Option, ap, sym, ◌∙◌}
use Rattle.std.proofs.lemmas.Bool.{cond-true}
use Rattle.object_map.specs.Map.{Map, fits}
use Rattle.protocol.specs.declared.id.ObjectId.{ObjectId}
use Rattle.protocol.specs.declared.refusal.Refusal.TheVariants.{BadRoom}
use Rattle.transport.specs.Drafts.{with_child, spoken}
use Rattle.transport.specs.Ends.{End, putting}
use Rattle.transport.specs.declared.outgoing.Outgoing.{Outgoing}
use Rattle.client.specs.Calls.{send_request, rooms_of, with_put, with_birth, child_handle, sending_checked, defined}
use Rattle.client.specs.Coded.{request_of, Carries, outgoing_with}
use Rattle.client.specs.Requests.{Table, Request, Sending, checked, frame_for, placing}
use Rattle.client.specs.State.{Conn, Moment, next_serial, client_marked, changed_at, notice_of, none, sent, refuse}
use Rattle.client.specs.declared.object.Notice.{Notice}
use Rattle.client.specs.declared.object.Object.{Object}
use Rattle.client.specs.declared.requests.Request.{Request as CodeRequest}

-- a message that carries a request is its frame
pub carried : (r : CodeRequest) (o : Outgoing) (n : ℕ) → Carries r o → outgoing_with n o ≡ frame_for (request_of r) n
carried r o n k = k.1 n ∙ ap (λ d. spoken (with_child n d)) k.0

-- the steps of an accepted request
pub send_left : (t : Table) (m : Moment) (r : Request) (x : Sending) → fits m.slots ≡ true → checked t m.slots (next_serial m.conn.last_serial) r ≡ Ok x → (b : Bool) → x.desc.destructor ≡ b → (h : ObjectId) (o : Option Notice) (k : Conn) (s : Map Object) (e : End) → o ≡ cond b (Some (notice_of r.sender.number x.by)) None → h ≡ child_handle x.child → k ≡ with_put (putting (frame_for r h.number) m.end).0 (with_birth x.child m.conn) → s ≡ cond b (changed_at client_marked r.sender.number (placing x.child m.slots)) (placing x.child m.slots) → e ≡ (putting (frame_for r h.number) m.end).1 → defined t m (send_request r) ≡ record { answer = Ok (sent h o); moment = record { conn = k; slots = s; end = e }; rooms = none }
send_left t m r x f c b d h o k s e oq hq kq sq eq =
    let p = λ (y : ObjectId). putting (frame_for r y.number) m.end in
    cond-true (fits m.slots) (sending_checked m r (checked t m.slots (next_serial m.conn.last_serial) r)) (refuse BadRoom m (rooms_of (send_request r))) f
    ∙ (ap (sending_checked m r) c
    ∙ λ i. record {
      answer = Ok (sent (sym hq i) ((ap (λ y. cond y (Some (notice_of r.sender.number x.by)) None) d ∙ sym oq) i));
      moment = record {
        conn = (ap (λ y. with_put (p y).0 (with_birth x.child m.conn)) (sym hq) ∙ sym kq) i;
        slots = (ap (λ y. cond y (changed_at client_marked r.sender.number (placing x.child m.slots)) (placing x.child m.slots)) d ∙ sym sq) i;
        end = (ap (λ y. (p y).1) (sym hq) ∙ sym eq) i;
      };
      rooms = none;
    })
