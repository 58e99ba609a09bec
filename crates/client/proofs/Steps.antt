-- What it is for a call to take the course that the history gives it.
use Rattle.std.proofs.Common.{◌≡◌, ℕ, Bool, true, false, cond, is_ok, Ok, sym, refl, ap, subst, arith}
use Rattle.object_map.specs.Map.{Map}
use Rattle.protocol.specs.declared.refusal.Refusal.{Refusal}
use Rattle.transport.specs.Ends.{End}
use Rattle.client.specs.Calls.{Call}
use Rattle.client.specs.Course.{Course, may, course}
use Rattle.client.specs.Ledger.{Account}
use Rattle.client.specs.Requests.{Table}
use Rattle.client.specs.State.{Moment, Rooms, Left, refuse}
use Rattle.client.specs.declared.object.Object.{Object}
use Rattle.client.proofs.Agreement.{Agreed}

-- a moment whose connection is the account's
abbrev pub moment_at : Account → Map Object → End → Moment
moment_at a s e = record { conn = a.conn; slots = s; end = e }

-- what is left is accepted exactly when it may be, and then is what the course says; the slots agree with the account
pub record Came (a : Account) (ok : Bool) (k : Course) (x : Left) : Type 0 where
  pub accepts : is_ok x.answer ≡ ok
  pub reply : ok ≡ true → x.answer ≡ Ok k.reply
  pub rooms : ok ≡ true → x.rooms ≡ k.rooms
  pub end : ok ≡ true → x.moment.end ≡ k.end
  pub conn : x.moment.conn ≡ (cond ok k.account a).conn
  pub agreed : Agreed x.moment.slots (cond ok k.account a)

-- of a call
abbrev pub Stepped : Table → Account → End → Call → Left → Type 0
Stepped t a e c x = Came a (may t a c) (course t a e c) x

-- a refusal
pub refusing : (a : Account) (s : Map Object) (e : End) (ok : Bool) (k : Course) (r : Refusal) (rooms : Rooms) → ok ≡ false → Agreed s a → Came a ok k (refuse r (moment_at a s e) rooms)
refusing a s e ok k r rooms n g =
    subst (λ b. Came a b k (refuse r (moment_at a s e) rooms)) (sym n)
    (record { accepts = refl; reply = λ y. never y; rooms = λ y. never y; end = λ y. never y; conn = refl; agreed = g })
  where
    never : {P : Type 0} → false ≡ true → P
    never y = let z : ◌≡◌ {A = ℕ} 0 1 = cc in absurd (omega arith)

-- an acceptance
pub accepting : (a : Account) (ok : Bool) (k : Course) (x : Left) → ok ≡ true → x.answer ≡ Ok k.reply → x.rooms ≡ k.rooms → x.moment.end ≡ k.end → x.moment.conn ≡ k.account.conn → Agreed x.moment.slots k.account → Came a ok k x
accepting a ok k x y r o e c g =
    subst (λ b. Came a b k x) (sym y)
    (record { accepts = ap is_ok r; reply = λ _. r; rooms = λ _. o; end = λ _. e; conn = c; agreed = g })
