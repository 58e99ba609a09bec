-- Tenancies: who held which number, reckoned without a look into the slots.
use Rattle.std.specs.Prelude.{ℕ, zero, suc, ◌+◌, Bool, true, false, cond, not, ◌&&◌, List, [], ◌∷◌, map, length, is_some, Some, None, Option, ◌==◌}
use Rattle.protocol.specs.declared.id.ObjectId.{ObjectId}
use Rattle.client.specs.State.{Look, Conn, next_serial, with_serial}
use Rattle.client.specs.declared.object.Object.{Object}

-- a tenancy: the time during which an object holds a number. It is known by its place in the order of births
pub record Tenancy : Type 0 where
  pub number : ℕ
  pub object : Object
  pub over : Bool

-- all tenancies so far, the newest first
abbrev pub Ledger : Type 0
Ledger = List Tenancy

-- it lasts, at this number
abbrev pub lives_at : ℕ → Tenancy → Bool
lives_at n t = t.number == n && not t.over

-- the object whose tenancy lasts at a number
abbrev pub tenant_in : Ledger → Look
tenant_in [] n = None
tenant_in (t ∷ l) n = cond (lives_at n t) (Some t.object) (tenant_in l n)

-- the tenancy that lasts at a number
abbrev pub holder : ℕ → Ledger → Option ℕ
holder n [] = None
holder n (t ∷ l) = cond (lives_at n t) (Some (length l)) (holder n l)

-- the k-th tenancy
abbrev pub tenancy : ℕ → Ledger → Option Tenancy
tenancy k [] = None
tenancy k (t ∷ l) = cond (k == length l) (Some t) (tenancy k l)

-- it has begun and is not over
abbrev pub lasts : ℕ → Ledger → Bool
lasts k [] = false
lasts k (t ∷ l) = cond (k == length l) (not t.over) (lasts k l)

-- how many are over
abbrev pub overs : Ledger → ℕ
overs [] = 0
overs (t ∷ l) = cond t.over 1 0 + overs l

-- the numbers that were used, the newest first
abbrev pub numbers : Ledger → List ℕ
numbers l = map (λ (t : Tenancy). t.number) l

-- the object at a number is changed
abbrev pub amended : (Object → Object) → ℕ → Tenancy → Tenancy
amended f n t = record { number = t.number; object = cond (lives_at n t) (f t.object) t.object; over = t.over }

abbrev pub amend : (Object → Object) → ℕ → Ledger → Ledger
amend f n l = map (amended f n) l

-- the tenancy at a number ends, if its object is client_destroyed
abbrev pub concluded : ℕ → Tenancy → Tenancy
concluded n t = record { number = t.number; object = t.object; over = cond (lives_at n t && t.object.client_destroyed) true t.over }

abbrev pub conclude : ℕ → Ledger → Ledger
conclude n l = map (concluded n) l

-- an object is born at a number
abbrev pub birth : ℕ → Object → Ledger → Ledger
birth n o l = record { number = n; object = o; over = false } ∷ conclude n l

-- the smallest of k numbers from n on at which nobody is
abbrev pub free_from : ℕ → ℕ → Look → Option ℕ
free_from zero n look = None
free_from (suc k) n look = cond (is_some (look n)) (free_from k (n + 1) look) (Some n)

-- what a history comes to: the tenancies; the handles given out, each with the tenancy that it was given for; how many
-- serials were drawn; the tenancy that the event in hand is for; the places of the rooms; the connection
pub record Account : Type 0 where
  pub ledger : Ledger
  pub given : List (ObjectId × Option ℕ)
  pub drawn : ℕ
  pub hand : Option ℕ
  pub client_places : ℕ
  pub server_places : ℕ
  pub conn : Conn

abbrev pub with_ledger : Ledger → Account → Account
with_ledger l a = record { ledger = l; given = a.given; drawn = a.drawn; hand = a.hand; client_places = a.client_places; server_places = a.server_places; conn = a.conn }

abbrev pub with_conn : Conn → Account → Account
with_conn c a = record { ledger = a.ledger; given = a.given; drawn = a.drawn; hand = a.hand; client_places = a.client_places; server_places = a.server_places; conn = c }

abbrev pub with_given : List (ObjectId × Option ℕ) → Account → Account
with_given g a = record { ledger = a.ledger; given = g; drawn = a.drawn; hand = a.hand; client_places = a.client_places; server_places = a.server_places; conn = a.conn }

abbrev pub with_hand : Option ℕ → Account → Account
with_hand k a = record { ledger = a.ledger; given = a.given; drawn = a.drawn; hand = k; client_places = a.client_places; server_places = a.server_places; conn = a.conn }

-- a handle, with the tenancy then at its number
abbrev pub for_tenancy : Ledger → ObjectId → ObjectId × Option ℕ
for_tenancy l h = (h, holder h.number l)

-- a handle is given out
abbrev pub give : ObjectId → Account → Account
give h a = with_given (for_tenancy a.ledger h ∷ a.given) a

-- a serial is drawn
abbrev pub draw : Account → Account
draw a = record { ledger = a.ledger; given = a.given; drawn = a.drawn + 1; hand = a.hand; client_places = a.client_places; server_places = a.server_places; conn = with_serial (next_serial a.conn.last_serial) a.conn }

-- and an object is born with it
abbrev pub bear : ℕ → Object → Account → Account
bear n o a = with_ledger (birth n o a.ledger) (draw a)
