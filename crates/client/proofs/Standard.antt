-- That every run keeps to what the Wayland protocol says.
use Rattle.std.proofs.Common.{◌≡◌, ℕ, zero, suc, ◌+◌, ◌-◌, ◌^◌, ◌<◌, ◌≤◌, Bool, true, false, cond, not, ◌&&◌, ◌||◌, eqb, List, [], ◌∷◌, length, is_some, is_ok, Some, None, Ok, Err, Option, sym, refl, ap, ◌∙◌, subst, inl, inr, arith, ltb, leb-true}
use Rattle.std.proofs.lemmas.Bool.{cond-true, cond-false, cases_Bool, cases_eq, eq-eqb, ne_eqb, and_parts, and_left, lt-leb, cond_both}
use Rattle.std.proofs.Math.Bool.{or-false}
use Rattle.std.specs.List.{slice_get}
use Rattle.std.specs.Option.{option_map}
use Rattle.object_map.specs.Map.{fits, lookup}
use Rattle.object_map.specs.Runs.{member, first, dense}
use Rattle.protocol.proofs.CoreFound.{core_found}
use Rattle.protocol.specs.Core.{plain}
use Rattle.protocol.specs.Descriptions.{Description}
use Rattle.protocol.specs.Descriptions.{Message as Message'}
use Rattle.protocol.specs.Lookups.{null_id}
use Rattle.protocol.specs.Words.{Sound}
use Rattle.protocol.specs.declared.argument.Argument.{Argument}
use Rattle.protocol.specs.declared.argument.Argument.TheVariants.{Int, Uint as UintArg, Fixed, Str, Object as Object', NewId, Array, Fd}
use Rattle.protocol.specs.declared.argument.ArgumentType.TheVariants.{Uint}
use Rattle.protocol.specs.declared.error.WaylandError.{WaylandError}
use Rattle.protocol.specs.declared.error.WaylandError.TheVariants.{Io}
use Rattle.protocol.specs.declared.id.ObjectId.{ObjectId}
use Rattle.protocol.specs.declared.refusal.Refusal.TheVariants.{BadToken, BadRoom}
use Rattle.transport.specs.Layout.{laid}
use Rattle.transport.specs.Ends.{fault, leaving, frames, first_of, take_of, first_or, first_in}
use Rattle.transport.specs.Wire.{Message, message, uint}
use Rattle.client.specs.Calls.{Call, read, resume, next, send_request, flush, rooms_of, fillable, round_of, acknowledged, taken_into, without, taken, described, sent_by, next_in, nexting, conn_left, waiting_of, one_less, holds_intent, reading_alone, beginning, fault_or_done, resuming, flushing_in, defined}
use Rattle.client.specs.Course.{known, in_round, may, Course, over_as, over_by, Reading', readable, Hearing, showing, Heard, hear_found, may_be_born, hear_arg, hear_all, hear_display, frame_course, next_course, settled_in, course, reckon}
use Rattle.client.specs.Events.{walk, newborn, or_anonymous}
use Rattle.client.specs.Law.{Law, Made, takes_delete, occasion}
use Rattle.client.specs.Ledger.{Tenancy, Ledger, tenancy, lasts, numbers, conclude, birth, concluded}
use Rattle.client.specs.Requests.{Table, Request, creates, child_for, suits}
use Rattle.client.specs.Requests.{first as first'}
use Rattle.client.specs.Runs.{History, creation, add, entry, Run, made, world, called}
use Rattle.client.specs.Standard.{Lasted, Released, Acknowledged, Standard, StandardOverRuns, BornOf}
use Rattle.client.specs.State.{changed_at, emptied_at, server_marked, resolved, Conn, Moment, with_slots, next_serial, Rooms, none, Reply, waits, round, faulted, quiet, sent, Left, leave, refuse}
use Rattle.client.specs.declared.connection.Phase.{Phase}
use Rattle.client.specs.declared.connection.Phase.TheVariants.{Idle, Reading, Handed}
use Rattle.client.specs.declared.connection.ReadIntent.{ReadIntent}
use Rattle.client.specs.declared.connection.Round.{Round}
use Rattle.client.specs.declared.connection.WaitingRead.{WaitingRead}
use Rattle.client.specs.declared.object.ChildSpec.{ChildSpec}
use Rattle.client.specs.declared.object.Notice.{Notice}
use Rattle.client.specs.declared.object.Object.{Object}
use Rattle.client.proofs.Agreement.{display_as}
use Rattle.client.proofs.Balances as balances
use Rattle.client.proofs.Follows.{free_is, onward_both, heard_ledger_lem}
use Rattle.client.proofs.Slots.{emptied_poked, changed_poked}
use Rattle.client.proofs.Tenants.{living, amend_length, conclude_length, tenancy_below}
use Rattle.client.proofs.Wakes as wakes
use Rattle.client.proofs.Whole.{Holds, holds, becomes, law_over_runs}

never : {P : Type 0} → true ≡ false → P
never e = let z : ◌≡◌ {A = ℕ} 0 1 = cc in absurd (omega arith)

positive : (n : ℕ) → (n ≡ 0 → ⊥) → 1 ≤ n
positive zero ne = absurd (ne refl)
positive (suc n) ne = omega arith

-- nobody is at 0
no_zero : (h : List ℕ) → dense h ≡ true → member 0 h ≡ false
no_zero [] d = refl
no_zero (n ∷ h) d =
    let p = and_parts (first n || member (n - 1) h) (dense h) d in
    let ih = no_zero h p.1 in
    elim (cases_eq 0 n) [
      | inl e ↦ never (sym p.0 ∙ (ap (λ k. first k || member (k - 1) h) (sym e) ∙ ih))
      | inr ne ↦ ap (λ b. b || member 0 h) (ne_eqb 0 n ne) ∙ ih
    ]

-- a tenancy's number is among those that were used
listed : (k : ℕ) (l : Ledger) (y : Tenancy) → tenancy k l ≡ Some y → member y.number (numbers l) ≡ true
listed k [] y e = let z : ◌≡◌ {A = ℕ} 0 1 = cc in absurd (omega arith)
listed k (x ∷ l) y e = go (listed k l y) (eqb k (length l)) e
  where
    or_true : (a : Bool) → (a || true) ≡ true
    or_true true = refl
    or_true false = refl

    go : (tenancy k l ≡ Some y → member y.number (numbers l) ≡ true) → (b : Bool) → cond b (Some x) (tenancy k l) ≡ Some y → (eqb y.number x.number || member y.number (numbers l)) ≡ true
    go ih true e = let q : x ≡ y = cc in ap (λ b. b || member y.number (numbers l)) (eq-eqb y.number x.number (ap (λ (z : Tenancy). z.number) (sym q)))
    go ih false e = ap (λ b. eqb y.number x.number || b) (ih e) ∙ or_true (eqb y.number x.number)

-- a tenancy that lasts is there, and not over
there : (k : ℕ) (l : Ledger) → lasts k l ≡ true → (y : Tenancy) × (tenancy k l ≡ Some y) × (y.over ≡ false)
there k [] e = never (sym e)
there k (x ∷ l) e = go (there k l) (eqb k (length l)) e
  where
    go : (lasts k l ≡ true → (y : Tenancy) × (tenancy k l ≡ Some y) × (y.over ≡ false)) → (b : Bool) → cond b (not x.over) (lasts k l) ≡ true → (y : Tenancy) × (cond b (Some x) (tenancy k l) ≡ Some y) × (y.over ≡ false)
    go ih true e = (x, refl, flip x.over e)
      where
        flip : (b : Bool) → not b ≡ true → b ≡ false
        flip true q = sym q
        flip false q = refl
    go ih false e = ih e

-- below the server's range the only occasion to end is a delete_id
only_deleted : (t : Table) (m : Moment) (c : Call) (h : History) (n : ℕ) → n < 0xFF00_0000 → occasion m c (defined t m c) (reckon t h) (reckon t (add (entry t m c) h)) n ≡ true → takes_delete m c (defined t m c) n ≡ true
only_deleted t m c h n low o = sym (or-false _) ∙ (ap (λ b. takes_delete m c (defined t m c) n || b) (sym (and_left _ _ (lt-leb 0xFF00_0000 n low))) ∙ o)

-- a tenancy that lasted is on the books
booked : {t : Table} {h : History} {m : Moment} → Sound t → Run t h m → (k : ℕ) → Lasted t k h → (y : Tenancy) × (tenancy k (reckon t h).ledger ≡ Some y)
booked {t} so (made number c s e l gr) k a = let z = there k (reckon t (creation number (length c) (length s))).ledger a in (z.0, z.1)
booked so (world run ch) k a = booked so run k a
booked {t} so (called {h} {m} run c) k (inl a) =
    let y = booked so run k a in
    let f = becomes t h m so (balances.grounded run) (holds so run) c k y.0 y.1 in
    (f.then', f.is)
booked {t} so (called {h} {m} run c) k (inr a) = let z = there k (reckon t (add (entry t m c) h)).ledger a in (z.0, z.1)

-- what was over was over before, or its number is released by this call
over_now : (t : Table) (k : ℕ) (c : Call) (h : History) (m : Moment) (x y : Tenancy) (q : Bool) → tenancy k (reckon t h).ledger ≡ Some x → y.over ≡ (x.over || (x.object.client_destroyed && q)) → y.over ≡ true → (q ≡ true → takes_delete m c (defined t m c) x.number ≡ true) → (x.over ≡ true → Released t k h) → Released t k (add (entry t m c) h)
over_now t k c h m x y q ex o gone del ih = go x.over refl
  where
    go : (b : Bool) → x.over ≡ b → Released t k (add (entry t m c) h)
    go true e = inl (ih e)
    go false e =
        let p : (x.object.client_destroyed && q) ≡ true = ap (λ b. b || (x.object.client_destroyed && q)) (sym e) ∙ (sym o ∙ gone) in
        let r = and_parts _ _ p in
        inr (x, ex, r.0, del r.1)

released : {t : Table} {h : History} {m : Moment} → Sound t → Run t h m → (k : ℕ) (y : Tenancy) → Lasted t k h → tenancy k (reckon t h).ledger ≡ Some y → y.over ≡ true → y.number < 0xFF00_0000 → Released t k h
released {t} so (made number c s e l gr) k y a i o low =
    let z = there k (reckon t (creation number (length c) (length s))).ledger a in
    let p : Some z.0 ≡ Some y = sym z.1 ∙ i in
    let q : z.0 ≡ y = cc in
    never (sym (ap (λ (x : Tenancy). x.over) q ∙ o) ∙ z.2)
released so (world run ch) k y a i o low = released so run k y a i o low
released {t} so (called {h} {m} run c) k y (inr a) i o low =
    let z = there k (reckon t (add (entry t m c) h)).ledger a in
    let p : Some z.0 ≡ Some y = sym z.1 ∙ i in
    let q : z.0 ≡ y = cc in
    never (sym (ap (λ (x : Tenancy). x.over) q ∙ o) ∙ z.2)
released {t} so (called {h} {m} run c) k y (inl a) i o low =
    let x = booked so run k a in
    let f = becomes t h m so (balances.grounded run) (holds so run) c k x.0 x.1 in
    let p : Some f.then' ≡ Some y = sym f.is ∙ i in
    let q : f.then' ≡ y = cc in
    let n : y.number ≡ (x.0).number = sym (ap (λ (z : Tenancy). z.number) q) ∙ f.number in
    let lx : (x.0).number < 0xFF00_0000 = subst (λ j. j < 0xFF00_0000) n low in
    over_now t k c h m x.0 y _ x.1 (sym (ap (λ (z : Tenancy). z.over) q) ∙ f.over) o (only_deleted t m c h (x.0).number lx) (λ e. released so run k x.0 a x.1 e lx)

-- a tenancy after an end is one before it, but for being over
unconcluded : (n k : ℕ) (l : Ledger) (y : Tenancy) → tenancy k (conclude n l) ≡ Some y → (x : Tenancy) × (tenancy k l ≡ Some x) × (y.number ≡ x.number) × (y.object ≡ x.object)
unconcluded n k [] y e = let z : ◌≡◌ {A = ℕ} 0 1 = cc in absurd (omega arith)
unconcluded n k (x ∷ l) y e = go (unconcluded n k l y) (eqb k (length l)) (ap (λ j. cond (eqb k j) (Some (concluded n x)) (tenancy k (conclude n l))) (sym (conclude_length n l)) ∙ e)
  where
    go : (tenancy k (conclude n l) ≡ Some y → (z : Tenancy) × (tenancy k l ≡ Some z) × (y.number ≡ z.number) × (y.object ≡ z.object)) → (b : Bool) → cond b (Some (concluded n x)) (tenancy k (conclude n l)) ≡ Some y → (z : Tenancy) × (cond b (Some x) (tenancy k l) ≡ Some z) × (y.number ≡ z.number) × (y.object ≡ z.object)
    go ih true q = let p : concluded n x ≡ y = cc in (x, refl, ap (λ (w : Tenancy). w.number) (sym p), ap (λ (w : Tenancy). w.object) (sym p))
    go ih false q = ih q

-- what an event's arguments begin
module _ (t : Table) (by : Object) (d : Message') (b : ℕ) where
  abbrev Births : Ledger → Type 0
  Births l = (k : ℕ) (y : Tenancy) → b ≤ k → tenancy k l ≡ Some y → BornOf by y

  same_born : (x y : Tenancy) → y.number ≡ x.number → y.object ≡ x.object → BornOf by x → BornOf by y
  same_born x y n o w = record {
    range = subst (λ j. 0xFF00_0000 ≤ j) (sym n) w.range;
    version = ap (λ (z : Object). z.version) o ∙ w.version;
    destroyed = ap (λ (z : Object). z.client_destroyed) o ∙ w.destroyed;
    content = ap (λ (z : Object). z.«data») o ∙ w.content;
  }

  born : (n i serial : ℕ) (l : Ledger) → 0xFF00_0000 ≤ n → Births l → Births (birth n (newborn by i serial) l)
  born n i serial l le w k y q e = go (eqb k (length (conclude n l))) e
    where
      go : (c : Bool) → cond c (Some (record { number = n; object = newborn by i serial; over = false })) (tenancy k (conclude n l)) ≡ Some y → BornOf by y
      go true e =
          let p : record { number = n; object = newborn by i serial; over = false } ≡ y = cc in
          same_born (record { number = n; object = newborn by i serial; over = false }) y (ap (λ (x : Tenancy). x.number) (sym p)) (ap (λ (x : Tenancy). x.object) (sym p)) (record { range = le; version = refl; destroyed = refl; content = refl })
      go false e = let u = unconcluded n k l y e in same_born u.0 y u.2 u.3 (w k u.0 q u.1)

  hear_born_arg : (q : Hearing) (x : Argument ObjectId) → Births q.account.ledger → Births ((hear_arg t by d q x).1).account.ledger
  hear_born_arg q (Int x) w = w
  hear_born_arg q (UintArg x) w = w
  hear_born_arg q (Fixed x) w = w
  hear_born_arg q (Str x) w = w
  hear_born_arg q (Object' x) w = found (eqb x.number 0) (known q.account x.number)
    where
      found : (c : Bool) (v : Option Object) → Births ((cond c (Ok (Object' null_id), showing null_id q) (hear_found t q x.number v)).1).account.ledger
      found true v = w
      found false None = w
      found false (Some o) = cond_both (suits t (first' q.wants) o.interface) _ _ (λ (z : Heard). Births (z.1).account.ledger) (λ _. w) (λ _. w)
  hear_born_arg q (NewId x) w =
      cond_both (may_be_born x.number q.account.ledger) _ _ (λ (z : Heard). Births (z.1).account.ledger)
      (λ y. cond_both (ltb x.number (0xFF00_0000 + q.account.server_places)) _ _ (λ (z : Heard). Births (z.1).account.ledger)
      (λ _. born x.number (or_anonymous d.child) (next_serial q.account.conn.last_serial) q.account.ledger (leb-true 0xFF00_0000 x.number (and_parts _ _ y).0) w)
      (λ _. w))
      (λ _. w)
  hear_born_arg q (Array x) w = w
  hear_born_arg q (Fd x) w = w

  walk_born : (xs done : List (Argument ObjectId)) (q : Hearing) → Births q.account.ledger → Births (walk (hear_arg t by d) q done xs).state.account.ledger
  walk_born [] done q w = w
  walk_born (x ∷ xs) done q w =
      onward_both (λ (z : Hearing). Births z.account.ledger) (hear_arg t by d q x) done x xs _ (hear_born_arg q x w)
      (λ dn. walk_born xs dn (hear_arg t by d q x).1 (hear_born_arg q x w))

module _ (t : Table) (h : History) (m : Moment) (so : Sound t) (run : Run t h m) where
  law : Law t h m
  law = law_over_runs t h m so run

  agreed : Holds t h m
  agreed = holds so run

  never_null : (k : ℕ) (y : Tenancy) → tenancy k (reckon t h).ledger ≡ Some y → y.number ≡ 0 → ⊥
  never_null k y e z = never (sym (listed k (reckon t h).ledger y e) ∙ (ap (λ n. member n (numbers (reckon t h).ledger)) z ∙ no_zero (numbers (reckon t h).ledger) agreed.agreed.order))

  -- the number of a child is below 65,537, and nobody is there
  free_child : (r : Request) (x : ObjectId) (o : Option Notice) → (defined t m (send_request r)).answer ≡ Ok (sent x o) → (x.number ≡ 0 → ⊥) → (x.number < 1 + 2 ^ 16) × (known (reckon t h) x.number ≡ None)
  free_child r x o e ne = go (law.makes r x o e)
    where
      go : Made t (reckon t h) (reckon t (add (entry t m (send_request r)) h)) r x → (x.number < 1 + 2 ^ 16) × (known (reckon t h) x.number ≡ None)
      go w = elim (cases_Bool (creates w.desc)) [
        | inl y ↦ (let f = free_is (reckon t h).client_places 1 (known (reckon t h)) x.number (w.child y).2 in let f0 = f.0 in let few = agreed.agreed.few in (omega arith, f.1))
        | inr n ↦ absurd (ne (ap (λ (z : ObjectId). z.number) (w.nothing n).0))
      ]

  -- whoever held its number is over
  left_behind : (r : Request) (x : ObjectId) (o : Option Notice) → (defined t m (send_request r)).answer ≡ Ok (sent x o) → (x.number ≡ 0 → ⊥) → (k : ℕ) (y : Tenancy) → tenancy k (reckon t h).ledger ≡ Some y → y.number ≡ x.number → (b : Bool) → y.over ≡ b → b ≡ true
  left_behind r x o e ne k y i n true q = refl
  left_behind r x o e ne k y i n false q =
      let z : Some y.object ≡ None = sym (living k (reckon t h).ledger y agreed.agreed.unique i q) ∙ (ap (known (reckon t h)) n ∙ (free_child r x o e ne).1) in
      let w : ◌≡◌ {A = ℕ} 0 1 = cc in absurd (omega arith)

  -- with a fault stored
  at_fault : (f : WaylandError) → m.conn.fault ≡ Some f → (i : ReadIntent) (r : Round) → (b c : Bool) → (cond b (cond c (reading_alone m (Some f)) (conn_left (waits (waiting_of m.conn)) (one_less m.conn) m)) (refuse BadToken m none)).answer ≡ Ok (round r) → ⊥
  at_fault f e i r true true z = let w : ◌≡◌ {A = ℕ} 0 1 = cc in absurd (omega arith)
  at_fault f e i r true false z = let w : ◌≡◌ {A = ℕ} 0 1 = cc in absurd (omega arith)
  at_fault f e i r false c z = let w : ◌≡◌ {A = ℕ} 0 1 = cc in absurd (omega arith)

  fitted : (x : Left) (c : Call) → (cond (fits m.slots) x (refuse BadRoom m (rooms_of c))).answer ≡ x.answer
  fitted x c = ap (λ (y : Left). y.answer) (cond-true (fits m.slots) x (refuse BadRoom m (rooms_of c)) agreed.agreed.fit)

  resumed : (f : WaylandError) (w : WaitingRead) (a : Reply) → (b : Bool) → (cond b (conn_left (cond (eqb w.read_serial m.conn.read_serial) (waits w) (faulted f)) m.conn m) (refuse BadToken m none)).answer ≡ Ok a → a ≡ cond (eqb w.read_serial m.conn.read_serial) (waits w) (faulted f)
  resumed f w a true z = cc
  resumed f w a false z = let y : ◌≡◌ {A = ℕ} 0 1 = cc in absurd (omega arith)

  -- what a delete_id leaves in the slots
  leaves : (n : ℕ) (v : Option Object) → lookup n m.slots ≡ v → Acknowledged n m.slots (acknowledged n m.slots v)
  leaves n None e = record { emptied = λ o q y. never (sym (ap is_some (sym e ∙ q))); marked = λ o q y. never (sym (ap is_some (sym e ∙ q))); vacant = λ q. q; others = λ k ne. refl }
  leaves n (Some o) e = elim (cases_Bool o.client_destroyed) [
    | inl y ↦ subst (Acknowledged n m.slots) (sym (cond-true o.client_destroyed (emptied_at n m.slots) (changed_at server_marked n m.slots) y))
        (let p = emptied_poked n o m.slots e in
        record { emptied = λ x q z. p.here; marked = λ x q z. (let j : Some o ≡ Some x = sym e ∙ q in let i : o ≡ x = cc in never (sym y ∙ (ap (λ (w : Object). w.client_destroyed) i ∙ z))); vacant = λ q. p.here; others = p.other })
    | inr n' ↦ subst (Acknowledged n m.slots) (sym (cond-false o.client_destroyed (emptied_at n m.slots) (changed_at server_marked n m.slots) n'))
        (let p = changed_poked server_marked n m.slots in
        record { emptied = λ x q z. (let j : Some o ≡ Some x = sym e ∙ q in let i : o ≡ x = cc in never (sym z ∙ (ap (λ (w : Object). w.client_destroyed) (sym i) ∙ n'))); marked = λ x q z. p.here ∙ ap (option_map server_marked) q; vacant = λ q. p.here ∙ ap (option_map server_marked) q; others = p.other })
  ]

  -- a delete_id that is taken
  deleting : (rooms : Rooms) (n k : ℕ) (fs : List Message) → m.end.waiting ≡ frames (message 1 1 (uint n ∷ []) ∷ fs) → next_in t m rooms (Reading k) (first_in m.end) ≡ leave (quiet (round_of m.conn)) (with_slots (acknowledged n m.slots (lookup n m.slots)) (without (frames fs) m)) (taken_into (uint n ∷ []) rooms)
  deleting rooms n k fs e =
      ap (λ w. next_in t m rooms (Reading k) (first_or (first_of w) m.end.read_stop)) e
      ∙ (ap (sent_by t m rooms k 1 1) (agreed.agreed.look 1 ∙ agreed.agreed.display.1)
      ∙ (ap (λ (d : Description). described t m rooms k 1 1 (display_as agreed.agreed.display.0) (slice_get d.events 1)) (core_found t so).0
      ∙ ap (λ w. taken t m rooms k 1 1 (display_as agreed.agreed.display.0) (plain (Uint ∷ []) []) (take_of (Uint ∷ []) w)) e))

  acknowledges : (r : Round) (rooms : Rooms) (n : ℕ) (fs : List Message) → may t (reckon t h) (next r rooms) ≡ true → m.end.waiting ≡ frames (message 1 1 (uint n ∷ []) ∷ fs) → ((defined t m (next r rooms)).answer ≡ Ok (quiet (round_of m.conn))) × Acknowledged n m.slots (defined t m (next r rooms)).moment.slots
  acknowledges r rooms n fs y e =
      let p = and_parts (fillable rooms) _ (subst (λ (c : Conn). (fillable rooms && (eqb r.connection c.number && in_round c.phase)) ≡ true) (sym agreed.conn) y) in
      let q = and_parts (eqb r.connection m.conn.number) (in_round m.conn.phase) p.1 in
      let z = cond-true (fits m.slots) (nexting t m r rooms) (refuse BadRoom m rooms) agreed.agreed.fit
      ∙ (cond-true (fillable rooms) _ (refuse BadRoom m rooms) p.0
      ∙ (cond-true (eqb r.connection m.conn.number) (next_in t m rooms m.conn.phase (first_in m.end)) (refuse BadToken m rooms) q.0
      ∙ go m.conn.phase q.1)) in
      subst (λ (x : Left). (x.answer ≡ Ok (quiet (round_of m.conn))) × Acknowledged n m.slots x.moment.slots) (sym z) (refl, leaves n (lookup n m.slots) refl)
    where
      go : (f : Phase) → in_round f ≡ true → next_in t m rooms f (first_in m.end) ≡ leave (quiet (round_of m.conn)) (with_slots (acknowledged n m.slots (lookup n m.slots)) (without (frames fs) m)) (taken_into (uint n ∷ []) rooms)
      go Idle x = never (sym x)
      go (Reading k) x = deleting rooms n k fs e
      go (Handed k v) x = never (sym x)

  -- what next begins
  abbrev Began : ℕ → Tenancy → Type 0
  Began k y = (f : Reading') × (readable t (known (reckon t h)) m.end.waiting ≡ Some f) × BornOf f.receiver y

  not_new : (k : ℕ) (y : Tenancy) (l : Ledger) → length l ≡ length (reckon t h).ledger → length (reckon t h).ledger ≤ k → tenancy k l ≡ Some y → {P : Type 0} → P
  not_new k y l n le e = let b = tenancy_below k l y e in absurd (omega arith)

  heard : (rooms : Rooms) (n k : ℕ) (y : Tenancy) → length (reckon t h).ledger ≤ k → (v : Option Reading') → readable t (known (reckon t h)) m.end.waiting ≡ v → tenancy k (frame_course t n (reckon t h) m.end rooms v).account.ledger ≡ Some y → Began k y
  heard rooms n k y le None r e = not_new k y (reckon t h).ledger refl le e
  heard rooms n k y le (Some f) r e = elim (cases_Bool (eqb f.sender 1)) [
    | inl one ↦ (let l' = (hear_display (reckon t h) (leaving f.behind m.end) (taken_into f.args rooms) f).account.ledger in
        not_new k y l' (display_length f) le (ap (λ (c : Course). tenancy k c.account.ledger) (sym (cond-true (eqb f.sender 1) _ _ one)) ∙ e))
    | inr other ↦ (
      f,
      r,
      walk_born t f.receiver f.desc (length (reckon t h).ledger) (laid 0 f.args) [] (record { account = reckon t h; child = None; wants = f.desc.args; shown = [] })
          (λ j z q i. not_new j z (reckon t h).ledger refl q i) k y le
          (ap (tenancy k) (sym (heard_ledger_lem n (reckon t h) (leaving f.behind m.end) (taken_into f.args rooms) f (hear_all t (reckon t h) f) (hear_all t (reckon t h) f).stop)) ∙ (ap (λ (c : Course). tenancy k c.account.ledger) (sym (cond-false (eqb f.sender 1) _ _ other)) ∙ e)),
    )
  ]
    where
      display_length : (f : Reading') → length (hear_display (reckon t h) (leaving f.behind m.end) (taken_into f.args rooms) f).account.ledger ≡ length (reckon t h).ledger
      display_length f = cond_both (eqb f.opcode 0) _ _ (λ (c : Course). length c.account.ledger ≡ length (reckon t h).ledger) (λ _. refl) (λ _. amend_length _ _ _ ∙ conclude_length _ _)

  servers_own : (r : Round) (rooms : Rooms) (k : ℕ) (y : Tenancy) → length (reckon t h).ledger ≤ k → tenancy k (reckon t (add (entry t m (next r rooms)) h)).ledger ≡ Some y → Began k y
  servers_own r rooms k y le e = go (is_ok (defined t m (next r rooms)).answer) e
    where
      next_in_course : (v : Option (ℕ × ℕ)) → tenancy k (next_course t (reckon t h) m.end rooms (settled_in (reckon t h).conn.phase) v).account.ledger ≡ Some y → Began k y
      next_in_course None e = rest (eqb m.end.read_stop 0) e
        where
          rest : (b : Bool) → tenancy k (cond b (over_as (cond (eqb (settled_in (reckon t h).conn.phase) 0) (Err (Io (fault 0 11))) (Ok (settled_in (reckon t h).conn.phase))) (reckon t h).conn rooms m.end (reckon t h)) (over_by (Io (fault 0 m.end.read_stop)) rooms m.end (reckon t h))).account.ledger ≡ Some y → Began k y
          rest true e = not_new k y (reckon t h).ledger refl le e
          rest false e = not_new k y (reckon t h).ledger refl le e
      next_in_course (Some p) e = heard rooms (settled_in (reckon t h).conn.phase) k y le (readable t (known (reckon t h)) m.end.waiting) refl e

      go : (b : Bool) → tenancy k (cond b (course t (reckon t h) m.end (next r rooms)).account (reckon t h)).ledger ≡ Some y → Began k y
      go true e = next_in_course (first_of m.end.waiting) e
      go false e = not_new k y (reckon t h).ledger refl le e

  -- the version of a child without a spec
  child_version : (d : Option ℕ) (v : ℕ) (c : ChildSpec) (s : Option ChildSpec) → s ≡ None → child_for t d v s ≡ Some c → c.version ≡ v
  child_version None v c None z e = let w : ◌≡◌ {A = ℕ} 0 1 = cc in absurd (omega arith)
  child_version (Some i) v c None z e = let q : record { interface = i; version = v } ≡ c = cc in ap (λ (x : ChildSpec). x.version) (sym q)
  child_version d v c (Some k) z e = never (ap is_some z)

  inherits : (r : Request) (x : ObjectId) (o : Option Notice) → (defined t m (send_request r)).answer ≡ Ok (sent x o) → (x.number ≡ 0 → ⊥) → r.child ≡ None → (by : Object) × (resolved (known (reckon t h)) r.sender ≡ Some by) × ((y : Tenancy) × (tenancy (length (reckon t h).ledger) (reckon t (add (entry t m (send_request r)) h)).ledger ≡ Some y) × (y.object.version ≡ by.version))
  inherits r x o e ne none = go (law.makes r x o e)
    where
      go : Made t (reckon t h) (reckon t (add (entry t m (send_request r)) h)) r x → (by : Object) × (resolved (known (reckon t h)) r.sender ≡ Some by) × ((y : Tenancy) × (tenancy (length (reckon t h).ledger) (reckon t (add (entry t m (send_request r)) h)).ledger ≡ Some y) × (y.object.version ≡ by.version))
      go w = (
        w.by,
        w.sender,
        elim (cases_Bool (creates w.desc)) [
          | inl y ↦ (let c = w.child y in (c.4, c.5, c.8 ∙ child_version w.desc.child w.by.version c.0 r.child none c.1))
          | inr n ↦ absurd (ne (ap (λ (z : ObjectId). z.number) (w.nothing n).0))
        ],
      )

  standard : Standard t h m
  standard = record {
    never_null = never_null;
    servers_own = servers_own;
    wakes = wakes.wakes m t;
    densely = agreed.agreed.order;
    in_range = λ r x o e ne. (let f = (free_child r x o e ne).0 in (positive x.number ne, omega arith));
    over_released = λ k y a i o low. released so run k y a i o low;
    reused_safely = λ r x o e ne k y a i n. released so run k y a i (left_behind r x o e ne k y i n y.over refl) (let f = (free_child r x o e ne).0 in omega (arith, n));
    acknowledges = acknowledges;
    inherits = inherits;
    fatal_read = λ f e i r z. at_fault f e i r (holds_intent m.conn i) (eqb m.conn.reads 1) (ap (λ v. (cond (holds_intent m.conn i) (cond (eqb m.conn.reads 1) (reading_alone m v) (conn_left (waits (waiting_of m.conn)) (one_less m.conn) m)) (refuse BadToken m none)).answer) (sym e) ∙ (sym (fitted (beginning m i) (read i)) ∙ z));
    fatal_resume = λ f e w a z. resumed f w a (eqb w.connection m.conn.number) (ap (λ v. (cond (eqb w.connection m.conn.number) (conn_left (cond (eqb w.read_serial m.conn.read_serial) (waits w) (fault_or_done v)) m.conn m) (refuse BadToken m none)).answer) (sym e) ∙ (sym (fitted (resuming m w) (resume w)) ∙ z));
    fatal_flush = λ f e. fitted (flushing_in m m.conn.fault) flush ∙ ap (λ v. (flushing_in m v).answer) e;
  }

pub standard_over_runs : StandardOverRuns
standard_over_runs t h m so run = standard t h m so run
