-- The law, from what slots and account have in common.
use Rattle.std.proofs.Common.{◌≡◌, ℕ, ◌^◌, ◌<◌, Bool, true, false, cond, not, ◌&&◌, ◌||◌, eqb, leb, [], ◌∷◌, length, is_some, is_ok, Some, None, Ok, Option, sym, refl, ap, ◌∙◌, subst, ap₂, inl, inr, arith}
use Rattle.std.proofs.lemmas.Bool.{cond-true, cases_Bool, cases_eq, eq-eqb, ne_eqb, eqb-true, and_parts, and_left, and_right, le-ltb}
use Rattle.object_map.specs.Map.{Map, fits, lookup}
use Rattle.protocol.specs.Lookups.{same_object}
use Rattle.protocol.specs.Words.{Sound}
use Rattle.protocol.specs.declared.id.ObjectId.{ObjectId}
use Rattle.protocol.proofs.Handles as handles
use Rattle.transport.specs.Ends.{End, Grounded}
use Rattle.client.specs.Calls.{Call, prepare, cancel, read, resume, next, settle, send_request, destroy_object, get_data, set_data, info, flush, child_handle, answered, defined}
use Rattle.client.specs.Course.{has, asked, get_course, may, course, send_course, reckon}
use Rattle.client.specs.Law.{Given, deleted, LawOverRuns, Made, places, occasion, sort_of}
use Rattle.client.specs.Ledger.{Tenancy, Ledger, holder, tenancy, lasts, Account}
use Rattle.client.specs.Requests.{Table, Request, Sending}
use Rattle.client.specs.Runs.{History, add, entry, Run, made, world, called}
use Rattle.client.specs.State.{Conn, Moment, sent, content, handle_of, bearing}
use Rattle.client.specs.declared.object.Notice.{Notice}
use Rattle.client.specs.declared.object.Object.{Object}
use Rattle.client.proofs.Agreement.{Agreed, beginning}
use Rattle.client.proofs.Balances as balances
use Rattle.client.proofs.Follows.{Follows, follows}
use Rattle.client.proofs.Nexts.{next_step}
use Rattle.client.proofs.Sends as sends
use Rattle.client.proofs.Simple.{prepare_step, cancel_step, read_step, resume_step, settle_step, destroy_step, get_step, set_step, info_step, flush_step}
use Rattle.client.proofs.Steps.{moment_at, Came, Stepped}
use Rattle.client.proofs.Tenants.{name_of, named, one_name, resolves, resolves_to, lasts_is, holding, sitting}

-- every call
step : (t : Table) (a : Account) (s : Map Object) (e : End) → Sound t → Grounded e → Agreed s a → (c : Call) → Stepped t a e c (answered t (moment_at a s e) c)
step t a s e so gr g prepare = prepare_step t a s e g
step t a s e so gr g (cancel i) = cancel_step t a s e g i
step t a s e so gr g (read i) = read_step t a s e g i
step t a s e so gr g (resume w) = resume_step t a s e g w
step t a s e so gr g (next r rooms) = next_step t a s e gr g rooms r
step t a s e so gr g (settle h d) = settle_step t a s e g h d
step t a s e so gr g (send_request r) = sends.send_step t a s e so g r
step t a s e so gr g (destroy_object h) = destroy_step t a s e g h
step t a s e so gr g (get_data h) = get_step t a s e g h
step t a s e so gr g (set_data h d) = set_step t a s e g h d
step t a s e so gr g (info h) = info_step t a s e g h
step t a s e so gr g flush = flush_step t a s e g gr

-- the connection is the account's, and the slots agree with it
pub record Holds (t : Table) (h : History) (m : Moment) : Type 0 where
  pub conn : m.conn ≡ (reckon t h).conn
  pub agreed : Agreed m.slots (reckon t h)

-- so each call takes its course
pub courses : (t : Table) (h : History) (m : Moment) → Sound t → Grounded m.end → Holds t h m → (c : Call) → Came (reckon t h) (may t (reckon t h) c) (course t (reckon t h) m.end c) (defined t m c)
courses t h m so gr k c =
    let a = reckon t h in
    subst (Came a (may t a c) (course t a m.end c)) (sym (cond-true (fits m.slots) _ _ k.agreed.fit))
    (subst (λ (x : Conn). Came a (may t a c) (course t a m.end c) (answered t (record { conn = x; slots = m.slots; end = m.end }) c)) (sym k.conn)
    (step t a m.slots m.end so gr k.agreed c))

went : (t : Table) (h : History) (m : Moment) → (c : Call) → Came (reckon t h) (may t (reckon t h) c) (course t (reckon t h) m.end c) (defined t m c) → Holds t (add (entry t m c) h) (defined t m c).moment
went t h m c x =
    let p : cond (may t (reckon t h) c) (course t (reckon t h) m.end c).account (reckon t h) ≡ reckon t (add (entry t m c) h) = ap (λ b. cond b (course t (reckon t h) m.end c).account (reckon t h)) (sym x.accepts) in
    record { conn = x.conn ∙ ap (λ (a : Account). a.conn) p; agreed = subst (Agreed (defined t m c).moment.slots) p x.agreed }

pub holds : {t : Table} {h : History} {m : Moment} → Sound t → Run t h m → Holds t h m
holds so (made number c s e l gr) = record { conn = refl; agreed = beginning number c s e l }
holds {t} so (world {h} {m} {m'} run ch) = let k = holds so run in record { conn = ch.conn ∙ k.conn; agreed = subst (λ s. Agreed s (reckon t h)) (sym ch.slots) k.agreed }
holds {t} so (called {h} {m} run c) = went t h m c (courses t h m so (balances.grounded run) (holds so run) c)

-- the name of a tenancy
name_of_lem : (i : ℕ) (l : Ledger) (y : Tenancy) → tenancy i l ≡ Some y → name_of i l ≡ Some (named y)
name_of_lem i [] y e = let z : ◌≡◌ {A = ℕ} 0 1 = cc in absurd (omega arith)
name_of_lem i (x ∷ l) y e = go (name_of_lem i l y) (eqb i (length l)) e
  where
    go : (tenancy i l ≡ Some y → name_of i l ≡ Some (named y)) → (b : Bool) → cond b (Some x) (tenancy i l) ≡ Some y → cond b (Some (named x)) (name_of i l) ≡ Some (named y)
    go ih true e = let q : x ≡ y = cc in ap (λ z. Some (named z)) q
    go ih false e = ih e

module _ (t : Table) (h : History) (m : Moment) (so : Sound t) (gr : Grounded m.end) (k : Holds t h m) where
  abbrev acc : Account
  acc = reckon t h

  abbrev then' : Call → Account
  then' c = reckon t (add (entry t m c) h)

  came : (c : Call) → Came acc (may t acc c) (course t acc m.end c) (defined t m c)
  came c = courses t h m so gr k c

  later : (c : Call) → Holds t (add (entry t m c) h) (defined t m c).moment
  later c = went t h m c (came c)

  for_a_tenancy : (x : ObjectId) (o : Option ℕ) → Given (x, o) acc.given → (x.number ≡ 0 → ⊥) → is_some o ≡ true
  for_a_tenancy x None g ne = absurd (ne (k.agreed.given x None g))
  for_a_tenancy x (Some j) g ne = refl

  equal_exactly : (x y : ObjectId) (i j : ℕ) → acc.drawn < 2 ^ 32 → Given (x, Some i) acc.given → Given (y, Some j) acc.given → same_object t x y ≡ eqb i j
  equal_exactly x y i j d gx gy =
      let nx = k.agreed.given x (Some i) gx in
      let ny = k.agreed.given y (Some j) gy in
      elim (cases_eq i j) [
        | inl e ↦ (let xy : Some x ≡ Some y = sym nx ∙ (ap (λ n. name_of n acc.ledger) e ∙ ny) in let q : x ≡ y = cc in ap (same_object t x) (sym q) ∙ (handles.same_reflexive t x ∙ sym (eq-eqb i j e)))
        | inr ne ↦ elim (cases_Bool (same_object t x y)) [
          | inl same ↦ absurd (ne (one_name i j _ acc.ledger x y (k.agreed.falls d) nx ny (eqb-true x.serial y.serial (and_parts _ _ (and_parts _ _ same).1).0)))
          | inr other ↦ other ∙ sym (ne_eqb i j ne)
        ]
      ]

  get_accepts : (x : ObjectId) (i : ℕ) → acc.drawn < 2 ^ 32 → Given (x, Some i) acc.given → is_ok (defined t m (get_data x)).answer ≡ lasts i acc.ledger
  get_accepts x i d g = (came (get_data x)).accepts ∙ resolves i _ acc.ledger x (k.agreed.falls d) k.agreed.unique (k.agreed.given x (Some i) g)

  get_answers : (x : ObjectId) (i : ℕ) (y : Tenancy) → acc.drawn < 2 ^ 32 → Given (x, Some i) acc.given → tenancy i acc.ledger ≡ Some y → y.over ≡ false → (defined t m (get_data x)).answer ≡ Ok (content y.object.«data»)
  get_answers x i y d g e o =
      let q = resolves_to i _ acc.ledger x y (k.agreed.falls d) k.agreed.unique (k.agreed.given x (Some i) g) e o in
      (came (get_data x)).reply (ap is_some q) ∙ ap (λ v. Ok (get_course acc m.end v).reply) q

  -- what becomes of a tenancy, by whether the call is accepted
  abbrev occasion_if : Bool → Call → ℕ → Bool
  occasion_if b c n = ((b && eqb (sort_of c) 4) && has (deleted m.end.waiting) (λ j. eqb j n)) || places acc (cond b (course t acc m.end c).account acc) n

  stayed : (c : Call) (n : ℕ) → occasion_if false c n ≡ false
  stayed c n = and_right (leb 0xFF00_0000 n) _ (and_left _ _ (le-ltb (length acc.ledger) (length acc.ledger) (omega arith)))

  or_false : (x y : Bool) → x ≡ (x || (y && false))
  or_false true y = refl
  or_false false true = refl
  or_false false false = refl

  pub becomes : (c : Call) (i : ℕ) (y : Tenancy) → tenancy i acc.ledger ≡ Some y → Follows i y (occasion m c (defined t m c) acc (then' c) y.number) (then' c).ledger
  becomes c i y e = go (is_ok (defined t m c).answer) refl
    where
      go : (b : Bool) → is_ok (defined t m c).answer ≡ b → Follows i y (occasion_if b c y.number) (cond b (course t acc m.end c).account acc).ledger
      go true q = follows t acc m.slots m.end so k.agreed c (sym (came c).accepts ∙ q) i y e
      go false q = record { then' = y; is = e; number = refl; serial = refl; interface = refl; over = subst (λ b. y.over ≡ (y.over || (y.object.client_destroyed && b))) (sym (stayed c y.number)) (or_false y.over y.object.client_destroyed) }

  ends_exactly : (c : Call) (i : ℕ) (y : Tenancy) → tenancy i acc.ledger ≡ Some y → y.over ≡ false → lasts i (then' c).ledger ≡ not (y.object.client_destroyed && occasion m c (defined t m c) acc (then' c) y.number)
  ends_exactly c i y e o =
      let f = becomes c i y e in
      lasts_is i (then' c).ledger f.then' f.is ∙ (ap not f.over ∙ ap (λ b. not (b || (y.object.client_destroyed && occasion m c (defined t m c) acc (then' c) y.number))) o)

  ends_for_good : (c : Call) (i : ℕ) (y : Tenancy) → tenancy i acc.ledger ≡ Some y → y.over ≡ true → lasts i (then' c).ledger ≡ false
  ends_for_good c i y e o =
      let f = becomes c i y e in
      lasts_is i (then' c).ledger f.then' f.is ∙ (ap not f.over ∙ ap (λ b. not (b || (y.object.client_destroyed && occasion m c (defined t m c) acc (then' c) y.number))) o)

  emptied_exactly : (c : Call) (n : ℕ) (o : Object) → (then' c).drawn < 2 ^ 32 → lookup n m.slots ≡ Some o → is_some (bearing o.serial (lookup n (defined t m c).moment.slots)) ≡ not (o.client_destroyed && occasion m c (defined t m c) acc (then' c) n)
  emptied_exactly c n o d e =
      let s = sitting n acc.ledger o (sym (k.agreed.look n) ∙ e) in
      let i = s.0 in
      let y = s.1 in
      let f = becomes c i y s.2 in
      let g = (later c).agreed in
      let nm : name_of i (then' c).ledger ≡ Some (handle_of n o) = name_of_lem i (then' c).ledger f.then' f.is ∙ λ j. Some (record { number = (f.number ∙ s.3) j; serial = (f.serial ∙ ap (λ (x : Object). x.serial) s.4) j; interface = (f.interface ∙ ap (λ (x : Object). x.interface) s.4) j }) in
      ap (λ v. is_some (bearing o.serial v)) (g.look n)
      ∙ (resolves i _ (then' c).ledger (handle_of n o) (g.falls d) g.unique nm
      ∙ (ends_exactly c i y s.2 s.5 ∙ ap₂ (λ (x : Object) j. not (x.client_destroyed && occasion m c (defined t m c) acc (then' c) j)) s.4 s.3))

  one_at_a_time : (i j : ℕ) (y z : Tenancy) → tenancy i acc.ledger ≡ Some y → tenancy j acc.ledger ≡ Some z → y.over ≡ false → z.over ≡ false → y.number ≡ z.number → i ≡ j
  one_at_a_time i j y z ey ez oy oz n =
      let p : Some i ≡ Some j = sym (holding i acc.ledger y k.agreed.unique ey oy) ∙ (ap (λ x. holder x acc.ledger) n ∙ holding j acc.ledger z k.agreed.unique ez oz) in
      cc

  -- what an accepted request creates
  makes : (r : Request) (x : ObjectId) (o : Option Notice) → (defined t m (send_request r)).answer ≡ Ok (sent x o) → Made t acc (then' (send_request r)) r x
  makes r x o e = go (asked t acc r) refl
    where
      go : (v : Option Sending) → asked t acc r ≡ v → Made t acc (then' (send_request r)) r x
      go None q = let z : true ≡ false = sym (ap is_ok e) ∙ ((came (send_request r)).accepts ∙ ap is_some q) in let y : ◌≡◌ {A = ℕ} 0 1 = cc in absurd (omega arith)
      go (Some s) q =
          let ok = ap is_ok e in
          let p : Ok (sent x o) ≡ Ok (send_course acc m.end r (Some s)).reply = sym e ∙ ((came (send_request r)).reply (sym (came (send_request r)).accepts ∙ ok) ∙ ap (λ v. Ok (send_course acc m.end r v).reply) q) in
          let xs : child_handle s.child ≡ x = cc in
          let th : (course t acc m.end (send_request r)).account ≡ then' (send_request r) = sym (cond-true (is_ok (defined t m (send_request r)).answer) (course t acc m.end (send_request r)).account acc ok) in
          subst (λ (y : ObjectId). Made t acc (then' (send_request r)) r y) xs
          (subst (λ (b : Account). Made t acc b r (child_handle s.child)) th
          (sends.made t acc m.slots m.end k.agreed r s q))

pub law_over_runs : LawOverRuns
law_over_runs t h m so run =
    let gr = balances.grounded run in
    let k = holds so run in
    record {
      for_a_tenancy = for_a_tenancy t h m so gr k;
      equal_exactly = equal_exactly t h m so gr k;
      get_accepts = get_accepts t h m so gr k;
      get_answers = get_answers t h m so gr k;
      ends_exactly = ends_exactly t h m so gr k;
      ends_for_good = ends_for_good t h m so gr k;
      emptied_exactly = emptied_exactly t h m so gr k;
      one_at_a_time = one_at_a_time t h m so gr k;
      slots = k.agreed.look;
      connection = k.conn;
      serials = ap (λ (c : Conn). c.last_serial) k.conn ∙ k.agreed.serial;
      accepts_exactly = λ c. (courses t h m so gr k c).accepts;
      answers = λ c. (courses t h m so gr k c).reply;
      fills = λ c. (courses t h m so gr k c).rooms;
      transports = λ c. (courses t h m so gr k c).end;
      refusal_leaves = balances.refusal_leaves t m;
      makes = makes t h m so gr k;
      tenancies = k.agreed.count;
      reads = balances.reads run;
      requests = balances.requests run;
      sends_exactly = balances.sends_exactly t m;
      keeps_sent = balances.keeps_sent t m;
      keeps_fault = balances.keeps_fault t m;
    }
