-- The law over whole runs.
use Rattle.std.proofs.Common.{◌≡◌, ℕ, ◌+◌, ◌-◌, ◌<◌, ◌≤◌, max, true, false, cond, ◌||◌, eqb, ltb, List, ◌∷◌, length, is_some, Some, None, Ok, Err, Option, Result, sym, refl, ap, ◌∙◌, subst, inl, inr, arith}
use Rattle.std.proofs.lemmas.Bool.{cases_lt, or_left, or_right, and_from, eq-eqb, false≢true}
use Rattle.object_map.specs.Map.{Map, map_of, creation, fresh, lawful, with_client, with_server, at_place, remove_at, insert_at, insert_new, update_at}
use Rattle.object_map.specs.Number.{place}
use Rattle.object_map.specs.Runs.{Call, find_call, remove_call, insert_at_call, insert_new_call, update_call, after, History, noted, using_now, Run, created, lends, calls, member, first, dense, Law, Stands, Begins}
use Rattle.object_map.specs.Store.{Store, at, emptied, fill, insert_free, first_free, rewrite_slot}
use Rattle.object_map.specs.declared.map.ObjectMap.{ObjectMap}
use Rattle.object_map.specs.declared.number.Place.{Place}
use Rattle.object_map.specs.declared.number.Place.TheVariants.{Client, Server}
use Rattle.object_map.specs.declared.refusal.Refusal.{Refusal}
use Rattle.object_map.specs.declared.refusal.Refusal.TheVariants.{ClientFull, Rooms}
use Rattle.object_map.proofs.Calls.{by_fit, insert_cases}
use Rattle.object_map.proofs.Free.{held_within, free_le}
use Rattle.object_map.proofs.Places.{place_client, place_server}
use Rattle.object_map.proofs.Stores.{at_above}

-- every place in use of a range whose first number is b has been used
abbrev Below : ℕ → ℕ → History → Type 0
Below b used h = (i : ℕ) → i < used → member (b + i) h ≡ true

below_kept : (b used n : ℕ) (h : History) → Below b used h → Below b used (n ∷ h)
below_kept b used n h below i lt = or_right (eqb (b + i) n) (member (b + i) h) (below i lt)

below_more : (b used i n : ℕ) (h : History) → n ≡ b + i → i ≤ used → Below b used h → Below b (max used (i + 1)) (n ∷ h)
below_more b used i n h e le below j lt =
    elim (cases_lt j used) [
      | inl in_use ↦ below_kept b used n h below j in_use
      | inr past ↦ or_left (eqb (b + j) n) (member (b + j) h) (eq-eqb (b + j) n (omega arith))
    ]

-- so a number at most the next one comes after the one before it
dense_more : (b used i n : ℕ) (h : History) → 1 ≤ b → first b ≡ true → n ≡ b + i → i ≤ used → Below b used h → dense h ≡ true → dense (n ∷ h) ≡ true
dense_more b used i n h pos start e le below d =
    elim (cases_lt 0 i) [
      | inl some ↦
          let p : n - 1 ≡ b + (i - 1) = omega arith in
          and_from (first n || member (n - 1) h) (dense h) (or_right (first n) (member (n - 1) h) (ap (λ k. member k h) p ∙ below (i - 1) (omega arith))) d
      | inr none ↦
          let p : n ≡ b = omega arith in
          and_from (first n || member (n - 1) h) (dense h) (or_left (first n) (member (n - 1) h) (ap first p ∙ start)) d
    ]

-- what a run keeps
pub record Kept {R : Type 0} (h : History) (m : Map R) : Type 0 where
  pub clients : Below 1 m.client.used h
  pub servers : Below 0xFF00_0000 m.server.used h
  pub order : dense h ≡ true

client_used : {R : Type 0} (n i : ℕ) (r : R) (h : History) (m : Map R) → n ≡ i + 1 → i ≤ m.client.used → Kept h m → Kept (n ∷ h) (with_client m (fill r i m.client))
client_used n i r h m e le k =
    let p : n ≡ 1 + i = omega arith in
    record {
      clients = below_more 1 m.client.used i n h p le k.clients;
      servers = below_kept 0xFF00_0000 m.server.used n h k.servers;
      order = dense_more 1 m.client.used i n h (omega arith) refl p le k.clients k.order;
    }

server_used : {R : Type 0} (n i : ℕ) (r : R) (h : History) (m : Map R) → n ≡ 0xFF00_0000 + i → i ≤ m.server.used → Kept h m → Kept (n ∷ h) (with_server m (fill r i m.server))
server_used n i r h m e le k = record {
  clients = below_kept 1 m.client.used n h k.clients;
  servers = below_more 0xFF00_0000 m.server.used i n h e le k.servers;
  order = dense_more 0xFF00_0000 m.server.used i n h (omega arith) refl e le k.servers k.order;
}

-- and that each call keeps it, with no length shorter
abbrev Goes : {R : Type 0} → Map R → History → Map R → Type 0
Goes m h m' = Kept h m' × (m.client.used ≤ m'.client.used) × (m.server.used ≤ m'.server.used)

stays : {R : Type 0} (h : History) (m : Map R) → Kept h m → Goes m h m
stays h m k = (k, omega arith, omega arith)

insert_goes : {R : Type 0} (n : ℕ) (p : Option Place) (r : R) (h : History) (m : Map R) → place n ≡ p → Kept h m → Goes m (noted (λ _. n) (insert_at p r m).0 h) (insert_at p r m).1
insert_goes n None r h m e k = stays h m k
insert_goes {R} n (Some (Client i)) r h m e k =
    let P : Result (Unit {0}) Refusal × Store R → Type 0 = λ d. Goes m (noted (λ _. n) d.0 h) (with_client m d.1) in
    elim (insert_cases r i m.client) [
      | inl c ↦ subst P (sym c.0) (client_used n i r h m (place_client n i e) c.1 k, omega arith, omega arith)
      | inr c ↦ subst P (sym c.1) (stays h m k)
    ]
insert_goes {R} n (Some (Server i)) r h m e k =
    let P : Result (Unit {0}) Refusal × Store R → Type 0 = λ d. Goes m (noted (λ _. n) d.0 h) (with_server m d.1) in
    elim (insert_cases r i m.server) [
      | inl c ↦ subst P (sym c.0) (server_used n i r h m (place_server n i e) c.1 k, omega arith, omega arith)
      | inr c ↦ subst P (sym c.1) (stays h m k)
    ]

new_goes : {R : Type 0} (r : R) (h : History) (m : Map R) → Kept h m → Goes m (noted (λ n. n) (insert_new m (insert_free r m.client)).0 h) (insert_new m (insert_free r m.client)).1
new_goes {R} r h m k =
    let s = m.client in
    let f = first_free s in
    let P : Result ℕ Refusal × Store R → Type 0 = λ d. Goes m (noted (λ n. n) (insert_new m d).0 h) (insert_new m d).1 in
    elim (ltb f (length s.slots)) as (λ b. P (cond b (Ok f, fill r f s) (Err ClientFull, s))) [
      | true ↦ (client_used (f + 1) f r h m refl (free_le s) k, omega arith, omega arith)
      | false ↦ stays h m k
    ]

-- a call that keeps the lengths
same_goes : {R : Type 0} (h : History) (m m' : Map R) → m'.client.used ≡ m.client.used → m'.server.used ≡ m.server.used → Kept h m → Goes m h m'
same_goes h m m' c s k =
    (record { clients = subst (λ n. Below 1 n h) (sym c) k.clients; servers = subst (λ n. Below 0xFF00_0000 n h) (sym s) k.servers; order = k.order }, omega arith, omega arith)

remove_goes : {R : Type 0} (p : Option Place) (h : History) (m : Map R) → Kept h m → Goes m h (remove_at p m)
remove_goes None h m k = stays h m k
remove_goes (Some (Client i)) h m k = same_goes h m (remove_at (Some (Client i)) m) refl refl k
remove_goes (Some (Server i)) h m k = same_goes h m (remove_at (Some (Server i)) m) refl refl k

rewrite_used : {R : Type 0} (f : R → R) (o : Option R) (i : ℕ) (s : Store R) → (rewrite_slot f o i s).1.used ≡ s.used
rewrite_used f None i s = refl
rewrite_used f (Some x) i s = refl

update_goes : {R : Type 0} (f : R → R) (p : Option Place) (h : History) (m : Map R) → Kept h m → Goes m h (update_at f p m).1
update_goes f None h m k = stays h m k
update_goes f (Some (Client i)) h m k = same_goes h m (update_at f (Some (Client i)) m).1 (rewrite_used f (at i m.client) i m.client) refl k
update_goes f (Some (Server i)) h m k = same_goes h m (update_at f (Some (Server i)) m).1 refl (rewrite_used f (at i m.server) i m.server) k

goes : {R : Type 0} (c : Call R) (h : History) (m : Map R) → Kept h m → Goes m (using_now c m h) (after c m)
goes (find_call n) h m k = stays h m k
goes (remove_call n) h m k = by_fit m (Ok tt, remove_at (place n) m) (λ a m'. Goes m h m') (λ _. remove_goes (place n) h m k) (stays h m k)
goes (insert_at_call n r) h m k =
    by_fit m (insert_at (place n) r m) (λ a m'. Goes m (noted (λ _. n) a h) m') (λ _. insert_goes n (place n) r h m refl k) (stays h m k)
goes (insert_new_call r) h m k =
    by_fit m (insert_new m (insert_free r m.client)) (λ a m'. Goes m (noted (λ n. n) a h) m') (λ _. new_goes r h m k) (stays h m k)
goes (update_call f n) h m k = by_fit m (update_at f (place n) m) (λ a m'. Goes m h m') (λ _. update_goes f (place n) h m k) (stays h m k)

-- a creation begins with nothing in use
nothing_at : {R : Type 0} (p : Option Place) (m : Map R) → m.client.used ≡ 0 → m.server.used ≡ 0 → is_some (at_place p m) ≡ false
nothing_at None m c s = refl
nothing_at (Some (Client i)) m c s = ap is_some (at_above i m.client (omega arith))
nothing_at (Some (Server i)) m c s = ap is_some (at_above i m.server (omega arith))

abbrev lens : Result ObjectMap Refusal → ℕ
lens (Ok o) = o.client.len + o.server.len
lens (Err _) = 0

unused : {R : Type 0} (c s c' s' : List (Option R)) (o : ObjectMap) → creation c s ≡ (Ok o, c', s') → (o.client.len ≡ 0) × (o.server.len ≡ 0)
unused {R} c s c' s' o e =
    let none : lens (creation c s).0 ≡ 0 =
    elim (lawful c s) as (λ b. lens (cond {A = Result ObjectMap Refusal × List (Option R) × List (Option R)} b (Ok (record { client = fresh (length c); server = fresh (length s) }), emptied c, emptied s) (Err Rooms, c, s)).0 ≡ 0) [ true ↦ refl | false ↦ refl ] in
    let sum : lens (creation c s).0 ≡ o.client.len + o.server.len = ap (λ d. lens d.0) e in
    (omega arith, omega arith)

kept : {R : Type 0} {h : History} {m : Map R} → Run h m → Kept h m
kept (created c s c' s' o e) =
    let z = unused c s c' s' o e in
    record { clients = λ i lt. absurd (omega (arith, z.0)); servers = λ i lt. absurd (omega (arith, z.1)); order = refl }
kept (lends {h} {m} run c s) = let k = kept run in record { clients = k.clients; servers = k.servers; order = k.order }
kept (calls {h} {m} run c) = (goes c h m (kept run)).0

known_at : {R : Type 0} (n : ℕ) (p : Option Place) (h : History) (m : Map R) → place n ≡ p → Kept h m → is_some (at_place p m) ≡ true → member n h ≡ true
known_at n None h m e k held = absurd (false≢true held)
known_at n (Some (Client i)) h m e k held =
    let p : n ≡ 1 + i = omega (arith, place_client n i e) in
    ap (λ x. member x h) p ∙ k.clients i ((held_within i m.client held).0)
known_at n (Some (Server i)) h m e k held = ap (λ x. member x h) (place_server n i e) ∙ k.servers i ((held_within i m.server held).0)

pub law : {R : Type 0} {h : History} {m : Map R} → Run h m → Law h m
law {R} {h} {m} run = let k = kept run in record { in_order = k.order; known = λ n held. known_at n (place n) h m refl k held }

pub stands : {R : Type 0} (c : Call R) (m m' : Map R) → m' ≡ after c m → Stands c m m'
stands {R} c m m' e h run =
    let next : Run (using_now c m h) m' = subst (Run (using_now c m h)) (sym e) (calls run c) in
    let g : Goes m (using_now c m h) m' = subst (Goes m (using_now c m h)) (sym e) (goes c h m (kept run)) in
    (next, law next, g.1, g.2)

pub begins : {R : Type 0} (a : Result ObjectMap Refusal) (c s c' s' : List (Option R)) → (a, c', s') ≡ creation c s → Begins a c' s'
begins (Err x) c s c' s' e = tt
begins (Ok o) c s c' s' e =
    let z = unused c s c' s' o (sym e) in
    (created c s c' s' o (sym e), λ n. nothing_at (place n) (map_of o c' s') z.0 z.1)
