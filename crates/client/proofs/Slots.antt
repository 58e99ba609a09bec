-- What each way of changing the slots does, number by number.
use Rattle.std.proofs.Common.{◌≡◌, ℕ, zero, suc, ◌+◌, ◌-◌, ◌^◌, ◌<◌, ◌≤◌, Bool, true, false, not, ◌&&◌, ◌||◌, eqb, ltb, ◌≢◌, List, length, is_some, Some, None, Ok, Err, Option, sym, refl, ap, ◌∙◌, subst, inl, inr, arith}
use Rattle.std.specs.Option.{option_map}
use Rattle.std.proofs.lemmas.List.{get_or_past, length-set, length-map}
use Rattle.std.proofs.lemmas.Bool.{cases_lt, cases_Bool, lt-ltb, le-ltb, eq-eqb, ne_eqb, eqb-true, ltb-true, and_parts, and_from, and_left, and_right, or_left, or_right, or_from, cond-true, cond-false}
use Rattle.std.proofs.lemmas.Bool.Decides.{nat_tests}
use Rattle.object_map.specs.Laws.{occupied, occupied_in}
use Rattle.object_map.specs.Map.{Map, map_of, fresh, with_client, with_server, lawful, fits, at_place, lookup, remove_at, insert_at, update_at, in_server}
use Rattle.object_map.specs.Number.{place}
use Rattle.object_map.specs.Runs.{first}
use Rattle.object_map.specs.Store.{Store, at, emptied, fill, vacate, insert, first_free, insert_free, rewrite, rewrite_slot}
use Rattle.object_map.specs.declared.number.Place.{Place}
use Rattle.object_map.specs.declared.number.Place.TheVariants.{Client, Server}
use Rattle.object_map.specs.declared.refusal.Refusal.{Refusal}
use Rattle.object_map.specs.declared.refusal.Refusal.TheVariants.{ClientFull, Gap, Occupied, NoSlot}
use Rattle.object_map.proofs.Calls.{focus_client, focus_server}
use Rattle.object_map.proofs.Free.{free_le, free_below, free_empty}
use Rattle.object_map.proofs.Places.{place_client, place_server, place_none, client_place}
use Rattle.object_map.proofs.Stores as stores
use Rattle.object_map.proofs.Stores.{at_below, at_above, write, write_same, write_other, write_count, fill_same, fill_other, fill_count, vacate_below}
use Rattle.protocol.specs.declared.error.ProtocolReason.TheVariants.{UnusableNumber}
use Rattle.transport.specs.Ends.{End}
use Rattle.client.specs.Events.{unplaced}
use Rattle.client.specs.Ledger.{free_from}
use Rattle.client.specs.Requests.{free_number, placing}
use Rattle.client.specs.Runs.{created, display_object}
use Rattle.client.specs.State.{Look, seen_in, changed_at, emptied_at}
use Rattle.client.specs.declared.object.Object.{Object}

-- whether a number has been used, by the lengths of the stores
abbrev pub reached_at : Option Place → Map Object → Bool
reached_at None s = false
reached_at (Some (Client i)) s = ltb i s.client.used
reached_at (Some (Server i)) s = ltb i s.server.used

abbrev pub reached : ℕ → Map Object → Bool
reached n s = reached_at (place n) s

-- one for an occupied slot
abbrev pub one : Option Object → ℕ
one o = stores.one o

-- slots that differ at one number
pub record Poked (n : ℕ) (v : Option Object) (s s' : Map Object) : Type 0 where
  pub here : lookup n s' ≡ v
  pub other : (k : ℕ) → (k ≡ n → ⊥) → lookup k s' ≡ lookup k s
  pub count : occupied s' + one (lookup n s) ≡ occupied s + one v
  pub reach : (k : ℕ) → reached k s' ≡ ((eqb k n && is_some v) || reached k s)
  pub fit : fits s' ≡ fits s
  pub clients : s'.client_places ≡ s.client_places
  pub servers : s'.server_places ≡ s.server_places

-- the same of one store
record Poke (i : ℕ) (v : Option Object) (s s' : Store Object) : Type 0 where
  here : at i s' ≡ v
  other : (j : ℕ) → j ≢ i → at j s' ≡ at j s
  count : occupied_in s' + one (at i s) ≡ occupied_in s + one v
  reach : (j : ℕ) → ltb j s'.used ≡ ((eqb j i && is_some v) || ltb j s.used)
  long : length s'.slots ≡ length s.slots

client_reach : (n i k : ℕ) (v : Option Object) (s : Map Object) (t : Store Object) (q : Option Place) → place n ≡ Some (Client i) → place k ≡ q → ((j : ℕ) → ltb j t.used ≡ ((eqb j i && is_some v) || ltb j s.client.used)) → reached_at q (with_client s t) ≡ ((eqb k n && is_some v) || reached_at q s)
client_reach n i k v s t None e g r = let a = place_client n i e in let b = place_none k g in let c : eqb k n ≡ false = ne_eqb k n (λ h. omega arith) in rw c
client_reach n i k v s t (Some (Client j)) e g r = let a = place_client n i e in let b = place_client k j g in let c : eqb k n ≡ eqb j i = grind (arith, nat_tests) in rw c (r j)
client_reach n i k v s t (Some (Server j)) e g r =
    let c : eqb k n ≡ false = ne_eqb k n (λ h. let z : ◌≡◌ {A = ℕ} 0 1 = cc in omega arith) in
    rw c

server_reach : (n i k : ℕ) (v : Option Object) (s : Map Object) (t : Store Object) (q : Option Place) → place n ≡ Some (Server i) → place k ≡ q → ((j : ℕ) → ltb j t.used ≡ ((eqb j i && is_some v) || ltb j s.server.used)) → reached_at q (with_server s t) ≡ ((eqb k n && is_some v) || reached_at q s)
server_reach n i k v s t None e g r = let a = place_server n i e in let b = place_none k g in let c : eqb k n ≡ false = ne_eqb k n (λ h. omega arith) in rw c
server_reach n i k v s t (Some (Server j)) e g r = let a = place_server n i e in let b = place_server k j g in let c : eqb k n ≡ eqb j i = grind (arith, nat_tests) in rw c (r j)
server_reach n i k v s t (Some (Client j)) e g r =
    let c : eqb k n ≡ false = ne_eqb k n (λ h. let z : ◌≡◌ {A = ℕ} 0 1 = cc in omega arith) in
    rw c

poked_client : (n i : ℕ) (v : Option Object) (s : Map Object) (t : Store Object) → place n ≡ Some (Client i) → Poke i v s.client t → Poked n v s (with_client s t)
poked_client n i v s t e p =
    let f = focus_client n i s t e in
    let c = p.count in
    let d = f.counts in
    record {
      here = f.later ∙ p.here;
      other = f.apart p.other;
      count = rw f.before (omega arith);
      reach = λ k. client_reach n i k v s t (place k) e refl p.reach;
      fit = ap (λ l. eqb l s.client_places && eqb (length s.server.slots) s.server_places) p.long;
      clients = refl;
      servers = refl;
    }

poked_server : (n i : ℕ) (v : Option Object) (s : Map Object) (t : Store Object) → place n ≡ Some (Server i) → Poke i v s.server t → Poked n v s (with_server s t)
poked_server n i v s t e p =
    let f = focus_server n i s t e in
    let c = p.count in
    let d = f.counts in
    record {
      here = f.later ∙ p.here;
      other = f.apart p.other;
      count = rw f.before (omega arith);
      reach = λ k. server_reach n i k v s t (place k) e refl p.reach;
      fit = ap (λ l. eqb (length s.client.slots) s.client_places && eqb l s.server_places) p.long;
      clients = refl;
      servers = refl;
    }

-- an occupied place lies within
some_within : (i : ℕ) (s : Store Object) (x : Object) → at i s ≡ Some x → (i < s.used) × (i < length s.slots)
some_within i s x e =
    elim (cases_lt i s.used) [
      | inl u ↦ elim (cases_lt i (length s.slots)) [
        | inl l ↦ (u, l)
        | inr past ↦ let a = at_below i s u in let b = get_or_past s.slots i None past in let z : ◌≡◌ {A = ℕ} 0 1 = cc in absurd (omega arith)
      ]
      | inr past ↦ let a = at_above i s past in let z : ◌≡◌ {A = ℕ} 0 1 = cc in absurd (omega arith)
    ]

-- one write to a store
write_reach : (b : Bool) (i j used : ℕ) → i < used → ltb j used ≡ ((eqb j i && b) || ltb j used)
write_reach true i j used u = grind (arith, nat_tests)
write_reach false i j used u = grind (arith, nat_tests)

write_poke : (v : Option Object) (i : ℕ) (s : Store Object) → i < s.used → i < length s.slots → Poke i v s (write v i s)
write_poke v i s u l = record {
  here = write_same v i s u l;
  other = λ j ne. write_other v i j s ne;
  count = write_count v i s u l;
  reach = λ j. write_reach (is_some v) i j s.used u;
  long = length-set s.slots i v;
}

fill_poke : (o : Object) (i : ℕ) (s : Store Object) → i ≤ s.used → i < length s.slots → at i s ≡ None → Poke i (Some o) s (fill o i s)
fill_poke o i s le l e =
    let c = fill_count o i s le l e in
    record {
      here = fill_same o i s l;
      other = λ j ne. fill_other o i j s le ne;
      count = rw e (omega arith);
      reach = λ j. grind (arith, nat_tests);
      long = length-set s.slots i (Some o);
    }

emptied_at_lem : (n : ℕ) (o : Object) (s : Map Object) (p : Option Place) → place n ≡ p → at_place p s ≡ Some o → Poked n None s (remove_at p s)
emptied_at_lem n o s None g e = let z : ◌≡◌ {A = ℕ} 0 1 = cc in absurd (omega arith)
emptied_at_lem n o s (Some (Client i)) g e =
    let w = some_within i s.client o e in
    poked_client n i None s (vacate i s.client) g (subst (Poke i None s.client) (sym (vacate_below i s.client w.0)) (write_poke None i s.client w.0 w.1))
emptied_at_lem n o s (Some (Server i)) g e =
    let w = some_within i s.server o e in
    poked_server n i None s (vacate i s.server) g (subst (Poke i None s.server) (sym (vacate_below i s.server w.0)) (write_poke None i s.server w.0 w.1))

-- an emptying of an occupied slot
pub emptied_poked : (n : ℕ) (o : Object) (s : Map Object) → lookup n s ≡ Some o → Poked n None s (emptied_at n s)
emptied_poked n o s e = emptied_at_lem n o s (place n) refl e

unchanged_at : (f : Object → Object) (s : Map Object) (p : Option Place) → at_place p s ≡ None → (update_at f p s).1 ≡ s
unchanged_at f s None e = refl
unchanged_at f s (Some (Client i)) e = ap (λ x. with_client s (rewrite_slot f x i s.client).1) e
unchanged_at f s (Some (Server i)) e = ap (λ x. with_server s (rewrite_slot f x i s.server).1) e

-- an empty slot takes no change
pub unchanged : (f : Object → Object) (n : ℕ) (s : Map Object) → lookup n s ≡ None → changed_at f n s ≡ s
unchanged f n s e = unchanged_at f s (place n) e

unpoked : (n : ℕ) (s : Map Object) → lookup n s ≡ None → Poked n None s s
unpoked n s e = record {
  here = e;
  other = λ k ne. refl;
  count = rw e;
  reach = λ k. nothing (eqb k n) (reached k s);
  fit = refl;
  clients = refl;
  servers = refl;
}
  where
    nothing : (a b : Bool) → b ≡ ((a && false) || b)
    nothing true b = refl
    nothing false b = refl

changed_at_lem : (f : Object → Object) (n : ℕ) (x : Object) (s : Map Object) (p : Option Place) → place n ≡ p → at_place p s ≡ Some x → Poked n (Some (f x)) s (update_at f p s).1
changed_at_lem f n x s None g e = let z : ◌≡◌ {A = ℕ} 0 1 = cc in absurd (omega arith)
changed_at_lem f n x s (Some (Client i)) g e =
    let w = some_within i s.client x e in
    poked_client n i (Some (f x)) s (rewrite f i s.client).1 g (subst (λ y. Poke i (Some (f x)) s.client (rewrite_slot f y i s.client).1) (sym e) (write_poke (Some (f x)) i s.client w.0 w.1))
changed_at_lem f n x s (Some (Server i)) g e =
    let w = some_within i s.server x e in
    poked_server n i (Some (f x)) s (rewrite f i s.server).1 g (subst (λ y. Poke i (Some (f x)) s.server (rewrite_slot f y i s.server).1) (sym e) (write_poke (Some (f x)) i s.server w.0 w.1))

changed_by : (f : Object → Object) (n : ℕ) (s : Map Object) (o : Option Object) → lookup n s ≡ o → Poked n (option_map f o) s (changed_at f n s)
changed_by f n s None e = subst (Poked n None s) (sym (unchanged f n s e)) (unpoked n s e)
changed_by f n s (Some x) e = changed_at_lem f n x s (place n) refl e

-- a change of what a slot holds, if anything
pub changed_poked : (f : Object → Object) (n : ℕ) (s : Map Object) → Poked n (option_map f (lookup n s)) s (changed_at f n s)
changed_poked f n s = changed_by f n s (lookup n s) refl

-- an insertion that was accepted
pub record Placed (n : ℕ) (o : Object) (s s' : Map Object) : Type 0 where
  pub was : lookup n s ≡ None
  pub poked : Poked n (Some o) s s'
  pub next : (first n || reached (n - 1) s) ≡ true

client_next : (n i : ℕ) (s : Map Object) → place n ≡ Some (Client i) → i ≤ s.client.used → (first n || reached (n - 1) s) ≡ true
client_next n i s e le =
    let a = place_client n i e in
    elim (cases_lt 0 i) [
      | inl up ↦
          let g : place (n - 1) ≡ Some (Client (i - 1)) = grind (arith, nat_tests) in
          or_right (first n) (reached (n - 1) s) (ap (λ p. reached_at p s) g ∙ lt-ltb (i - 1) s.client.used (omega arith))
      | inr low ↦ let b : n ≡ 1 = omega arith in or_left (first n) (reached (n - 1) s) (ap first b)
    ]

server_next : (n i : ℕ) (s : Map Object) → place n ≡ Some (Server i) → i ≤ s.server.used → (first n || reached (n - 1) s) ≡ true
server_next n i s e le =
    let a = place_server n i e in
    elim (cases_lt 0 i) [
      | inl up ↦
          let g : place (n - 1) ≡ Some (Server (i - 1)) = grind (arith, nat_tests) in
          or_right (first n) (reached (n - 1) s) (ap (λ p. reached_at p s) g ∙ lt-ltb (i - 1) s.server.used (omega arith))
      | inr low ↦ let b : n ≡ 0xFF00_0000 = omega arith in or_left (first n) (reached (n - 1) s) (ap first b)
    ]

server_gap : (n i : ℕ) (s : Map Object) → place n ≡ Some (Server i) → s.server.used < i → (first n || reached (n - 1) s) ≡ false
server_gap n i s e gap =
    let a = place_server n i e in
    let g : place (n - 1) ≡ Some (Server (i - 1)) = grind (arith, nat_tests) in
    or_from (first n) (reached (n - 1) s)
    (or_from (eqb n 1) (eqb n 0xFF00_0000) (ne_eqb n 1 (λ h. omega arith)) (ne_eqb n 0xFF00_0000 (λ h. omega arith)))
    (ap (λ p. reached_at p s) g ∙ le-ltb (i - 1) s.server.used (omega arith))

client_placed : (n i : ℕ) (o : Object) (s : Map Object) → place n ≡ Some (Client i) → i ≤ s.client.used → i < length s.client.slots → at i s.client ≡ None → Placed n o s (with_client s (fill o i s.client))
client_placed n i o s e le l free = record {
  was = ap (λ p. at_place p s) e ∙ free;
  poked = poked_client n i (Some o) s (fill o i s.client) e (fill_poke o i s.client le l free);
  next = client_next n i s e le;
}

server_placed : (n i : ℕ) (o : Object) (s : Map Object) → place n ≡ Some (Server i) → i ≤ s.server.used → i < length s.server.slots → at i s.server ≡ None → Placed n o s (with_server s (fill o i s.server))
server_placed n i o s e le l free = record {
  was = ap (λ p. at_place p s) e ∙ free;
  poked = poked_server n i (Some o) s (fill o i s.server) e (fill_poke o i s.server le l free);
  next = server_next n i s e le;
}

-- the rooms have their lengths
fit_parts : (s : Map Object) → fits s ≡ true → (length s.client.slots ≡ s.client_places) × (length s.server.slots ≡ s.server_places)
fit_parts s e =
    let p = and_parts (eqb (length s.client.slots) s.client_places) (eqb (length s.server.slots) s.server_places) e in
    (eqb-true _ _ p.0, eqb-true _ _ p.1)

-- the child of a request is placed at the next free number
pub placing_placed : (n : ℕ) (o : Object) (s : Map Object) → s.client_places < 2 ^ 16 → fits s ≡ true → free_number s ≡ Some n → Placed n o s (placing (Some (n, o)) s) × (0 < n) × (n < 0xFF00_0000)
placing_placed n o s few fit e =
    let t = s.client in
    let f = first_free t in
    let len = (fit_parts s fit).0 in
    elim (cases_lt f (length t.slots)) [
      | inl l ↦
          let b = lt-ltb f (length t.slots) l in
          let a : Some (f + 1) ≡ Some n = sym (cond-true (ltb f (length t.slots)) (Some (f + 1)) None b) ∙ e in
          let n≡ : n ≡ f + 1 = cc in
          let g : place n ≡ Some (Client f) = ap place n≡ ∙ client_place f (omega arith) in
          let p = client_placed n f o s g (free_le t) l (free_empty t) in
          let q : insert_free o t ≡ (Ok f, fill o f t) = cond-true (ltb f (length t.slots)) (Ok f, fill o f t) (Err ClientFull, t) b in
          (subst (λ d. Placed n o s (with_client s d.1)) (sym q) p, omega arith, omega arith)
      | inr past ↦
          let a : None ≡ Some n = sym (cond-false (ltb f (length t.slots)) (Some (f + 1)) None (le-ltb f (length t.slots) past)) ∙ e in
          let z : ◌≡◌ {A = ℕ} 0 1 = cc in absurd (omega arith)
    ]

-- a search among numbers of which the first d are occupied
search_stops : (k d n : ℕ) (look : Look) → d < k → ((j : ℕ) → j < d → is_some (look (n + j)) ≡ true) → is_some (look (n + d)) ≡ false → free_from k n look ≡ Some (n + d)
search_stops zero d n look l below e = absurd (omega arith)
search_stops (suc k) zero n look l below e =
    let same : n + 0 ≡ n = omega arith in
    rw same (cond-false (is_some (look n)) (free_from k (n + 1) look) (Some n) (ap (λ x. is_some (look x)) (sym same) ∙ e))
search_stops (suc k) (suc d) n look l below e =
    let shift : (j : ℕ) → n + 1 + j ≡ n + suc j = λ j. omega arith in
    let same : n ≡ n + 0 = omega arith in
    cond-true (is_some (look n)) (free_from k (n + 1) look) (Some n) (ap (λ x. is_some (look x)) same ∙ below 0 (omega arith))
    ∙ (search_stops k d (n + 1) look (omega arith) (λ j h. ap (λ x. is_some (look x)) (shift j) ∙ below (suc j) (omega arith)) (ap (λ x. is_some (look x)) (shift d) ∙ e) ∙ ap Some (shift d))

search_ends : (k n : ℕ) (look : Look) → ((j : ℕ) → j < k → is_some (look (n + j)) ≡ true) → free_from k n look ≡ None
search_ends zero n look below = refl
search_ends (suc k) n look below =
    let shift : (j : ℕ) → n + 1 + j ≡ n + suc j = λ j. omega arith in
    let same : n ≡ n + 0 = omega arith in
    cond-true (is_some (look n)) (free_from k (n + 1) look) (Some n) (ap (λ x. is_some (look x)) same ∙ below 0 (omega arith))
    ∙ search_ends k (n + 1) look (λ j h. ap (λ x. is_some (look x)) (shift j) ∙ below (suc j) (omega arith))

-- the next free number is the smallest at which nobody is
pub free_number_lem : (s : Map Object) → s.client_places < 2 ^ 16 → fits s ≡ true → free_number s ≡ free_from s.client_places 1 (seen_in s)
free_number_lem s few fit =
    let t = s.client in
    let f = first_free t in
    let len = (fit_parts s fit).0 in
    let seen : (j : ℕ) → j < 2 ^ 16 → lookup (1 + j) s ≡ at j t = λ j h. let g : place (1 + j) ≡ Some (Client j) = grind (arith, nat_tests) in ap (λ p. at_place p s) g in
    elim (cases_lt f (length t.slots)) [
      | inl l ↦
          let q : 1 + f ≡ f + 1 = omega arith in
          cond-true (ltb f (length t.slots)) (Some (f + 1)) None (lt-ltb f (length t.slots) l)
          ∙ sym (search_stops s.client_places f 1 (seen_in s) (omega arith) (λ j h. ap is_some (seen j (omega arith)) ∙ free_below j t h) (ap is_some (seen f (omega arith) ∙ free_empty t)) ∙ ap Some q)
      | inr past ↦
          cond-false (ltb f (length t.slots)) (Some (f + 1)) None (le-ltb f (length t.slots) past)
          ∙ sym (search_ends s.client_places 1 (seen_in s) (λ j h. ap is_some (seen j (omega arith)) ∙ free_below j t (omega arith)))
    ]

-- an insertion at a number of the server's range: accepted, or only slots lack, or the number is unusable
pub data Inserts (n : ℕ) (o : Object) (s : Map Object) : Type 0 where
  taken : (s' : Map Object) → insert_at (place n) o s ≡ (Ok tt, s') → Placed n o s s' → ltb n (0xFF00_0000 + s.server_places) ≡ true → ((first n || reached (n - 1) s) && not (is_some (lookup n s))) ≡ true → Inserts n o s
  lacking : insert_at (place n) o s ≡ (Err NoSlot, s) → ltb n (0xFF00_0000 + s.server_places) ≡ false → ((first n || reached (n - 1) s) && not (is_some (lookup n s))) ≡ true → Inserts n o s
  unusable : (e : Refusal) → insert_at (place n) o s ≡ (Err e, s) → ((i k : ℕ) → unplaced i k e ≡ UnusableNumber i k) → ((first n || reached (n - 1) s) && not (is_some (lookup n s))) ≡ false → Inserts n o s

server_place : (n : ℕ) → ltb n 0xFF00_0000 ≡ false → place n ≡ Some (Server (n - 0xFF00_0000))
server_place n h = grind (arith, nat_tests)

none_is : (o : Option Object) → is_some o ≡ false → o ≡ None
none_is None e = refl
none_is (Some x) e = cc

inserts_in : (n i : ℕ) (o : Object) (s : Map Object) → place n ≡ Some (Server i) → fits s ≡ true → Inserts n o s
inserts_in n i o s g fit =
    let t = s.server in
    let a = place_server n i g in
    let len = (fit_parts s fit).1 in
    let at_n : lookup n s ≡ at i t = ap (λ p. at_place p s) g in
    let at_the_place : insert_at (place n) o s ≡ in_server s (insert o i t) = ap (λ p. insert_at p o s) g in
    elim (cases_lt t.used i) [
      | inl gap ↦
          let q : insert o i t ≡ (Err Gap, t) = rw (lt-ltb t.used i gap) in
          unusable Gap (at_the_place ∙ ap (in_server s) q) (λ _ _. refl) (and_left (first n || reached (n - 1) s) (not (is_some (lookup n s))) (server_gap n i s g gap))
      | inr le ↦ elim (cases_lt i (length t.slots)) [
        | inl l ↦ elim (cases_Bool (is_some (at i t))) [
          | inl some ↦
              let q : insert o i t ≡ (Err Occupied, t) = rw (le-ltb t.used i le, lt-ltb i (length t.slots) l, some) in
              unusable Occupied (at_the_place ∙ ap (in_server s) q) (λ _ _. refl) (and_right (first n || reached (n - 1) s) (not (is_some (lookup n s))) (ap (λ x. not (is_some x)) at_n ∙ ap not some))
          | inr none ↦
              let q : insert o i t ≡ (Ok tt, fill o i t) = rw (le-ltb t.used i le, lt-ltb i (length t.slots) l, none) in
              taken (with_server s (fill o i t)) (at_the_place ∙ ap (in_server s) q)
              (server_placed n i o s g le l (none_is (at i t) none))
              (lt-ltb n (0xFF00_0000 + s.server_places) (omega arith))
              (and_from (first n || reached (n - 1) s) (not (is_some (lookup n s))) (server_next n i s g le) (ap (λ x. not (is_some x)) at_n ∙ ap not none))
        ]
        | inr past ↦
            let q : insert o i t ≡ (Err NoSlot, t) = rw (le-ltb t.used i le, le-ltb i (length t.slots) past) in
            let b = get_or_past t.slots i None past in
            let none : at i t ≡ None = elim (cases_lt i t.used) [ inl u ↦ at_below i t u ∙ b | inr above ↦ at_above i t above ] in
            lacking (at_the_place ∙ ap (in_server s) q)
            (le-ltb n (0xFF00_0000 + s.server_places) (omega arith))
            (and_from (first n || reached (n - 1) s) (not (is_some (lookup n s))) (server_next n i s g le) (ap (λ x. not (is_some x)) (at_n ∙ none)))
      ]
    ]

-- one of the three always holds
pub inserts : (n : ℕ) (o : Object) (s : Map Object) → ltb n 0xFF00_0000 ≡ false → fits s ≡ true → Inserts n o s
inserts n o s h fit = inserts_in n (n - 0xFF00_0000) o s (server_place n h) fit

vacant_in : (n i : ℕ) (o : Object) (s : Map Object) → place n ≡ Some (Server i) → i < s.server.used → i < length s.server.slots → lookup n s ≡ None → Placed n o s (insert_at (place n) o s).1 × ((insert_at (place n) o s).0 ≡ Ok tt)
vacant_in n i o s g u l none =
    let t = s.server in
    let free : at i t ≡ None = sym (ap (λ p. at_place p s) g) ∙ none in
    let is : is_some (at i t) ≡ false = ap is_some free in
    let le : i ≤ t.used = omega arith in
    let q : insert o i t ≡ (Ok tt, fill o i t) = rw (le-ltb t.used i le, lt-ltb i (length t.slots) l, is) in
    let r : insert_at (place n) o s ≡ (Ok tt, with_server s (fill o i t)) = ap (λ p. insert_at p o s) g ∙ ap (in_server s) q in
    (subst (λ d. Placed n o s d.1) (sym r) (server_placed n i o s g le l free), ap (λ d. d.0) r)

-- where an object was, a slot that was emptied takes the next one
pub vacant_takes : (n : ℕ) (o p : Object) (s : Map Object) → ltb n 0xFF00_0000 ≡ false → fits s ≡ true → lookup n s ≡ Some p → Placed n o (emptied_at n s) (insert_at (place n) o (emptied_at n s)).1 × ((insert_at (place n) o (emptied_at n s)).0 ≡ Ok tt)
vacant_takes n o p s h fit e =
    let i = n - 0xFF00_0000 in
    let g = server_place n h in
    let w = some_within i s.server p (sym (ap (λ q. at_place q s) g) ∙ e) in
    let v : emptied_at n s ≡ with_server s (write None i s.server) = ap (λ q. remove_at q s) g ∙ ap (with_server s) (vacate_below i s.server w.0) in
    let len = length-set s.server.slots i None in
    let k = emptied_poked n p s e in
    let there : lookup n (with_server s (write None i s.server)) ≡ None = ap (lookup n) (sym v) ∙ k.here in
    subst (λ m. Placed n o m (insert_at (place n) o m).1 × ((insert_at (place n) o m).0 ≡ Ok tt)) (sym v)
    (vacant_in n i o (with_server s (write None i s.server)) g w.0 (omega arith) there)

-- the slots of a new connection: the display at 1, and nothing else
pub record Opened (c s : List (Option Object)) (m : Map Object) : Type 0 where
  pub fit : fits m ≡ true
  pub clients : m.client_places ≡ length c
  pub servers : m.server_places ≡ length s
  pub display : lookup 1 m ≡ Some display_object
  pub other : (n : ℕ) → (n ≡ 1 → ⊥) → lookup n m ≡ None
  pub count : occupied m ≡ 1
  pub reach : (n : ℕ) → reached n m ≡ eqb n 1

-- both rooms emptied
abbrev bare : List (Option Object) → List (Option Object) → Map Object
bare c s = map_of (record { client = fresh (length c); server = fresh (length s) }) (emptied c) (emptied s)

bare_at : (p : Option Place) (c s : List (Option Object)) → (at_place p (bare c s) ≡ None) × (reached_at p (bare c s) ≡ false)
bare_at None c s = (refl, refl)
bare_at (Some (Client i)) c s = (at_above i (bare c s).client (omega arith), le-ltb i 0 (omega arith))
bare_at (Some (Server i)) c s = (at_above i (bare c s).server (omega arith), le-ltb i 0 (omega arith))

bare_opened : (c s : List (Option Object)) (m : Map Object) → Placed 1 display_object (bare c s) m → Opened c s m
bare_opened c s m p =
    let k = p.poked in
    let n = k.count in
    record {
      fit = k.fit ∙ and_from (eqb (length (emptied c)) (length c)) (eqb (length (emptied s)) (length s)) (eq-eqb (length (emptied c)) (length c) (length-map c (λ _. None))) (eq-eqb (length (emptied s)) (length s) (length-map s (λ _. None)));
      clients = k.clients;
      servers = k.servers;
      display = k.here;
      other = λ x ne. k.other x ne ∙ (bare_at (place x) c s).0;
      count = omega arith;
      reach = λ x. k.reach x ∙ (ap (λ b. (eqb x 1 && true) || b) (bare_at (place x) c s).1 ∙ plain (eqb x 1));
    }
  where
    plain : (b : Bool) → ((b && true) || false) ≡ b
    plain true = refl
    plain false = refl

-- a creation over lawful rooms
pub opened : (number : ℕ) (c s : List (Option Object)) (e : End) → lawful c s ≡ true → Opened c s (created number c s e).slots
opened number c s e ok =
    let m = bare c s in
    let t = m.client in
    let some : 0 < length c = ltb-true 0 (length c) (and_parts (ltb 0 (length c)) (ltb (length c) (2 ^ 16) && ltb (length s) (2 ^ 16)) ok).0 in
    let len : length (emptied c) ≡ length c = length-map c (λ _. None) in
    let l : 0 < length (emptied c) = omega arith in
    let q : insert display_object 0 t ≡ (Ok tt, fill display_object 0 t) = cond-true (ltb 0 (length (emptied c))) (Ok tt, fill display_object 0 t) (Err NoSlot, t) (lt-ltb 0 (length (emptied c)) l) in
    bare_opened c s (created number c s e).slots
    (subst (λ d. Placed 1 display_object m (with_client m d.1)) (sym q) (client_placed 1 0 display_object m refl (omega arith) l refl))
