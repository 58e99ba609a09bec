-- Frames passed down, and a layer over an end.
use Rattle.std.proofs.Common.{◌≡◌, ℕ, ◌+◌, ◌-◌, ◌<◌, ◌≤◌, Bool, true, false, cond, eqb, leb, List, [], ◌∷◌, ◌++◌, length, Some, None, Ok, Err, Result, sym, refl, ap, ◌∙◌, subst, inl, inr, append_assoc, arith, MatchResult}
use Rattle.std.proofs.lemmas.List.{length_push}
use Rattle.std.proofs.lemmas.Bool.{cond-true, cond-false, eqb-true, eqb-false, eq-eqb, ne_eqb, le-leb, lt-leb, true≢false}
use Rattle.std.proofs.lemmas.Bool.Decides.{eqb_tells, leb_tells}
use Rattle.std.specs.List.{slice_get}
use Rattle.protocol.specs.declared.error.TransportFault.{TransportFault}
use Rattle.transport.specs.Wire.{Message}
use Rattle.transport.specs.Rings.{Queue, pushing}
use Rattle.transport.specs.Ends.{End, fault, sending, put_fault, putting, flushing, Grounded, GroundedIf}
use Rattle.transport.specs.Layers.{queue, total, over, Layers, passed_or, pass_down, passing, raised, raised_in, held_or, hold_again, put_through, and_then, left_behind, flush_through}

abbrev Put : Type 0
Put = Result (Unit {0}) TransportFault × End

apart : (f : TransportFault) → ◌≡◌ {A = Result (Unit {0}) TransportFault} (Err f) (Ok tt) → ⊥
apart f h = let z : ◌≡◌ {A = ℕ} 0 1 = cc in omega arith

-- what a put did: it took the frame, or there was no room
no_room : (b : Bool) (f g : TransportFault) (e e' s : End) → ◌≡◌ {A = Put} (Err f, e') (cond b (Err g, e) (Ok tt, s)) → (b ≡ true) × (f ≡ g) × (e' ≡ e)
no_room true f g e e' s h = let p : ◌≡◌ {A = Result (Unit {0}) TransportFault} (Err f) (Err g) = ap (λ (t : Put). t.0) h in (refl, cc, ap (λ (t : Put). t.1) h)
no_room false f g e e' s h = absurd (apart f (ap (λ (t : Put). t.0) h))

some_room : (b : Bool) (g : TransportFault) (e e' s : End) → ◌≡◌ {A = Put} (Ok tt, e') (cond b (Err g, e) (Ok tt, s)) → (b ≡ false) × (e' ≡ s)
some_room true g e e' s h = absurd (apart g (sym (ap (λ (t : Put). t.0) h)))
some_room false g e e' s h = (refl, ap (λ (t : Put). t.1) h)

pub put_err : (m : Message) (e e' : End) (f : TransportFault) → (Err f, e') ≡ putting m e → (e.room ≡ 0) × (f ≡ put_fault e) × (e' ≡ e)
put_err m e e' f h = let p = no_room (eqb e.room 0) f (put_fault e) e e' (sending m e) h in (eqb-true e.room 0 p.0, p.1, p.2)

pub put_ok : (m : Message) (e e' : End) → (Ok tt, e') ≡ putting m e → (0 < e.room) × (e' ≡ sending m e)
put_ok m e e' h = let p = some_room (eqb e.room 0) (put_fault e) e e' (sending m e) h in let n = eqb-false e.room 0 p.0 in (grind arith, p.1)

-- the loop that passes frames down, where it ends
pub pass_end : (e : End) (ms : List Message) (n : ℕ) → None ≡ slice_get ms 0 → ◌≡◌ {A = Layers} (Ok tt, e, queue ms n) (pass_down e ms n)
pass_end e [] n h = refl
pass_end e (m ∷ ms) n h = let z : ◌≡◌ {A = ℕ} 0 1 = cc in absurd (omega arith)

pub pass_stop : (e e' : End) (ms : List Message) (n : ℕ) (m m' : Message) (f : TransportFault) → Some m ≡ slice_get ms 0 → m' ≡ m → (Err f, e') ≡ putting m' e → ◌≡◌ {A = Layers} (Err f, e', queue ms n) (pass_down e ms n)
pass_stop e e' [] n m m' f h k p = let z : ◌≡◌ {A = ℕ} 0 1 = cc in absurd (omega arith)
pass_stop e e' (x ∷ ms) n m m' f h k p =
    let same : m' ≡ x = cc in
    ap (λ (t : Result (Unit {0}) TransportFault × End). passed_or t (queue (x ∷ ms) n) (λ e''. pass_down e'' ms (n + 1))) (p ∙ ap (λ (y : Message). putting y e) same)

abbrev layers : Result (Unit {0}) TransportFault → End → Queue → Layers
layers r e q = (r, e, q)

-- what passing leaves: the same end, seen from above, and nothing held, or no room below
pub record Passed (e : End) (q : Queue) (t : Layers) : Type 0 where
  pub same : over t.1 t.2 ≡ over e q
  pub kept : total t.2 ≡ total q
  pub ground : Grounded e → Grounded t.1
  pub ways : MatchResult t.0 (λ _. t.2.frames ≡ []) (λ f. (t.1.room ≡ 0) × (f ≡ put_fault t.1) × (0 < length t.2.frames))

end_is : (e e' : End) → e.waiting ≡ e'.waiting → e.read_stop ≡ e'.read_stop → e.sent ≡ e'.sent → e.room ≡ e'.room → e.write_stop ≡ e'.write_stop → e.hold ≡ e'.hold → e.height ≡ e'.height
    → ◌≡◌ {A = End} (record { waiting = e.waiting; read_stop = e.read_stop; sent = e.sent; room = e.room; write_stop = e.write_stop; hold = e.hold; height = e.height })
    (record { waiting = e'.waiting; read_stop = e'.read_stop; sent = e'.sent; room = e'.room; write_stop = e'.write_stop; hold = e'.hold; height = e'.height })
end_is e e' a b c d f g h = cc

over_passed : (e : End) (m : Message) (ms : List Message) (n : ℕ) → 0 < e.room → over (sending m e) (queue ms (n + 1)) ≡ over e (queue (m ∷ ms) n)
over_passed e m ms n h =
    end_is (over (sending m e) (queue ms (n + 1))) (over e (queue (m ∷ ms) n)) refl refl (append_assoc e.sent (m ∷ []) ms) (omega arith) refl (omega arith) refl

pass_step : (e : End) (m : Message) (ms : List Message) (n : ℕ) (b : Bool) → eqb e.room 0 ≡ b → Passed (sending m e) (queue ms (n + 1)) (pass_down (sending m e) ms (n + 1))
    → Passed e (queue (m ∷ ms) n) (passed_or (cond b (Err (put_fault e), e) (Ok tt, sending m e)) (queue (m ∷ ms) n) (λ e'. pass_down e' ms (n + 1)))
pass_step e m ms n true h ih = record { same = refl; kept = refl; ground = λ g. g; ways = (eqb-true e.room 0 h, refl, omega arith) }
pass_step e m ms n false h ih = let k = eqb-false e.room 0 h in record { same = ih.same ∙ over_passed e m ms n (grind arith); kept = ih.kept ∙ omega arith; ground = λ g. ih.ground (record { low = g.low; reads = g.reads; stops = g.stops }); ways = ih.ways }

pub pass_facts : (e : End) (ms : List Message) (n : ℕ) → Passed e (queue ms n) (pass_down e ms n)
pass_facts e [] n = record { same = refl; kept = refl; ground = λ g. g; ways = refl }
pass_facts e (m ∷ ms) n = pass_step e m ms n (eqb e.room 0) refl (pass_facts (sending m e) ms (n + 1))

-- a push that found a place, and one that did not
found_place : (b : Bool) (q q' s : Queue) → ◌≡◌ {A = Bool × Queue} (true, q') (cond b (false, q) (true, s)) → (b ≡ false) × (q' ≡ s)
found_place true q q' s h = absurd (true≢false (ap (λ (t : Bool × Queue). t.0) h))
found_place false q q' s h = (refl, ap (λ (t : Bool × Queue). t.1) h)

found_none : (b : Bool) (q q' s : Queue) → ◌≡◌ {A = Bool × Queue} (false, q') (cond b (false, q) (true, s)) → (b ≡ true) × (q' ≡ q)
found_none true q q' s h = (refl, ap (λ (t : Bool × Queue). t.1) h)
found_none false q q' s h = absurd (true≢false (sym (ap (λ (t : Bool × Queue). t.0) h)))

-- a frame that is held
over_held : (m : Message) (e : End) (q : Queue) → 0 < q.free → over e (queue (q.frames ++ m ∷ []) (q.free - 1)) ≡ sending m (over e q)
over_held m e q h =
    end_is (over e (queue (q.frames ++ m ∷ []) (q.free - 1))) (sending m (over e q)) refl refl (sym (append_assoc e.sent q.frames (m ∷ []))) (omega arith) refl (omega (arith, length_push q.frames m)) refl

abbrev taken : End → Put
taken e = (Ok tt, e)

pub put_held : (m : Message) (e : End) (q q' : Queue) → (true, q') ≡ pushing m q → ◌≡◌ {A = Put} (Ok tt, over e q') (putting m (over e q))
put_held m e q q' h =
    let p = found_place (eqb q.free 0) q q' (queue (q.frames ++ m ∷ []) (q.free - 1)) h in
    let n = eqb-false q.free 0 p.0 in
    let some : 0 < q.free = grind arith in
    let room : eqb (e.room + q.free) 0 ≡ false = ne_eqb (e.room + q.free) 0 (λ z. omega arith) in
    ap taken (ap (over e) p.1 ∙ over_held m e q some)
    ∙ sym (cond-false (eqb (e.room + q.free) 0) (Err (put_fault (over e q)), over e q) (Ok tt, sending m (over e q)) room)

abbrev refused : TransportFault → End → Put
refused f e = (Err f, e)

raised_open : (e : End) (q : Queue) → Grounded e → 0 < length q.frames → eqb e.write_stop 0 ≡ true → raised (put_fault e) ≡ put_fault (over e q)
raised_open e q g h w =
    let deep : eqb (e.hold + (length q.frames + q.free)) 0 ≡ false = ne_eqb (e.hold + (length q.frames + q.free)) 0 (λ z. omega arith) in
    let above : put_fault (over e q) ≡ fault (e.height + cond (eqb e.hold 0) 1 0) 7 =
    cond-true (eqb e.write_stop 0) _ (fault 0 e.write_stop) w ∙ cond-false (eqb (e.hold + (length q.frames + q.free)) 0) (fault 0 11) (fault (e.height + cond (eqb e.hold 0) 1 0) 7) deep in
    elim (eqb_tells e.hold 0) [
      | inl t ↦
          let b = t.0 in
          let low : e.height ≡ 0 = g.low t.1 in
          let below : put_fault e ≡ fault 0 11 = cond-true (eqb e.write_stop 0) _ (fault 0 e.write_stop) w ∙ cond-true (eqb e.hold 0) (fault 0 11) (fault e.height 7) b in
          let here : e.height + cond (eqb e.hold 0) 1 0 ≡ 1 = ap (λ (n : ℕ). e.height + n) (cond-true (eqb e.hold 0) 1 0 b) ∙ omega arith in
          ap raised below ∙ sym (above ∙ ap (λ (n : ℕ). fault n 7) here)
      | inr t ↦
          let b = t.0 in
          let below : put_fault e ≡ fault e.height 7 = cond-true (eqb e.write_stop 0) _ (fault 0 e.write_stop) w ∙ cond-false (eqb e.hold 0) (fault 0 11) (fault e.height 7) b in
          let here : e.height + cond (eqb e.hold 0) 1 0 ≡ e.height = ap (λ (n : ℕ). e.height + n) (cond-false (eqb e.hold 0) 1 0 b) ∙ omega arith in
          ap raised below ∙ sym (above ∙ ap (λ (n : ℕ). fault n 7) here)
    ]

-- a put that found no place, even after frames were passed down
raised_same : (e : End) (q : Queue) → Grounded e → 0 < length q.frames → raised (put_fault e) ≡ put_fault (over e q)
raised_same e q g h =
    elim (eqb_tells e.write_stop 0) [
      | inl t ↦ raised_open e q g h t.0
      | inr t ↦
          let w = t.0 in
          let n : eqb e.write_stop 11 ≡ false = ne_eqb e.write_stop 11 g.stops in
          let p : put_fault e ≡ fault 0 e.write_stop = cond-false (eqb e.write_stop 0) _ (fault 0 e.write_stop) w in
          let r : put_fault (over e q) ≡ fault 0 e.write_stop = cond-false (eqb e.write_stop 0) _ (fault 0 e.write_stop) w in
          ap raised p ∙ cond-false (eqb e.write_stop 11) (fault 1 7) (fault 0 e.write_stop) n ∙ sym r
    ]

put_full : (m : Message) (e e' : End) (q q' q'' : Queue) (f : TransportFault) → ◌≡◌ {A = Layers} (Err f, e', q') (passing e q) → (false, q'') ≡ pushing m q' → Grounded e'
    → ◌≡◌ {A = Put} (Err (raised f), over e' q'') (putting m (over e q))
put_full m e e' q q' q'' f h k g =
    let t = subst (λ (t : Layers). Passed e q t) (sym h) (pass_facts e q.frames q.free) in
    let n = found_none (eqb q'.free 0) q' q'' (queue (q'.frames ++ m ∷ []) (q'.free - 1)) k in
    let z = eqb-true q'.free 0 n.0 in
    let w = t.ways in
    let room : eqb (e'.room + q'.free) 0 ≡ true = eq-eqb (e'.room + q'.free) 0 (omega (arith, w.0)) in
    let c : putting m (over e' q') ≡ (Err (put_fault (over e' q')), over e' q') = cond-true (eqb (e'.room + q'.free) 0) (Err (put_fault (over e' q')), over e' q') (Ok tt, sending m (over e' q')) room in
    ap (λ (x : TransportFault). refused x (over e' q'')) (ap raised w.1 ∙ raised_same e' q' g w.2)
    ∙ ap (λ (x : Queue). refused (put_fault (over e' q')) (over e' x)) n.1 ∙ sym c ∙ ap (putting m) t.same

flush_same : (r : Result (Unit {0}) TransportFault) (e e' : End) (q q' : Queue) → ◌≡◌ {A = Layers} (r, e', q') (passing e q) → over e' q' ≡ over e q
flush_same r e e' q q' h = (subst (λ (t : Layers). Passed e q t) (sym h) (pass_facts e q.frames q.free)).same

-- a flush answers as the layer's end would
and_ok : (r : Result (Unit {0}) TransportFault) → and_then r (Ok tt) ≡ r
and_ok (Ok tt) = refl
and_ok (Err f) = refl

leb_same : (a b c d : ℕ) → (a ≤ b → c ≤ d) → (c ≤ d → a ≤ b) → leb a b ≡ leb c d
leb_same a b c d f g = elim (leb_tells a b) [
  | inl t ↦ t.0 ∙ sym (le-leb c d (f t.1))
  | inr t ↦ t.0 ∙ sym (elim (leb_tells c d) [ inl u ↦ absurd (let k = g u.1 in omega (arith, t.1)) | inr u ↦ u.0 ])
]

blocked : (b : Bool) → and_then (cond b (Ok tt) (Err (fault 0 11))) (Err (fault 0 11)) ≡ Err (fault 0 11)
blocked true = refl
blocked false = refl

stopped_so : (b : Bool) (x y : Result (Unit {0}) TransportFault) (n : ℕ) → and_then x (Err (fault 0 11)) ≡ Err (fault 0 11) → y ≡ Err (fault 0 11)
    → and_then (cond b x (Err (fault 0 n))) (Err (fault 0 11)) ≡ cond b y (Err (fault 0 n))
stopped_so true x y n p q = p ∙ sym q
stopped_so false x y n p q = refl

answer_over : (r : Result (Unit {0}) TransportFault) (e : End) (q : Queue)
    → MatchResult r (λ _. q.frames ≡ []) (λ f. (e.room ≡ 0) × (f ≡ put_fault e) × (0 < length q.frames)) → and_then (flushing e) (left_behind r) ≡ flushing (over e q)
answer_over (Ok tt) e q w =
    let n : length q.frames ≡ 0 = ap length w in
    and_ok (flushing e)
    ∙ ap (λ (b : Bool). cond (eqb e.write_stop 0) (cond b (Ok tt) (Err (fault 0 11))) (Err (fault 0 e.write_stop))) (leb_same e.hold e.room (e.hold + (length q.frames + q.free)) (e.room + q.free) (λ h. omega arith) (λ h. omega arith))
answer_over (Err f) e q w =
    let high : leb (e.hold + (length q.frames + q.free)) (e.room + q.free) ≡ false = lt-leb (e.hold + (length q.frames + q.free)) (e.room + q.free) (omega (arith, w.0, w.2)) in
    let above : cond (leb (e.hold + (length q.frames + q.free)) (e.room + q.free)) (Ok tt) (Err (fault 0 11)) ≡ Err (fault 0 11) = cond-false _ (Ok tt) (Err (fault 0 11)) high in
    stopped_so (eqb e.write_stop 0) (cond (leb e.hold e.room) (Ok tt) (Err (fault 0 11))) _ e.write_stop (blocked (leb e.hold e.room)) above

flush_answer : (r : Result (Unit {0}) TransportFault) (e e' : End) (q q' : Queue) → ◌≡◌ {A = Layers} (r, e', q') (passing e q) → and_then (flushing e') (left_behind r) ≡ flushing (over e q)
flush_answer r e e' q q' h =
    let t = subst (λ (t : Layers). Passed e q t) (sym h) (pass_facts e q.frames q.free) in
    answer_over r e' q' t.ways ∙ ap flushing t.same

-- frames that were all passed down leave a place
never_full : (m : Message) (e e' : End) (q q' q'' : Queue) → ◌≡◌ {A = Layers} (Ok tt, e', q') (passing e q) → 0 < total q → (false, q'') ≡ pushing m q' → ⊥
never_full m e e' q q' q'' h k full =
    let t = subst (λ (t : Layers). Passed e q t) (sym h) (pass_facts e q.frames q.free) in
    let n = found_none (eqb q'.free 0) q' q'' (queue (q'.frames ++ m ∷ []) (q'.free - 1)) full in
    omega (arith, eqb-true q'.free 0 n.0, ap length t.ways, t.kept)

-- what a call through a layer answers, and the end that is left
abbrev pub seen : Layers → Put
seen t = (t.0, over t.1 t.2)

-- a put through a layer is a put of the end that the layer makes of the one below
module _ (m : Message) (e : End) (q : Queue) (ground : Grounded e) (some : 0 < total q) where
  second_try : (p : Bool × Queue) (r : Result (Unit {0}) TransportFault) (e' : End) (q' : Queue) → ◌≡◌ {A = Layers} (r, e', q') (passing e q) → p ≡ pushing m q'
      → seen (held_or p e' (λ x. (raised_in r, e', x))) ≡ putting m (over e q)
  second_try (true, q'') r e' q' h k = put_held m e' q' q'' k ∙ ap (putting m) (flush_same r e e' q q' h)
  second_try (false, q'') (Ok tt) e' q' h k = absurd (never_full m e e' q q' q'' h some k)
  second_try (false, q'') (Err f) e' q' h k = put_full m e e' q q' q'' f h k ((subst (λ (t : Layers). Passed e q t) (sym h) (pass_facts e q.frames q.free)).ground ground)

  first_try : (p : Bool × Queue) → p ≡ pushing m q → seen (held_or p e (λ x. hold_again m (passing e x))) ≡ putting m (over e q)
  first_try (true, q') h = put_held m e q q' h
  first_try (false, q') h =
      let same = (found_none (eqb q.free 0) q q' (queue (q.frames ++ m ∷ []) (q.free - 1)) h).1 in
      let t : Layers = passing e q in
      ap (λ (x : Queue). seen (hold_again m (passing e x))) same ∙ second_try (pushing m t.2) t.0 t.1 t.2 refl refl

  pub put_over : (t : Layers) → t ≡ put_through m e q → seen t ≡ putting m (over e q)
  put_over t h = ap seen h ∙ first_try (pushing m q) refl

-- what holds of an end holds where its put faulted
pub ground_if : {A : Type 0} (r : Result A TransportFault) (e : End) → Grounded e → GroundedIf r e
ground_if (Ok _) e g = tt
ground_if (Err _) e g = g

-- a flush through a layer is a flush of that end
pub flush_over : (t : Layers) (e : End) (q : Queue) → t ≡ flush_through e q → (over t.1 t.2 ≡ over e q) × (t.0 ≡ flushing (over e q))
flush_over t e q h =
    let p : Layers = passing e q in
    (ap (λ (x : Layers). over x.1 x.2) h ∙ flush_same p.0 e p.1 q p.2 refl, ap (λ (x : Layers). x.0) h ∙ flush_answer p.0 e p.1 q p.2 refl)
