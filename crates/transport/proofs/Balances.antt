-- The theorems about ends.
use Rattle.std.proofs.Common.{◌≡◌, ℕ, ◌+◌, ◌<◌, Bool, true, false, cond, eqb, List, [], ◌∷◌, ◌++◌, take, drop, is_ok, Ok, Err, Decides, fold, Result, sym, refl, ap, ◌∙◌, subst, append_assoc, append-nil, arith}
use Rattle.std.proofs.lemmas.List.{take-append-drop}
use Rattle.std.proofs.lemmas.Bool.{cond-true, cond-false, eq-eqb, ne_eqb, eqb-false, false≢true}
use Rattle.std.specs.List.{flat_map}
use Rattle.protocol.specs.declared.error.TransportFault.{TransportFault}
use Rattle.transport.specs.Wire.{Message, message}
use Rattle.transport.specs.Rings.{Queue}
use Rattle.transport.specs.Ends.{End, fault, sending, put_fault, putting, flushing}
use Rattle.transport.specs.Lists.{Listed, end_of, collecting}
use Rattle.transport.specs.Layers.{total, over, Layers, passing, and_then, left_behind, stacked}
use Rattle.transport.specs.Laws.{ClippedOnce, PutExactly, FullOverList, FullOverLayer, FlushedEmpty, InOrder, Moment, Act, put, flush, collect, other, accepted_by, Step, Balanced, NothingLost}
use Rattle.transport.proofs.Clips.{held_held}
use Rattle.transport.proofs.Layers.{put_ok, put_err, pass_facts, Passed}

pub clipped_once : ClippedOnce
clipped_once m = ap (message m.sender m.opcode) (held_held m.args)

ok_exactly : (b : Bool) (f : TransportFault) (e s : End) (n : ℕ) → eqb n 0 ≡ b → Decides (is_ok (cond {A = Result (Unit {0}) TransportFault × End} b (Err f, e) (Ok tt, s)).0) (0 < n)
ok_exactly true f e s n h = ((λ z. absurd (false≢true z)), (λ l. absurd (false≢true (sym (ne_eqb n 0 (λ z. omega arith)) ∙ h))))
ok_exactly false f e s n h = ((λ _. let k = eqb-false n 0 h in grind arith), (λ _. refl))

pub put_exactly : PutExactly
put_exactly m e = ok_exactly (eqb e.room 0) (put_fault e) e (sending m e) e.room refl

-- the answer of a put without room
refused : (m : Message) (e : End) → e.room ≡ 0 → (putting m e).0 ≡ Err (put_fault e)
refused m e h = ap (λ (t : Result (Unit {0}) TransportFault × End). t.0) (cond-true (eqb e.room 0) (Err (put_fault e), e) (Ok tt, sending m e) (eq-eqb e.room 0 h))

pub full_over_list : FullOverList
full_over_list m l q w f n h =
    let goes : eqb l.write_stop 0 ≡ true = eq-eqb l.write_stop 0 w in
    let none : cond (eqb l.write_stop 0) l.outgoing.free 0 ≡ 0 = cond-true (eqb l.write_stop 0) l.outgoing.free 0 goes ∙ f in
    let deep : eqb (0 + total q) 0 ≡ false = ne_eqb (0 + total q) 0 (λ z. omega arith) in
    refused m (over (end_of l) q) (omega arith)
    ∙ ap Err (cond-true (eqb l.write_stop 0) _ (fault 0 l.write_stop) goes ∙ cond-false (eqb (0 + total q) 0) (fault 0 11) (fault 1 7) deep)

pub full_over_layer : FullOverLayer
full_over_layer m e q r h n =
    let deep : eqb (e.hold + total q) 0 ≡ false = ne_eqb (e.hold + total q) 0 (λ z. omega arith) in
    let held : eqb e.hold 0 ≡ false = ne_eqb e.hold 0 (λ z. omega arith) in
    let high : e.height + cond (eqb e.hold 0) 1 0 ≡ e.height = ap (λ (k : ℕ). e.height + k) (cond-false (eqb e.hold 0) 1 0 held) ∙ omega arith in
    let above : cond (eqb (e.hold + total q) 0) (fault 0 11) (fault (e.height + cond (eqb e.hold 0) 1 0) 7) ≡ fault e.height 7 =
    cond-false (eqb (e.hold + total q) 0) (fault 0 11) (fault (e.height + cond (eqb e.hold 0) 1 0) 7) deep ∙ ap (λ (k : ℕ). fault k 7) high in
    let below = cond-false (eqb e.hold 0) (fault 0 11) (fault e.height 7) held in
    refused m (over e q) (omega arith) ∙ ap (λ (f : TransportFault). Err (cond (eqb e.write_stop 0) f (fault 0 e.write_stop))) (above ∙ sym below) ∙ sym (refused m e r)

-- a flush
both_ok : (x r : Result (Unit {0}) TransportFault) → Ok tt ≡ and_then x (left_behind r) → r ≡ Ok tt
both_ok (Ok _) (Ok tt) h = refl
both_ok (Ok _) (Err f) h = let z : ◌≡◌ {A = ℕ} 0 1 = cc in absurd (omega arith)
both_ok (Err f) r h = let z : ◌≡◌ {A = ℕ} 0 1 = cc in absurd (omega arith)

emptied : (e : End) (q : Queue) (t : Layers) → Passed e q t → t.0 ≡ Ok tt → t.2.frames ≡ []
emptied e q (Ok tt, e', q') p h = p.ways
emptied e q (Err f, e', q') p h = let z : ◌≡◌ {A = ℕ} 0 1 = cc in absurd (omega arith)

pub flushed_empty : FlushedEmpty
flushed_empty e e' q q' h =
    let t : Layers = passing e q in
    let r = both_ok (flushing t.1) t.0 (ap (λ (x : Layers). x.0) h) in
    ap (λ (x : Layers). x.2.frames) h ∙ emptied e q t (pass_facts e q.frames q.free) r

sent_above : (e : End) (qs : List Queue) → (fold over e qs).sent ≡ e.sent ++ flat_map (λ q. q.frames) qs
sent_above e [] = sym (append-nil e.sent)
sent_above e (q ∷ qs) = sent_above (over e q) qs ∙ append_assoc e.sent q.frames (flat_map (λ q. q.frames) qs)

pub in_order : InOrder
in_order l qs = sent_above (end_of l) qs

-- one act keeps the balance
module _ (s t : Moment) (b : Balanced s) where
  put_balanced : (m : Message) (r : Result (Unit {0}) TransportFault) → (r, t.state) ≡ putting m s.state → t.collected ≡ s.collected → t.given ≡ s.given ++ accepted_by r m → Balanced t
  put_balanced m (Ok tt) h c g =
      let p = put_ok m s.state t.state h in
      let sent : t.state.sent ≡ s.state.sent ++ m ∷ [] = ap (λ (e : End). e.sent) p.1 in
      let a = append_assoc s.collected s.state.sent (m ∷ []) in
      cc
  put_balanced m (Err f) h c g =
      let p = put_err m s.state t.state f h in
      let sent : t.state.sent ≡ s.state.sent = ap (λ (e : End). e.sent) p.2 in
      let a = append-nil s.given in
      cc

  same_balanced : t.state.sent ≡ s.state.sent → t.collected ≡ s.collected → t.given ≡ s.given → Balanced t
  same_balanced e c g = cc

  collect_balanced : (n : ℕ) (l : Listed) (qs : List Queue) → s.state ≡ stacked l qs → t.state ≡ stacked (collecting n l).1 qs → t.collected ≡ s.collected ++ take n l.outgoing.frames → t.given ≡ s.given → Balanced t
  collect_balanced n l qs p q c g =
      let f : List Message = l.outgoing.frames in
      let j : List Message = flat_map (λ q. q.frames) qs in
      let before : s.state.sent ≡ f ++ j = ap (λ (e : End). e.sent) p ∙ in_order l qs in
      let after : t.state.sent ≡ drop n f ++ j = ap (λ (e : End). e.sent) q ∙ in_order (collecting n l).1 qs in
      let x = append_assoc s.collected (take n f) (drop n f ++ j) in
      let y = append_assoc (take n f) (drop n f) j in
      let z = take-append-drop n f in
      cc

step_balanced : (a : Act) (s t : Moment) → Step a s t → Balanced s → Balanced t
step_balanced (put m) s t h b = put_balanced s t b m h.0 h.1 h.2 h.3
step_balanced flush s t h b = same_balanced s t b (ap (λ (e : End). e.sent) h.0) h.1 h.2
step_balanced (collect n) s t h b = collect_balanced s t b n h.0 h.1 h.2 h.3 h.4 h.5
step_balanced other s t h b = same_balanced s t b h.0 h.1 h.2

pub nothing_lost : NothingLost
nothing_lost [] s t h b = subst (λ (x : Moment). Balanced x) (sym h) b
nothing_lost (a ∷ acts) s t h b = nothing_lost acts h.0 t h.2 (step_balanced a s h.0 h.1 b)
