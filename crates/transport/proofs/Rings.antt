-- What a ring's calls leave of its queue.
use Rattle.std.proofs.Common.{◌≡◌, ℕ, ◌+◌, ◌-◌, ◌<◌, ◌≤◌, min, Bool, true, false, eqb, List, [], ◌∷◌, ◌++◌, map, length, get_or, take, drop, set, Some, None, sym, ap, ◌∙◌, arith, length-set, length-take}
use Rattle.std.proofs.lemmas.List.{take_more_set, map_push, length-map, get_or-map, get_or-take, drop-map}
use Rattle.std.proofs.lemmas.Option.{slice_get-get_or, slice_get_past}
use Rattle.std.proofs.lemmas.Bool.{cond-false, ne_eqb}
use Rattle.std.specs.List.{slice_get}
use Rattle.transport.specs.Wire.{Message}
use Rattle.transport.specs.Frames.{frame_of}
use Rattle.transport.specs.Rings.{rotated, place, ring_of, Queue, queue_of, pushing, releasing}
use Rattle.transport.specs.declared.frame.Frame.{Frame}
use Rattle.transport.specs.declared.ring.Ring.{Ring}
use Rattle.transport.proofs.Rooms.{take_same, drop_same}
use Rattle.transport.proofs.Queues.{length-rotated, rotated-set, rotated-read, rotated-drop}

abbrev queue : List Message → ℕ → Queue
queue q n = record { frames = q; free = n }

module _ (room : List Frame) (h c : ℕ) where
  abbrev ring : Ring
  ring = record { head = h; count = c }

  pub length-ring : length (ring_of ring room) ≡ min c (length room)
  length-ring = length-map (take c (rotated h room)) frame_of ∙ length-take c (rotated h room) ∙ ap (min c) (length-rotated h room)

  pub ring-push : (f : Frame) (m : Message) → c < length room → frame_of f ≡ m
      → ◌≡◌ {A = Bool × Queue} (true, queue_of (record { head = h; count = c + 1 }) (set room (place (length room) h c) f)) (pushing m (queue_of ring room))
  ring-push f m l e =
      let n : length (set room (place (length room) h c) f) - (c + 1) ≡ (length room - c) - 1 = omega (arith, length-set room (place (length room) h c) f) in
      let more : ring_of (record { head = h; count = c + 1 }) (set room (place (length room) h c) f) ≡ ring_of ring room ++ m ∷ [] =
      ap (λ (r : List Frame). map frame_of (take (c + 1) r)) (rotated-set room h c f l)
      ∙ ap (map frame_of) (take_more_set (rotated h room) c f (omega (arith, length-rotated h room)))
      ∙ map_push frame_of (take c (rotated h room)) f
      ∙ ap (λ (x : Message). ring_of ring room ++ x ∷ []) e in
      let some : eqb (length room - c) 0 ≡ false = ne_eqb (length room - c) 0 (λ z. omega arith) in
      ap (λ (q : List Message). (true, queue q (length (set room (place (length room) h c) f) - (c + 1)))) more
      ∙ ap (λ (k : ℕ). (true, queue (ring_of ring room ++ m ∷ []) k)) n
      ∙ sym (cond-false (eqb (length room - c) 0) (false, queue_of ring room) (true, queue (ring_of ring room ++ m ∷ []) ((length room - c) - 1)) some)

  pub ring_past : (i : ℕ) → min c (length room) ≤ i → None ≡ slice_get (ring_of ring room) i
  ring_past i l = sym (slice_get_past (ring_of ring room) i (omega (arith, length-ring)))

  pub ring-get : (i p : ℕ) (d : Frame) → i < min c (length room) → p ≡ place (length room) h i → Some (frame_of (get_or room p d)) ≡ slice_get (ring_of ring room) i
  ring-get i p d l at =
      let q : List Frame = take c (rotated h room) in
      let k : i < length q = omega (arith, length-take c (rotated h room), length-rotated h room) in
      let a = get_or-map frame_of q i d (frame_of d) k in
      let b = get_or-take c (rotated h room) i d (omega arith) in
      let e = rotated-read room h i d (omega arith) in
      ap (λ (k : ℕ). Some (frame_of (get_or room k d))) at ∙ ap (λ (f : Frame). Some (frame_of f)) (sym (b ∙ e)) ∙ ap Some (sym a) ∙ sym (slice_get-get_or (ring_of ring room) i (frame_of d) (omega (arith, length-ring)))

  pub ring-release : (n places len gone p : ℕ) → length room ≡ places → len ≡ min c places → gone ≡ min n len → p ≡ place places h gone
      → queue_of (record { head = p; count = len - gone }) room ≡ releasing n (queue_of ring room)
  ring-release n places len gone p same l g at =
      let q : List Frame = take c (rotated h room) in
      let size : length q ≡ len = length-take c (rotated h room) ∙ ap (min c) (length-rotated h room ∙ same) ∙ sym l in
      let front : take len (rotated h room) ≡ q = take_same len c (rotated h room) (omega (arith, length-rotated h room)) in
      let less : drop gone q ≡ drop n q = ap (λ (k : ℕ). drop k q) (g ∙ ap (min n) (sym size)) ∙ drop_same n q in
      let rest : ring_of (record { head = p; count = len - gone }) room ≡ drop n (ring_of ring room) =
      ap (λ (k : ℕ). map frame_of (take (len - gone) (rotated k room))) (at ∙ ap (λ (k : ℕ). place k h gone) (sym same))
      ∙ ap (map frame_of) (rotated-drop room h gone len (omega arith) (omega arith) ∙ ap (drop gone) front ∙ less) ∙ sym (drop-map frame_of n q) in
      let free : length room - (len - gone) ≡ (length room - c) + min n (length (ring_of ring room)) = omega (arith, length-ring) in
      ap (λ (x : List Message). queue x (length room - (len - gone))) rest ∙ ap (λ (k : ℕ). queue (drop n (ring_of ring room)) k) free
