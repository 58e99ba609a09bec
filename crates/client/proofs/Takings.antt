-- A frame that is taken into the first 1,024 bytes of a text room is taken into the room.
use Rattle.std.proofs.Common.{◌≡◌, ℕ, suc, ◌+◌, ◌≤◌, cond, eqb, List, [], ◌∷◌, ◌++◌, length, take, drop, Some, None, Ok, Err, Option, Result, sym, refl, ap, ◌∙◌, length-append, append_assoc, arith}
use Rattle.std.proofs.lemmas.Bool.{cond-true, and_from, le-leb}
use Rattle.std.proofs.lemmas.List.{take-append-drop, drop-append-le, length-take}
use Rattle.std.specs.Result.{result_ok}
use Rattle.protocol.specs.declared.argument.Argument.{Argument}
use Rattle.protocol.specs.declared.argument.ArgumentType.{ArgumentType}
use Rattle.protocol.specs.declared.id.ObjectId.{ObjectId}
use Rattle.protocol.specs.declared.refusal.Refusal.TheVariants.{BadRoom}
use Rattle.transport.specs.Ends.{End, Waiting, take_of, taken_or, taking}
use Rattle.transport.specs.Frames.{Filled, roomy}
use Rattle.transport.specs.Layout.{laid, written}
use Rattle.transport.specs.Wire.{Arg, bytes_of, texts}
use Rattle.transport.specs.declared.frame.TakeError.{TakeError}
use Rattle.transport.specs.declared.frame.TakeError.TheVariants.{Malformed, Refused}
use Rattle.std.proofs.Math.Seq.{take-append_seam}
use Rattle.object_map.specs.Map.{lookup}
use Rattle.protocol.specs.Descriptions.{Message}
use Rattle.protocol.specs.Lookups.{event_at}
use Rattle.client.specs.Calls.{from_display, passing, taken, described, sent_by}
use Rattle.client.specs.Coded.{Taking, TakesAs, rooms_in}
use Rattle.client.specs.Events.{pass_all}
use Rattle.client.specs.Requests.{Table}
use Rattle.client.specs.State.{Moment}
use Rattle.client.specs.declared.object.Object.{Object}

-- a short text written at a room's start, whose head is apart
written_head : (ys text : List ℕ) → 1024 ≤ length text → length ys ≤ 1024 → written ys (take 1024 text) ++ drop 1024 text ≡ written ys text
written_head ys text room short =
    let l = length-take 1024 text in
    append_assoc ys (drop (length ys) (take 1024 text)) (drop 1024 text)
    ∙ ap (λ r. ys ++ r) (sym (drop-append-le (length ys) (take 1024 text) (drop 1024 text) (omega (arith, l, room, short))) ∙ ap (drop (length ys)) (take-append-drop 1024 text))

-- a longer text would not leave the room its length
fitting : (ys room t : List ℕ) → length t ≡ length room → t ≡ written ys room → length room ≡ 1024 → length ys ≤ 1024
fitting ys room t same e full = let p = ap length e in let q = length-append ys (drop (length ys) room) in omega (arith, p, q, same, full)

laid_length : (o : ℕ) (xs : List Arg) → length (laid o xs) ≡ length xs
laid_length o [] = refl
laid_length o (x ∷ xs) = ap (λ n. suc n) (laid_length (o + length (bytes_of x)) xs)

went : (signature : List ArgumentType) (e e' : End) (args a : List (Argument ObjectId)) (text t : List ℕ) (r : Result ℕ TakeError) → 1024 ≤ length text → length t ≡ length (take 1024 text) → (v : Option (List Arg × Waiting)) → take_of signature e.waiting ≡ v → ◌≡◌ {A = Filled ℕ TakeError × End} ((r, a, t), e') (taken_or v e args (take 1024 text)) → TakesAs signature e args text (result_ok r) e' a (t ++ drop 1024 text)
went signature e e' args a text t (Ok n) room same None q p = let z : ◌≡◌ {A = Result ℕ TakeError} (Ok n) (Err Malformed) = ap (λ z. z.0.0) p in let y : ◌≡◌ {A = ℕ} 0 1 = cc in absurd (omega arith)
went signature e e' args a text t (Err x) room same None q p = (q, ap (λ z. z.1) p, ap (λ z. z.0.1) p, ap (λ z. z.0.2 ++ drop 1024 text) p ∙ take-append-drop 1024 text)
went signature e e' args a text t (Ok n) room same (Some (xs, w)) q p =
    let l = length-take 1024 text in
    let s = fitting (texts xs) (take 1024 text) t same (ap (λ z. z.0.2) p) (omega (arith, l, room)) in
    record {
      values = xs;
      behind = w;
      first = q;
      short = s;
      count = (let z : ◌≡◌ {A = Result ℕ TakeError} (Ok n) (Ok (length xs)) = ap (λ z. z.0.0) p in cc);
      fit = (let z : ◌≡◌ {A = Result ℕ TakeError} (Ok n) (Ok (length xs)) = ap (λ z. z.0.0) p in let k : n ≡ length xs = cc in let j = ap (λ z. length z.0.1) p in let i = length-append (laid 0 xs) (drop (length (laid 0 xs)) args) in let h = laid_length 0 xs in omega (arith, k, j, i, h));
      end = ap (λ z. z.1) p;
      args_are = ap (λ z. z.0.1) p;
      text_is = ap (λ z. z.0.2 ++ drop 1024 text) p ∙ written_head (texts xs) text room s;
    }
went signature e e' args a text t (Err x) room same (Some (xs, w)) q p = let z : ◌≡◌ {A = Result ℕ TakeError} (Err x) (Ok (length xs)) = ap (λ z. z.0.0) p in let y : ◌≡◌ {A = ℕ} 0 1 = cc in absurd (omega arith)

pub takes : (signature : List ArgumentType) (e e' : End) (args a : List (Argument ObjectId)) (text t : List ℕ) (r : Result ℕ TakeError) → 20 ≤ length args → 1024 ≤ length text → length t ≡ length (take 1024 text) → ◌≡◌ {A = Filled ℕ TakeError × End} ((r, a, t), e') (taking signature e args (take 1024 text)) → TakesAs signature e args text (result_ok r) e' a (t ++ drop 1024 text)
takes signature e e' args a text t r places room same p =
    let l = length-take 1024 text in
    went signature e e' args a text t r room same (take_of signature e.waiting) refl
    (p ∙ cond-true (roomy args (take 1024 text)) _ ((Err (Refused BadRoom), args, take 1024 text), e) (and_from _ _ (le-leb 20 (length args) places) (le-leb 1024 (length (take 1024 text)) (omega (arith, l, room)))))

-- what is taken lies at the room's start
pub taken_args : {signature : List ArgumentType} {e e' : End} {args a : List (Argument ObjectId)} {text t : List ℕ} {n : ℕ} (w : Taking signature e args text n e' a t) → take n a ≡ laid 0 w.values
taken_args {args = args} {a = a} {n = n} w =
    ap (λ z. take n z) w.args_are
    ∙ (ap (λ k. take k (written (laid 0 w.values) args)) (w.count ∙ sym (laid_length 0 w.values))
    ∙ take-append_seam (laid 0 w.values) (drop (length (laid 0 w.values)) args))

pub taken_texts : {signature : List ArgumentType} {e e' : End} {args a : List (Argument ObjectId)} {text t : List ℕ} {n : ℕ} (w : Taking signature e args text n e' a t) → take (length (texts w.values)) t ≡ texts w.values
taken_texts {text = text} w = ap (λ z. take (length (texts w.values)) z) w.text_is ∙ take-append_seam (texts w.values) (drop (length (texts w.values)) text)

-- a frame that is taken is an event of the display or of another object
pub taken_first : (t : Table) (m : Moment) (n sender opcode cnt : ℕ) (o : Object) (d : Message) (e' : End) (args a : List (Argument ObjectId)) (text b ft : List ℕ) → lookup sender m.slots ≡ Some o → event_at t o.interface opcode ≡ Some d → (w : Taking d.signature m.end args text cnt e' a b) → sent_by t m (rooms_in args text ft) n sender opcode (lookup sender m.slots)
    ≡ cond (eqb sender 1) (from_display (record { conn = m.conn; slots = m.slots; end = e' }) (rooms_in a b ft) opcode w.values) (passing (record { conn = m.conn; slots = m.slots; end = e' }) (rooms_in a b ft) n sender opcode o d (pass_all t o d m.slots m.conn.last_serial (take cnt a)))
taken_first t m n sender opcode cnt o d e' args a text b ft lo ev w =
    ap (sent_by t m (rooms_in args text ft) n sender opcode) lo
    ∙ (ap (described t m (rooms_in args text ft) n sender opcode o) ev
    ∙ (ap (taken t m (rooms_in args text ft) n sender opcode o d) w.first
    ∙ λ i. cond (eqb sender 1)
    (from_display (record { conn = m.conn; slots = m.slots; end = sym w.end i }) (rooms_in (sym w.args_are i) (sym w.text_is i) ft) opcode w.values)
    (passing (record { conn = m.conn; slots = m.slots; end = sym w.end i }) (rooms_in (sym w.args_are i) (sym w.text_is i) ft) n sender opcode o d (pass_all t o d m.slots m.conn.last_serial (sym (taken_args w) i)))))
