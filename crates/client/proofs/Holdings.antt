-- What rooms that hold the values of a frame tell of them.
use Rattle.std.proofs.Common.{◌≡◌, ℕ, zero, suc, ◌+◌, true, false, eqb, List, [], ◌∷◌, length, take, Some, None, Ok, refl, ap, ap₂, sym, ◌∙◌, length-append}
use Rattle.std.proofs.lemmas.List.Sums.{sum_by-cons}
use Rattle.std.proofs.lemmas.Bool.{cond-true, cond-false}
use Rattle.std.specs.List.{slice_get}
use Rattle.object_map.specs.Map.{Map, lookup}
use Rattle.protocol.specs.declared.argument.Argument.{Argument}
use Rattle.protocol.specs.declared.error.ProtocolReason.TheVariants.{ErrorEvent}
use Rattle.protocol.specs.declared.error.WaylandError.TheVariants.{Protocol}
use Rattle.protocol.specs.declared.id.ObjectId.{ObjectId}
use Rattle.transport.specs.Layout.{placed, laid, written}
use Rattle.transport.specs.Wire.{Arg, int, uint, fixed, str, object, new_id, array, fd, bytes_of, texts}
use Rattle.client.specs.Calls.{number_in, interface_found, error_told, ended, round_of, acknowledged, from_display}
use Rattle.client.specs.Coded.{text_in, text_lens, number_of, number_given, error_given, over_fault, Holding, rooms_in}
use Rattle.client.specs.State.{Conn, Moment, with_fault, Reply, quiet}
use Rattle.client.specs.declared.object.Object.{Object}

placed_number : (o : ℕ) (x : Arg) → number_of (Some (placed o x)) ≡ number_in (Some x)
placed_number o (int x) = refl
placed_number o (uint x) = refl
placed_number o (fixed x) = refl
placed_number o (str None) = refl
placed_number o (str (Some b)) = refl
placed_number o (object n) = refl
placed_number o (new_id n) = refl
placed_number o (array b) = refl
placed_number o (fd x) = refl

placed_text : (o : ℕ) (x : Arg) → text_in (placed o x) ≡ length (bytes_of x)
placed_text o (int x) = refl
placed_text o (uint x) = refl
placed_text o (fixed x) = refl
placed_text o (str None) = refl
placed_text o (str (Some b)) = refl
placed_text o (object n) = refl
placed_text o (new_id n) = refl
placed_text o (array b) = refl
placed_text o (fd x) = refl

pub laid_number : (i o : ℕ) (xs : List Arg) → number_given (laid o xs) i ≡ number_in (slice_get xs i)
laid_number i o [] = refl
laid_number zero o (x ∷ xs) = placed_number o x
laid_number (suc i) o (x ∷ xs) = laid_number i (o + length (bytes_of x)) xs

pub laid_texts : (o : ℕ) (xs : List Arg) → text_lens (laid o xs) ≡ length (texts xs)
laid_texts o [] = refl
laid_texts o (x ∷ xs) = sum_by-cons text_in (placed o x) (laid (o + length (bytes_of x)) xs) ∙ (ap₂ (λ a b. a + b) (placed_text o x) (laid_texts (o + length (bytes_of x)) xs) ∙ sym (length-append (bytes_of x) (texts xs)))

pub laid_error : (m : Map Object) (xs : List Arg) → error_given m (laid 0 xs) ≡ error_told m xs
laid_error m xs = λ i. Protocol (record {
  code = laid_number 1 0 xs i;
  object_id = laid_number 0 0 xs i;
  object_interface = interface_found (lookup (laid_number 0 0 xs i) m);
  reason = ErrorEvent (laid_texts 0 xs i);
})

-- the text of what is held
pub held_lens : (xs : List Arg) (args : List (Argument ObjectId)) (text : List ℕ) → Holding xs args text → text_lens args ≡ length (texts xs)
held_lens xs args text h = ap text_lens h.0 ∙ laid_texts 0 xs

-- an error event of the display
pub display_error : (m : Moment) (opcode : ℕ) (xs : List Arg) (args a : List (Argument ObjectId)) (text b ft ft' : List ℕ) (r : Reply) (k : Conn) (s : Map Object) → Holding xs args text → eqb opcode 0 ≡ true → r ≡ over_fault (error_given m.slots args) → k ≡ ended (with_fault (error_given m.slots args) m.conn) → s ≡ m.slots → ft' ≡ written (take (text_lens args) text) ft → from_display m (rooms_in a b ft) opcode xs ≡ record { answer = Ok r; moment = record { conn = k; slots = s; end = m.end }; rooms = rooms_in a b ft' }
display_error m opcode xs args a text b ft ft' r k s h o rq kq sq fq =
    let g = sym (ap (error_given m.slots) h.0 ∙ laid_error m.slots xs) in
    cond-true (eqb opcode 0) _ _ o
    ∙ λ i. record {
      answer = Ok ((ap over_fault g ∙ sym rq) i);
      moment = record { conn = (ap (λ f. ended (with_fault f m.conn)) g ∙ sym kq) i; slots = sym sq i; end = m.end };
      rooms = rooms_in a b ((ap (λ t. written t ft) (sym h.2 ∙ ap (λ n. take n text) (sym (held_lens xs args text h))) ∙ sym fq) i);
    }

-- a number that the display lets go
pub display_quiet : (m : Moment) (opcode : ℕ) (xs : List Arg) (args a : List (Argument ObjectId)) (text b ft : List ℕ) (s : Map Object) → Holding xs args text → eqb opcode 0 ≡ false → s ≡ acknowledged (number_given args 0) m.slots (lookup (number_given args 0) m.slots) → from_display m (rooms_in a b ft) opcode xs ≡ record { answer = Ok (quiet (round_of m.conn)); moment = record { conn = m.conn; slots = s; end = m.end }; rooms = rooms_in a b ft }
display_quiet m opcode xs args a text b ft s h o sq =
    cond-false (eqb opcode 0) _ _ o
    ∙ ap (λ (z : Map Object). record { answer = Ok (quiet (round_of m.conn)); moment = record { conn = m.conn; slots = z; end = m.end }; rooms = rooms_in a b ft })
    (sym (sq ∙ ap (λ n. acknowledged n m.slots (lookup n m.slots)) (ap (λ w. number_given w 0) h.0 ∙ laid_number 0 0 xs)))
