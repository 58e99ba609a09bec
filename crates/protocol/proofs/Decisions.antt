-- The tests of descriptions decide what they are to say.
use Rattle.std.proofs.Common.{◌≡◌, ℕ, ◌<◌, ◌≤◌, Bool, true, ◌&&◌, ◌||◌, eqb, leb, List, [], ◌∷◌, length, get_or, take, is_some, IfSome, All, Some, None, Decides, sum_by, Option, sym, refl, ap, ◌∙◌, inl, inr, arith}
use Rattle.std.proofs.lemmas.List.Elements.{All-weaker}
use Rattle.std.specs.Cmp.{booleans_Decides}
use Rattle.std.specs.Cmp.Lexicographic.{pointwise_decides}
use Rattle.std.specs.Option.{option_eq}
use Rattle.std.proofs.lemmas.Slice.Eq.{bytes_eq-Decides}
use Rattle.std.proofs.lemmas.Bool.{false≢true, eqb-true, eq-eqb, ne_eqb, leb-true, le-leb, or_left, or_right, cases_eq}
use Rattle.std.proofs.lemmas.Bool.Decides.{Decides-by_and, Decides-and, Decides-like, Decides-eqb, Decides-not, Decides-ltb}
use Rattle.protocol.specs.Core.{core}
use Rattle.protocol.specs.Descriptions.{Message, Description}
use Rattle.protocol.specs.Equal.{exact_number, identical, same_message, same_description}
use Rattle.protocol.specs.Pairwise.{all}
use Rattle.protocol.specs.Rules.{nonzero, is_below, child_inside, name_fits, new_ids, objects, request_fits, event_fits, interface_fits, message_count, well_formed}
use Rattle.protocol.specs.Words.{SoundName, SoundRequest, SoundEvent, Sound}
use Rattle.protocol.specs.declared.argument.AllowNull.TheVariants.{Yes, No}
use Rattle.protocol.specs.declared.argument.ArgumentType.{ArgumentType}
use Rattle.protocol.specs.declared.argument.ArgumentType.TheVariants.{Int, Uint, Fixed, Str, Object, NewId, Array, Fd}

kinds : List ArgumentType
kinds = Int ∷ Uint ∷ Fixed ∷ Str Yes ∷ Str No ∷ Object Yes ∷ Object No ∷ NewId ∷ Array ∷ Fd ∷ []

-- the number of a kind tells the kind
told : (a : ArgumentType) → get_or kinds (exact_number a) Int ≡ a
unfolding kinds
told Int = refl
told Uint = refl
told Fixed = refl
told (Str Yes) = refl
told (Str No) = refl
told (Object Yes) = refl
told (Object No) = refl
told NewId = refl
told Array = refl
told Fd = refl

identical_decides : (a b : ArgumentType) → Decides (identical a b) (a ≡ b)
identical_decides a b =
    (λ e. sym (told a) ∙ (ap (λ (n : ℕ). get_or kinds n Int) (eqb-true (exact_number a) (exact_number b) e) ∙ told b), λ e. eq-eqb (exact_number a) (exact_number b) (ap exact_number e))

child_decides : (a b : Option ℕ) → Decides (option_eq eqb a b) (a ≡ b)
child_decides None None = (λ _. refl, λ _. refl)
child_decides None (Some j) = (λ e. absurd (false≢true e), λ e. ap is_some e)
child_decides (Some i) None = (λ e. absurd (false≢true e), λ e. sym (ap is_some e))
child_decides (Some i) (Some j) = (λ e. ap (λ (n : ℕ). Some n) (eqb-true i j e), λ e. eq-eqb i j (cc))

message_decides : (a b : Message) → Decides (same_message a b) (a ≡ b)
message_decides a b =
    Decides-like _
    (λ h i. record { signature = h.0 i; destructor = h.1.0 i; child = h.1.1.0 i; args = h.1.1.1 i })
    (λ e. (ap (λ (m : Message). m.signature) e, (ap (λ (m : Message). m.destructor) e, (ap (λ (m : Message). m.child) e, ap (λ (m : Message). m.args) e))))
    (Decides-and _ _ (pointwise_decides identical_decides a.signature b.signature) (Decides-and _ _ (booleans_Decides a.destructor b.destructor) (Decides-and _ _ (child_decides a.child b.child) (bytes_eq-Decides a.args b.args))))

pub description_decides : (a b : Description) → Decides (same_description a b) (a ≡ b)
description_decides a b =
    Decides-like _
    (λ h i. record { name = h.0 i; requests = h.1.0 i; events = h.1.1 i })
    (λ e. (ap (λ (d : Description). d.name) e, (ap (λ (d : Description). d.requests) e, ap (λ (d : Description). d.events) e)))
    (Decides-and _ _ (bytes_eq-Decides a.name b.name) (Decides-and _ _ (pointwise_decides message_decides a.requests b.requests) (pointwise_decides message_decides a.events b.events)))

leb_decides : (a b : ℕ) → Decides (leb a b) (a ≤ b)
leb_decides a b = (leb-true a b, le-leb a b)

all_decides : {X : Type 0} (p : X → Bool) (P : X → Type 0) → ((x : X) → Decides (p x) (P x)) → (xs : List X) → Decides (all p xs) (All P xs)
all_decides p P d xs = Decides-by_and p P (all p) d refl (λ _ _. refl) xs

name_decides : (bs : List ℕ) → Decides (name_fits bs) (SoundName bs)
name_decides bs =
    Decides-like _ (λ h. record { some = h.0; short = h.1.0; bytes = h.1.1 }) (λ s. (s.some, (s.short, s.bytes)))
    (Decides-and _ _ (leb_decides 1 (length bs)) (Decides-and _ _ (leb_decides (length bs) 64) (all_decides nonzero (λ b. b ≡ 0 → ⊥) (λ b. Decides-not _ (Decides-eqb b 0)) bs)))

child_in : (n : ℕ) (c : Option ℕ) → Decides (child_inside n c) (IfSome c (λ i. i < n))
child_in n None = (λ _. tt, λ _. refl)
child_in n (Some i) = Decides-ltb i n

child_named : (n : ℕ) (b : Bool) → Decides (eqb n 0 || b) (0 < n → b ≡ true)
child_named n b = (
  λ e k. let ne : (n ≡ 0 → ⊥) = omega arith in let f = ne_eqb n 0 ne in cc,
  λ f. elim (cases_eq n 0) [ inl z ↦ or_left (eqb n 0) b (eq-eqb n 0 z) | inr nz ↦ or_right (eqb n 0) b (f (omega arith)) ],
)

module _ (n : ℕ) (m : Message) where
  abbrev Inside : Type 0
  Inside = IfSome m.child (λ i. i < n) × All (λ i. i < n) m.args

  inside_decides : Decides (child_inside n m.child && all (is_below n) m.args) Inside
  inside_decides = Decides-and _ _ (child_in n m.child) (all_decides (is_below n) (λ i. i < n) (λ i. Decides-ltb i n) m.args)

  request_decides : Decides (request_fits n m) (SoundRequest n m)
  request_decides =
      Decides-like _
      (λ h. record { message = record { few = h.0; one = h.1.0; child = h.1.1.1.0; args = h.1.1.1.1 }; exact = h.1.1.0 })
      (λ s. (s.message.few, (s.message.one, (s.exact, (s.message.child, s.message.args)))))
      (Decides-and _ _ (leb_decides (length m.signature) 20) (Decides-and _ _ (leb_decides (new_ids m) 1) (Decides-and _ _ (Decides-eqb (length m.args) (objects m)) inside_decides)))

  event_decides : Decides (event_fits n m) (SoundEvent n m)
  event_decides =
      Decides-like _
      (λ h. record { message = record { few = h.0; one = h.1.0; child = h.1.1.1.1.0; args = h.1.1.1.1.1 }; within = h.1.1.1.0; names = h.1.1.0 })
      (λ s. (s.message.few, (s.message.one, (s.names, (s.within, (s.message.child, s.message.args))))))
      (Decides-and _ _ (leb_decides (length m.signature) 20) (Decides-and _ _ (leb_decides (new_ids m) 1) (Decides-and _ _ (child_named (new_ids m) (is_some m.child)) (Decides-and _ _ (leb_decides (length m.args) (objects m)) inside_decides))))

abbrev SoundInterface : ℕ → Description → Type 0
SoundInterface n d = SoundName d.name × (All (SoundRequest n) d.requests × All (SoundEvent n) d.events)

interface_decides : (n : ℕ) (d : Description) → Decides (interface_fits n d) (SoundInterface n d)
interface_decides n d =
    Decides-and _ _ (name_decides d.name) (Decides-and _ _ (all_decides (request_fits n) (SoundRequest n) (request_decides n) d.requests) (all_decides (event_fits n) (SoundEvent n) (event_decides n) d.events))

all_three : {X : Type 0} (P Q R : X → Type 0) (xs : List X) → All P xs → All Q xs → All R xs → All (λ x. P x × (Q x × R x)) xs
all_three P Q R xs p q r = λ k d lt. (p k d lt, (q k d lt, r k d lt))

-- a list of descriptions passes the test exactly where it keeps every rule
pub sound_decides : (t : List Description) → Decides (well_formed t) (Sound t)
sound_decides t =
    Decides-like _
    (λ h. record {
      least = h.0.0;
      most = h.0.1;
      messages = h.1.0;
      names = All-weaker (SoundInterface (length t)) (λ d. SoundName d.name) (λ _ s. s.0) t h.1.1.0;
      requests = All-weaker (SoundInterface (length t)) (λ d. All (SoundRequest (length t)) d.requests) (λ _ s. s.1.0) t h.1.1.0;
      events = All-weaker (SoundInterface (length t)) (λ d. All (SoundEvent (length t)) d.events) (λ _ s. s.1.1) t h.1.1.0;
      begins = h.1.1.1;
    })
    (λ s. ((s.least, s.most), (s.messages, (all_three (λ d. SoundName d.name) (λ d. All (SoundRequest (length t)) d.requests) (λ d. All (SoundEvent (length t)) d.events) t s.names s.requests s.events, s.begins))))
    (Decides-and _ _ (Decides-and _ _ (leb_decides 4 (length t)) (leb_decides (length t) 256)) (Decides-and _ _ (leb_decides (sum_by message_count t) 4096) (Decides-and _ _ (all_decides (interface_fits (length t)) (SoundInterface (length t)) (interface_decides (length t)) t) (pointwise_decides description_decides (take 4 t) core))))
