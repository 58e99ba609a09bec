-- A list of interfaces that breaks a rule is refused.
use Rattle.std.proofs.Common.{◌≡◌, ℕ, ◌<◌, false, ◌⊎◌, List, length, is_some, IfSome, All, Contains, Option, sym, refl, ap, ◌∙◌, subst, inl, inr, arith}
use Rattle.std.proofs.lemmas.List.Elements.{All-contains}
use Rattle.std.proofs.lemmas.Bool.{cases_Bool, cond-false, false≢true}
use Rattle.protocol.specs.Descriptions.{Message, Description, described}
use Rattle.protocol.specs.Laws.{Refused, RequestOf, EventOf, CoreAccepted, FewRefused, ManyRefused, MessagesRefused, EmptyNameRefused, LongNameRefused, ZeroNameRefused, ArgumentsRefused, NewIdsRefused, NoChildRefused, RequestArgsRefused, EventArgsRefused, ChildOutsideRefused, ArgOutsideRefused, CoreRefused}
use Rattle.protocol.specs.Rules.{well_formed}
use Rattle.protocol.specs.Words.{SoundName, SoundMessage, SoundRequest, SoundEvent, Sound}
use Rattle.protocol.proofs.Decisions.{sound_decides}

pub core_accepted : CoreAccepted
core_accepted = refl

fails : (t : List Description) → (Sound t → ⊥) → well_formed t ≡ false
fails t h = elim (cases_Bool (well_formed t)) [ inl y ↦ absurd (h ((sound_decides t).0 y)) | inr n ↦ n ]

refuse : (t : List Description) → (Sound t → ⊥) → Refused t
refuse t h is e = cond-false (well_formed (described is.now)) _ _ (ap well_formed e ∙ fails t h)

named : (t : List Description) (d : Description) → Sound t → Contains t d → SoundName d.name
named t d s h = All-contains (λ x. SoundName x.name) t d s.names h

request_sound : (t : List Description) (m : Message) → Sound t → RequestOf t m → SoundRequest (length t) m
request_sound t m s r = All-contains (SoundRequest (length t)) r.0.requests m (All-contains (λ d. All (SoundRequest (length t)) d.requests) t r.0 s.requests r.1.0) r.1.1

event_sound : (t : List Description) (m : Message) → Sound t → EventOf t m → SoundEvent (length t) m
event_sound t m s r = All-contains (SoundEvent (length t)) r.0.events m (All-contains (λ d. All (SoundEvent (length t)) d.events) t r.0 s.events r.1.0) r.1.1

message_sound : (t : List Description) (m : Message) → Sound t → RequestOf t m ⊎ EventOf t m → SoundMessage (length t) m
message_sound t m s (inl r) = (request_sound t m s r).message
message_sound t m s (inr e) = (event_sound t m s e).message

pub few_refused : FewRefused
few_refused t h = refuse t (λ s. omega (arith, s.least))

pub many_refused : ManyRefused
many_refused t h = refuse t (λ s. omega (arith, s.most))

pub messages_refused : MessagesRefused
messages_refused t h = refuse t (λ s. omega (arith, s.messages))

pub empty_name_refused : EmptyNameRefused
empty_name_refused t d at h = refuse t (λ s. omega (arith, (named t d s at).some))

pub long_name_refused : LongNameRefused
long_name_refused t d at h = refuse t (λ s. omega (arith, (named t d s at).short))

pub zero_name_refused : ZeroNameRefused
zero_name_refused t d at h = refuse t (λ s. All-contains (λ b. b ≡ 0 → ⊥) d.name 0 (named t d s at).bytes h refl)

pub arguments_refused : ArgumentsRefused
arguments_refused t m at h = refuse t (λ s. omega (arith, (message_sound t m s at).few))

pub new_ids_refused : NewIdsRefused
new_ids_refused t m at h = refuse t (λ s. omega (arith, (message_sound t m s at).one))

pub no_child_refused : NoChildRefused
no_child_refused t m at h e = refuse t (λ s. false≢true (sym (ap is_some e) ∙ (event_sound t m s at).names h))

pub request_args_refused : RequestArgsRefused
request_args_refused t m at h = refuse t (λ s. h (request_sound t m s at).exact)

pub event_args_refused : EventArgsRefused
event_args_refused t m at h = refuse t (λ s. omega (arith, (event_sound t m s at).within))

pub child_outside_refused : ChildOutsideRefused
child_outside_refused t m i at e h = refuse t (λ s. h (subst (λ (c : Option ℕ). IfSome c (λ j. j < length t)) e (message_sound t m s at).child))

pub arg_outside_refused : ArgOutsideRefused
arg_outside_refused t m i at a h = refuse t (λ s. h (All-contains (λ j. j < length t) m.args i (message_sound t m s at).args a))

pub core_refused : CoreRefused
core_refused t h = refuse t (λ s. h s.begins)
