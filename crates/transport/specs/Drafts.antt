-- A message to send, over lent rooms.
use Rattle.std.specs.Prelude.{◌≡◌, ℕ, ◌-◌, Bool, true, false, cond, ◌&&◌, List, [], ◌∷◌, map, length, Some, None, Ok, Err, Option, Result, nat_le}
use Rattle.protocol.specs.Pairwise.{all}
use Rattle.protocol.specs.Rules.{nonzero}
use Rattle.protocol.specs.declared.argument.Span.{Span}
use Rattle.protocol.specs.declared.argument.Argument.{Argument}
use Rattle.protocol.specs.declared.argument.Argument.TheVariants.{Int, Uint, Fixed, Str, Object, NewId, Array, Fd}
use Rattle.protocol.specs.declared.id.ObjectId.{ObjectId}
use Rattle.protocol.specs.declared.refusal.Refusal.{Refusal}
use Rattle.protocol.specs.declared.refusal.Refusal.TheVariants.{BadSignature}
use Rattle.transport.specs.Wire.{Message, message, clipped, given}
use Rattle.transport.specs.Layout.{args_of, spanned}
use Rattle.transport.specs.declared.outgoing.Outgoing.{Outgoing}

-- what the caller wrote, and the number that a null new object stands for
pub record Draft : Type 0 where
  pub written : Message
  pub child : ℕ

-- what a message in the code says
abbrev pub draft_of : Outgoing → Draft
draft_of o = record { written = message o.sender o.opcode (args_of o.args.now o.text.now); child = o.child }

-- the same, with another number for a null new object
abbrev pub with_child : ℕ → Draft → Draft
with_child n d = record { written = d.written; child = n }

-- the message with its child put in
abbrev pub spoken : Draft → Message
spoken d = message d.written.sender d.written.opcode (map (given d.child) d.written.args)

-- what is sent: as much as a frame holds
abbrev pub outgoing_of : Outgoing → Message
outgoing_of o = clipped (spoken (draft_of o))

-- nothing is cut off, whatever the child
abbrev pub Whole : Draft → Type 0
Whole d = (n : ℕ) → clipped (spoken (with_child n d)) ≡ spoken (with_child n d)

-- a span that lies in a text and has at most n bytes
abbrev pub inside : ℕ → List ℕ → Span → Bool
inside n text s = nat_le s.start (length text) && (nat_le s.len (length text - s.start) && nat_le s.len n)

-- the bytes that such a span names
abbrev pub part : ℕ → List ℕ → Span → Option (List ℕ)
part n text s = cond (inside n text s) (Some (spanned text s)) None

-- how many of n bytes an argument leaves, if it may be sent: its bytes lie in the text, and a string has no zero
abbrev pub left_after : ℕ → List ℕ → Argument ObjectId → Option ℕ
left_after n text (Int x) = Some n
left_after n text (Uint x) = Some n
left_after n text (Fixed x) = Some n
left_after n text (Str None) = Some n
left_after n text (Str (Some s)) = cond (inside n text s && all nonzero (spanned text s)) (Some (n - s.len)) None
left_after n text (Object id) = Some n
left_after n text (NewId id) = Some n
left_after n text (Array s) = cond (inside n text s) (Some (n - s.len)) None
left_after n text (Fd x) = Some n

-- a test of what is left, if anything may be
abbrev pub when_left : Option ℕ → (ℕ → Bool) → Bool
when_left None p = false
when_left (Some n) p = p n

-- whether the arguments may be sent in n bytes, one after another
abbrev pub sendable : ℕ → List ℕ → List (Argument ObjectId) → Bool
sendable n text [] = true
sendable n text (a ∷ rest) = when_left (left_after n text a) (λ m. sendable m text rest)

-- what is accepted: at most 20 arguments and 1,024 bytes
abbrev pub accepted : List (Argument ObjectId) → List ℕ → Bool
accepted args text = nat_le (length args) 20 && sendable 1024 text args

-- a draft without a child, or a refusal
abbrev pub composing : ℕ → ℕ → List (Argument ObjectId) → List ℕ → Result Draft Refusal
composing s o args text = cond (accepted args text) (Ok (record { written = message s o (args_of args text); child = 0 })) (Err BadSignature)

-- the draft that was made, if one was
abbrev pub composed : Result Outgoing Refusal → Result Draft Refusal
composed (Ok o) = Ok (draft_of o)
composed (Err e) = Err e
