-- Requests: what is checked of one, in which order, and what is sent.
use Rattle.std.specs.Prelude.{ℕ, Bool, true, false, cond, not, ◌&&◌, List, [], ◌∷◌, map, Some, None, Ok, Err, Option, Result, ◌==◌, nat_lt}
use Rattle.object_map.specs.Map.{Map, next_number, insert_new}
use Rattle.object_map.specs.Store.{insert_free}
use Rattle.protocol.specs.Arguments.{agrees}
use Rattle.protocol.specs.Descriptions.{Message, Description}
use Rattle.protocol.specs.Lookups.{in_table, request_at, same_interface, fits_interface}
use Rattle.protocol.specs.Pairwise.{all}
use Rattle.protocol.specs.Rules.{new_ids}
use Rattle.protocol.specs.declared.argument.AllowNull.TheVariants.{Yes, No}
use Rattle.protocol.specs.declared.argument.Argument.{Argument}
use Rattle.protocol.specs.declared.argument.Argument.TheVariants.{Int, Uint, Fixed, Str, Object as ObjectArg, NewId, Array, Fd}
use Rattle.protocol.specs.declared.argument.ArgumentType.{ArgumentType}
use Rattle.protocol.specs.declared.argument.ArgumentType.TheVariants.{Int as IntKind, Uint as UintKind, Fixed as FixedKind, Str as StrKind, Object as ObjectKind, NewId as NewIdKind, Array as ArrayKind, Fd as FdKind}
use Rattle.protocol.specs.declared.id.ObjectId.{ObjectId}
use Rattle.protocol.specs.declared.refusal.Refusal.{Refusal}
use Rattle.protocol.specs.declared.refusal.Refusal.TheVariants.{InvalidId, UnknownOpcode, BadSignature, BadChild, ClientRoomFull, BadData, NewIdNotNull, BadObject}
use Rattle.transport.specs.Drafts.{accepted}
use Rattle.transport.specs.Layout.{args_of}
use Rattle.transport.specs.Wire.{given, message}
use Rattle.transport.specs.Wire as wire
use Rattle.client.specs.State.{Look, resolved, seen_in}
use Rattle.client.specs.declared.object.ChildSpec.{ChildSpec}
use Rattle.client.specs.declared.object.Object.{Object}

-- the descriptions of the interfaces
abbrev pub Table : Type 0
Table = List Description

-- a request as its caller gives it; its strings and arrays lie in the text
pub record Request : Type 0 where
  pub sender : ObjectId
  pub opcode : ℕ
  pub args : List (Argument ObjectId)
  pub text : List ℕ
  pub content : ℕ
  pub child : Option ChildSpec

-- what comes next, unless something was refused
abbrev pub and_then : {A B : Type 0} → Result A Refusal → (A → Result B Refusal) → Result B Refusal
and_then (Ok x) f = f x
and_then (Err e) f = Err e

-- a value that is there, or this refusal
abbrev pub or_refuse : {A : Type 0} → Refusal → Option A → Result A Refusal
or_refuse e None = Err e
or_refuse e (Some x) = Ok x

-- what holds, or this refusal
abbrev pub holds_or : Refusal → Bool → Result (Unit {0}) Refusal
holds_or e b = cond b (Ok tt) (Err e)

-- the handle that an argument gives as an object, and the one that it gives as a new object
abbrev pub object_in : Argument ObjectId → Option ObjectId
object_in (Int x) = None
object_in (Uint x) = None
object_in (Fixed x) = None
object_in (Str x) = None
object_in (ObjectArg h) = Some h
object_in (NewId h) = None
object_in (Array x) = None
object_in (Fd x) = None

abbrev pub new_in : Argument ObjectId → Option ObjectId
new_in (Int x) = None
new_in (Uint x) = None
new_in (Fixed x) = None
new_in (Str x) = None
new_in (ObjectArg h) = None
new_in (NewId h) = Some h
new_in (Array x) = None
new_in (Fd x) = None

-- whether null may stand at a place for an object
abbrev pub nullable : ArgumentType → Bool
nullable IntKind = false
nullable UintKind = false
nullable FixedKind = false
nullable (StrKind n) = false
nullable (ObjectKind Yes) = true
nullable (ObjectKind No) = false
nullable NewIdKind = false
nullable ArrayKind = false
nullable FdKind = false

-- a message creates an object where it has a new one among its arguments
abbrev pub creates : Message → Bool
creates d = nat_lt 0 (new_ids d)

-- a handle that is null, or there is none
abbrev pub is_null : Option ObjectId → Bool
is_null None = true
is_null (Some h) = h.number == 0

-- what is to be created is given as null
abbrev pub placeholders : List (Argument ObjectId) → Bool
placeholders args = all (λ a. is_null (new_in a)) args

-- what a child is to be: as described, of its sender's version, and a spec has to agree; where the description leaves
-- it open the spec alone says it. The interface of a spec lies in the table
abbrev pub child_for : Table → Option ℕ → ℕ → Option ChildSpec → Option ChildSpec
child_for t None v None = None
child_for t (Some i) v None = Some (record { interface = i; version = v })
child_for t None v (Some c) = cond (in_table t c.interface) (Some c) None
child_for t (Some i) v (Some c) = cond (in_table t c.interface && (same_interface t i c.interface && c.version == v)) (Some c) None

-- a child that a request makes
abbrev pub child_of : ChildSpec → ℕ → ℕ → Object
child_of c content serial = record { interface = c.interface; version = c.version; «data» = content; serial = serial; client_destroyed = false; server_destroyed = false }

-- a child with the number that it will have
abbrev pub Child : Type 0
Child = ℕ × Object

-- the number that the next child gets, if the client's slots have a place for it
abbrev pub free_number : Map Object → Option ℕ
free_number s = next_number s

-- the slots with the child placed, and what they show, the child counting as placed
abbrev pub placing : Option Child → Map Object → Map Object
placing None s = s
placing (Some c) s = (insert_new s (insert_free c.1 s.client)).1

abbrev pub counting : Option Child → Look → Look
counting None look n = look n
counting (Some c) look n = cond (c.0 == n) (Some c.1) (look n)

-- the sender's object and the message: the sender resolves, it has the opcode, it is not client_destroyed, and the
-- arguments have the signature's kinds and may be sent
abbrev pub described_as : Request → Object → Option Message → Result (Object × Message) Refusal
described_as r o None = Err UnknownOpcode
described_as r o (Some d) =
    cond o.client_destroyed (Err InvalidId)
    (cond (agrees d.signature r.args && accepted r.args r.text) (Ok (o, d)) (Err BadSignature))

abbrev pub sender_stands : Table → Request → Option Object → Result (Object × Message) Refusal
sender_stands t r None = Err InvalidId
sender_stands t r (Some o) = described_as r o (request_at t o.interface r.opcode)

-- the child of a message that creates one: its spec, a slot, a data number, a placeholder
abbrev pub child_stands : Table → Option ℕ → ℕ → Request → Object × Message → Result (Option Child) Refusal
child_stands t free serial r p =
    cond (creates p.1)
    (and_then (or_refuse BadChild (child_for t p.1.child p.0.version r.child))
    (λ c. and_then (or_refuse ClientRoomFull free)
    (λ n. and_then (holds_or BadData (not (r.content == 0)))
    (λ _. and_then (holds_or NewIdNotNull (placeholders r.args))
    (λ _. Ok (Some (n, child_of c r.content serial)))))))
    (Ok None)

-- an object argument resolves, is not client_destroyed, and fits what is wanted, if anything is
abbrev pub suits : Table → Option ℕ → ℕ → Bool
suits t None i = true
suits t (Some want) i = fits_interface t want i

abbrev pub usable : Table → Option ℕ → Option Object → Result (Unit {0}) Refusal
usable t want None = Err InvalidId
usable t want (Some o) = cond o.client_destroyed (Err InvalidId) (holds_or BadObject (suits t want o.interface))

-- the first of the arg interfaces, and those behind it
abbrev pub first : List ℕ → Option ℕ
first [] = None
first (i ∷ is) = Some i

abbrev pub rest : List ℕ → List ℕ
rest [] = []
rest (i ∷ is) = is

-- null stands where it may, and consumes its arg interface as every object does
abbrev pub object_stands : Table → Look → List ℕ → ArgumentType → Option ObjectId → Result (List ℕ) Refusal
object_stands t look wants k None = Ok wants
object_stands t look wants k (Some h) =
    and_then (cond (h.number == 0) (holds_or BadObject (nullable k)) (usable t (first wants) (resolved look h)))
    (λ _. Ok (rest wants))

-- the object arguments in order
abbrev pub objects_stand : Table → Look → List ℕ → List ArgumentType → List (Argument ObjectId) → Result (Unit {0}) Refusal
objects_stand t look wants ks [] = Ok tt
objects_stand t look wants [] (a ∷ args) = Ok tt
objects_stand t look wants (k ∷ ks) (a ∷ args) = and_then (object_stands t look wants k (object_in a)) (λ more. objects_stand t look more ks args)

-- an accepted request: its sender's object, its description and its child
pub record Sending : Type 0 where
  pub by : Object
  pub desc : Message
  pub child : Option Child

-- all checks in their order
abbrev pub checked : Table → Map Object → ℕ → Request → Result Sending Refusal
checked t s serial r =
    and_then (sender_stands t r (resolved (seen_in s) r.sender))
    (λ p. and_then (child_stands t (free_number s) serial r p)
    (λ c. and_then (objects_stand t (counting c (seen_in s)) p.1.args p.1.signature r.args)
    (λ _. Ok (record { by = p.0; desc = p.1; child = c }))))

-- the frame of a request: as asked, with the child's number where it is created
abbrev pub frame_for : Request → ℕ → wire.Message
frame_for r child = message r.sender.number r.opcode (map (given child) (args_of r.args r.text))
