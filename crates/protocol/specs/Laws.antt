-- What holds of tables and handles, whatever they are.
use Rattle.std.specs.Prelude.{◌≡◌, ℕ, ◌<◌, true, false, ◌⊎◌, List, length, take, Some, None, Err, Contains, sum_by, Result, MatchResult, ◌≢◌}
use Rattle.std.specs.Borrow.{Bor}
use Rattle.protocol.specs.Core.{display, registry, callback, anonymous, core}
use Rattle.protocol.specs.Descriptions.{Message, Description, described}
use Rattle.protocol.specs.Lookups.{table_of, in_table, interface_at, same_object}
use Rattle.protocol.specs.Rules.{new_ids, objects, message_count, well_formed, checked}
use Rattle.protocol.specs.Words.{Sound}
use Rattle.protocol.specs.declared.id.ObjectId.{ObjectId}
use Rattle.protocol.specs.declared.interface.Interface.{Interface}
use Rattle.protocol.specs.declared.refusal.Refusal.{Refusal}
use Rattle.protocol.specs.declared.refusal.Refusal.TheVariants.{BadRoom}
use Rattle.protocol.specs.declared.table.InterfaceTable.{InterfaceTable}

-- an accepted table keeps every rule, and a refused list breaks one
abbrev pub Told : List Interface → Result InterfaceTable Refusal → Type 0
Told is r = MatchResult r (λ t. Sound (table_of t)) (λ e. Sound (described is) → ⊥)

-- a list of interfaces that says this is refused
abbrev pub Refused : List Description → Type 0
Refused t = (is : Bor (List Interface)) → described is.now ≡ t → checked is ≡ Err BadRoom

-- a request of one of the interfaces
abbrev pub RequestOf : List Description → Message → Type 0
RequestOf t m = (d : Description) × (Contains t d × Contains d.requests m)

-- an event of one of the interfaces
abbrev pub EventOf : List Description → Message → Type 0
EventOf t m = (d : Description) × (Contains t d × Contains d.events m)

-- the core alone is a table
abbrev pub CoreAccepted : Type 0
CoreAccepted = well_formed core ≡ true

-- fewer than 4 interfaces are refused
abbrev pub FewRefused : Type 0
FewRefused = (t : List Description) → length t < 4 → Refused t

-- more than 256 interfaces are refused
abbrev pub ManyRefused : Type 0
ManyRefused = (t : List Description) → 256 < length t → Refused t

-- more than 4,096 messages are refused
abbrev pub MessagesRefused : Type 0
MessagesRefused = (t : List Description) → 4096 < sum_by message_count t → Refused t

-- an interface without a name is refused
abbrev pub EmptyNameRefused : Type 0
EmptyNameRefused = (t : List Description) (d : Description) → Contains t d → length d.name ≡ 0 → Refused t

-- a name of more than 64 bytes is refused
abbrev pub LongNameRefused : Type 0
LongNameRefused = (t : List Description) (d : Description) → Contains t d → 64 < length d.name → Refused t

-- a name with a zero byte is refused
abbrev pub ZeroNameRefused : Type 0
ZeroNameRefused = (t : List Description) (d : Description) → Contains t d → Contains d.name 0 → Refused t

-- a message of more than 20 arguments is refused
abbrev pub ArgumentsRefused : Type 0
ArgumentsRefused = (t : List Description) (m : Message) → RequestOf t m ⊎ EventOf t m → 20 < length m.signature → Refused t

-- a message with two new objects is refused
abbrev pub NewIdsRefused : Type 0
NewIdsRefused = (t : List Description) (m : Message) → RequestOf t m ⊎ EventOf t m → 1 < new_ids m → Refused t

-- an event with a new object that names no child interface is refused
abbrev pub NoChildRefused : Type 0
NoChildRefused = (t : List Description) (m : Message) → EventOf t m → 0 < new_ids m → m.child ≡ None → Refused t

-- a request with another number of arg interfaces than of object arguments is refused
abbrev pub RequestArgsRefused : Type 0
RequestArgsRefused = (t : List Description) (m : Message) → RequestOf t m → (length m.args ≢ objects m) → Refused t

-- an event with more arg interfaces than object arguments is refused
abbrev pub EventArgsRefused : Type 0
EventArgsRefused = (t : List Description) (m : Message) → EventOf t m → objects m < length m.args → Refused t

-- a child interface outside the table is refused
abbrev pub ChildOutsideRefused : Type 0
ChildOutsideRefused = (t : List Description) (m : Message) (i : ℕ) → RequestOf t m ⊎ EventOf t m → m.child ≡ Some i → (i < length t → ⊥) → Refused t

-- an arg interface outside the table is refused
abbrev pub ArgOutsideRefused : Type 0
ArgOutsideRefused = (t : List Description) (m : Message) (i : ℕ) → RequestOf t m ⊎ EventOf t m → Contains m.args i → (i < length t → ⊥) → Refused t

-- other interfaces than the core ones in places 0 to 3 are refused
abbrev pub CoreRefused : Type 0
CoreRefused = (t : List Description) → (take 4 t ≢ core) → Refused t

-- in a table that keeps every rule, 0 to 3 are the core interfaces
abbrev pub CoreFound : Type 0
CoreFound = (t : List Description) → Sound t → (interface_at t 0 ≡ display) × (interface_at t 1 ≡ registry) × (interface_at t 2 ≡ callback) × (interface_at t 3 ≡ anonymous)

-- and a number outside it is read as the anonymous one
abbrev pub OutsideAnonymous : Type 0
OutsideAnonymous = (t : List Description) (n : ℕ) → Sound t → in_table t n ≡ false → interface_at t n ≡ anonymous

-- a handle is the same as itself
abbrev pub SameReflexive : Type 0
SameReflexive = (t : List Description) (a : ObjectId) → same_object t a a ≡ true

-- where a is the same as b, b is the same as a
abbrev pub SameSymmetric : Type 0
SameSymmetric = (t : List Description) (a b : ObjectId) → same_object t a b ≡ true → same_object t b a ≡ true

-- where a is the same as b and b the same as c, a is the same as c
abbrev pub SameTransitive : Type 0
SameTransitive = (t : List Description) (a b c : ObjectId) → same_object t a b ≡ true → same_object t b c ≡ true → same_object t a c ≡ true
