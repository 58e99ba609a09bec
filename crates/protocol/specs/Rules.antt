-- The rules of an interface table.
use Rattle.std.specs.Prelude.{ℕ, ◌+◌, Bool, true, cond, not, ◌&&◌, ◌||◌, List, length, take, is_some, Some, None, Ok, Err, sum_by, count_by, Option, Result, ◌==◌, nat_le, nat_lt}
use Rattle.std.specs.Borrow.{Bor}
use Rattle.protocol.specs.Arguments.{same_type}
use Rattle.protocol.specs.Core.{core}
use Rattle.protocol.specs.Descriptions.{Message, Description, described}
use Rattle.protocol.specs.Equal.{same_description}
use Rattle.protocol.specs.Pairwise.{all, alike}
use Rattle.protocol.specs.declared.argument.AllowNull.TheVariants.{Yes}
use Rattle.protocol.specs.declared.argument.ArgumentType.TheVariants.{Object, NewId}
use Rattle.protocol.specs.declared.interface.Interface.{Interface}
use Rattle.protocol.specs.declared.refusal.Refusal.{Refusal}
use Rattle.protocol.specs.declared.refusal.Refusal.TheVariants.{BadRoom}
use Rattle.protocol.specs.declared.table.InterfaceTable.{InterfaceTable}

-- how many new objects a message has
abbrev pub new_ids : Message → ℕ
new_ids m = count_by (same_type NewId) m.signature

-- how many object arguments a message has
abbrev pub objects : Message → ℕ
objects m = count_by (same_type (Object Yes)) m.signature

-- a byte other than zero
abbrev pub nonzero : ℕ → Bool
nonzero b = not (b == 0)

-- a name has 1 to 64 bytes, and none of them is zero
abbrev pub name_fits : List ℕ → Bool
name_fits bs = nat_le 1 (length bs) && (nat_le (length bs) 64 && all nonzero bs)

-- a message has at most 20 arguments
abbrev pub few_arguments : Message → Bool
few_arguments m = nat_le (length m.signature) 20

-- a message has at most one new object
abbrev pub one_new_id : Message → Bool
one_new_id m = nat_le (new_ids m) 1

-- where a message has a new object, it names the child's interface
abbrev pub names_child : Message → Bool
names_child m = new_ids m == 0 || is_some m.child

-- a message names one arg interface for each object argument
abbrev pub args_exact : Message → Bool
args_exact m = length m.args == objects m

-- a message names at most one arg interface for each object argument
abbrev pub args_within : Message → Bool
args_within m = nat_le (length m.args) (objects m)

-- one of the first n
abbrev pub is_below : ℕ → ℕ → Bool
is_below n i = nat_lt i n

-- the child's interface, if any is named, is one of the first n
abbrev pub child_inside : ℕ → Option ℕ → Bool
child_inside n None = true
child_inside n (Some i) = is_below n i

-- the child's interface and the arg interfaces are among the first n
abbrev pub inside : ℕ → Message → Bool
inside n m = child_inside n m.child && all (is_below n) m.args

-- a request in a table of n interfaces
abbrev pub request_fits : ℕ → Message → Bool
request_fits n m = few_arguments m && (one_new_id m && (args_exact m && inside n m))

-- an event in a table of n interfaces
abbrev pub event_fits : ℕ → Message → Bool
event_fits n m = few_arguments m && (one_new_id m && (names_child m && (args_within m && inside n m)))

-- an interface in a table of n interfaces
abbrev pub interface_fits : ℕ → Description → Bool
interface_fits n d = name_fits d.name && (all (request_fits n) d.requests && all (event_fits n) d.events)

-- there are 4 to 256 interfaces
abbrev pub sized : List Description → Bool
sized t = nat_le 4 (length t) && nat_le (length t) 256

-- the messages of an interface
abbrev pub message_count : Description → ℕ
message_count d = length d.requests + length d.events

-- there are at most 4,096 messages in all
abbrev pub few_messages : List Description → Bool
few_messages t = nat_le (sum_by message_count t) 4096

-- interfaces 0 to 3 are the core ones
abbrev pub begins_with_core : List Description → Bool
begins_with_core t = alike same_description (take 4 t) core

-- all rules together
abbrev pub well_formed : List Description → Bool
well_formed t = sized t && (few_messages t && (all (interface_fits (length t)) t && begins_with_core t))

-- a list of interfaces becomes a table where all rules hold, and is refused otherwise
abbrev pub checked : Bor (List Interface) → Result InterfaceTable Refusal
checked is = cond (well_formed (described is.now)) (Ok (record { interfaces = is })) (Err BadRoom)
