-- The kinds of argument.
use Rattle.std.specs.Prelude.{ℕ, Bool, List, ◌==◌}
use Rattle.protocol.specs.Pairwise.{alike}
use Rattle.protocol.specs.declared.argument.AllowNull.TheVariants.{Yes}
use Rattle.protocol.specs.declared.argument.ArgumentType.{ArgumentType}
use Rattle.protocol.specs.declared.argument.ArgumentType.TheVariants.{Int, Uint, Fixed, Str, Object, NewId, Array, Fd}
use Rattle.protocol.specs.declared.argument.Argument.{Argument}
use Rattle.protocol.specs.declared.argument.Argument.TheVariants.{Int as IntArg, Uint as UintArg, Fixed as FixedArg, Str as StrArg, Object as ObjectArg, NewId as NewIdArg, Array as ArrayArg, Fd as FdArg}

-- each kind by a number, whether null is allowed or not
abbrev pub kind_number : ArgumentType → ℕ
kind_number Int = 0
kind_number Uint = 1
kind_number Fixed = 2
kind_number (Str n) = 3
kind_number (Object n) = 4
kind_number NewId = 5
kind_number Array = 6
kind_number Fd = 7

-- whether two kinds are the same; whether null is allowed does not count
abbrev pub same_type : ArgumentType → ArgumentType → Bool
same_type a b = kind_number a == kind_number b

-- the kind of an argument; a string or an object counts as one that may be null
abbrev pub type_of : {Id : Type 0} → Argument Id → ArgumentType
type_of (IntArg x) = Int
type_of (UintArg x) = Uint
type_of (FixedArg x) = Fixed
type_of (StrArg x) = Str Yes
type_of (ObjectArg x) = Object Yes
type_of (NewIdArg x) = NewId
type_of (ArrayArg x) = Array
type_of (FdArg x) = Fd

-- the arguments are as many as the signature says and of its kinds
abbrev pub agrees : {Id : Type 0} → List ArgumentType → List (Argument Id) → Bool
agrees signature args = alike (λ t a. same_type (type_of a) t) signature args
