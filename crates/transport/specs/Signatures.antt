-- Which arguments a signature takes.
use Rattle.std.specs.Prelude.{ℕ, Bool, ◌||◌, List, [], Some, None, ◌==◌}
use Rattle.protocol.specs.Pairwise.{alike}
use Rattle.protocol.specs.declared.argument.Argument.{Argument}
use Rattle.protocol.specs.declared.id.ObjectId.{ObjectId}
use Rattle.transport.specs.Layout.{arg_of}
use Rattle.protocol.specs.declared.argument.AllowNull.TheVariants.{Yes, No}
use Rattle.protocol.specs.declared.argument.ArgumentType.{ArgumentType}
use Rattle.protocol.specs.declared.argument.ArgumentType.TheVariants.{Int, Uint, Fixed, Str, Object, NewId, Array, Fd}
use Rattle.transport.specs.Wire.{Arg, int, uint, fixed, str, object, new_id, array, fd}

-- each kind of value by a number; a null string is a kind of its own
abbrev pub kind_of : Arg → ℕ
kind_of (int _) = 0
kind_of (uint _) = 1
kind_of (fixed _) = 2
kind_of (str (Some _)) = 3
kind_of (object _) = 4
kind_of (new_id _) = 5
kind_of (array _) = 6
kind_of (fd _) = 7
kind_of (str None) = 8

-- the kinds that a place takes: a null string only where null is allowed, an object always
abbrev pub takes : ArgumentType → ℕ → Bool
takes Int k = k == 0
takes Uint k = k == 1
takes Fixed k = k == 2
takes (Str Yes) k = k == 3 || k == 8
takes (Str No) k = k == 3
takes (Object _) k = k == 4
takes NewId k = k == 5
takes Array k = k == 6
takes Fd k = k == 7

-- as many arguments as the signature says, each of a kind that its place takes
abbrev pub fits : List ArgumentType → List Arg → Bool
fits signature xs = alike (λ t x. takes t (kind_of x)) signature xs

-- the same of arguments as they lie: what their text says does not count
abbrev pub fits_raw : List ArgumentType → List (Argument ObjectId) → Bool
fits_raw signature args = alike (λ t a. takes t (kind_of (arg_of [] a))) signature args
