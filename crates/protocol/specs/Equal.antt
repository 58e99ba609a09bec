-- When two descriptions say the same.
use Rattle.std.specs.Prelude.{ℕ, Bool, ◌&&◌, nat_eq, ◌==◌}
use Rattle.std.specs.Bool.{beq}
use Rattle.std.specs.Option.{option_eq}
use Rattle.std.specs.Str.{bytes_eq}
use Rattle.protocol.specs.Descriptions.{Message, Description}
use Rattle.protocol.specs.Pairwise.{alike}
use Rattle.protocol.specs.declared.argument.AllowNull.TheVariants.{Yes, No}
use Rattle.protocol.specs.declared.argument.ArgumentType.{ArgumentType}
use Rattle.protocol.specs.declared.argument.ArgumentType.TheVariants.{Int, Uint, Fixed, Str, Object, NewId, Array, Fd}

-- each kind by a number, with whether null is allowed
abbrev pub exact_number : ArgumentType → ℕ
exact_number Int = 0
exact_number Uint = 1
exact_number Fixed = 2
exact_number (Str Yes) = 3
exact_number (Str No) = 4
exact_number (Object Yes) = 5
exact_number (Object No) = 6
exact_number NewId = 7
exact_number Array = 8
exact_number Fd = 9

-- the same kind, and null allowed in both or in neither
abbrev pub identical : ArgumentType → ArgumentType → Bool
identical a b = exact_number a == exact_number b

-- the same in every part
abbrev pub same_message : Message → Message → Bool
same_message a b =
    alike identical a.signature b.signature && (beq a.destructor b.destructor && (option_eq nat_eq a.child b.child && bytes_eq a.args b.args))

-- the same in every part
abbrev pub same_description : Description → Description → Bool
same_description a b =
    bytes_eq a.name b.name && (alike same_message a.requests b.requests && alike same_message a.events b.events)
