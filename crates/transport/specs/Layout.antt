-- How arguments and their strings and arrays lie in rooms.
use Rattle.std.specs.Prelude.{ℕ, ◌+◌, ◌-◌, List, [], ◌∷◌, ◌++◌, map, length, take, drop, Some, None}
use Rattle.protocol.specs.declared.argument.Span.{Span}
use Rattle.protocol.specs.declared.argument.Argument.{Argument}
use Rattle.protocol.specs.declared.argument.Argument.TheVariants.{Int, Uint, Fixed, Str, Object, NewId, Array, Fd}
use Rattle.protocol.specs.declared.id.ObjectId.{ObjectId}
use Rattle.transport.specs.Wire.{Arg, int, uint, fixed, str, object, new_id, array, fd, bytes_of, texts, cut}

-- the part of a text that a span names
abbrev pub spanned : List ℕ → Span → List ℕ
spanned text s = take s.len (drop s.start text)

-- an argument as a value; of a handle only the number counts
abbrev pub arg_of : List ℕ → Argument ObjectId → Arg
arg_of text (Int x) = int x
arg_of text (Uint x) = uint x
arg_of text (Fixed x) = fixed x
arg_of text (Str None) = str None
arg_of text (Str (Some s)) = str (Some (spanned text s))
arg_of text (Object id) = object id.number
arg_of text (NewId id) = new_id id.number
arg_of text (Array s) = array (spanned text s)
arg_of text (Fd x) = fd x

-- the same of several
abbrev pub args_of : List (Argument ObjectId) → List ℕ → List Arg
args_of args text = map (arg_of text) args

-- a number that is not looked up yet: serial 0, the anonymous interface
abbrev pub raw : ℕ → ObjectId
raw n = record { number = n; serial = 0; interface = 3 }

-- a value as an argument, its bytes from the place o of a text on
abbrev pub placed : ℕ → Arg → Argument ObjectId
placed o (int x) = Int x
placed o (uint x) = Uint x
placed o (fixed x) = Fixed x
placed o (str None) = Str None
placed o (str (Some b)) = Str (Some (record { start = o; len = length b }))
placed o (object n) = Object (raw n)
placed o (new_id n) = NewId (raw n)
placed o (array b) = Array (record { start = o; len = length b })
placed o (fd x) = Fd x

-- values as arguments, their bytes one after another from o on
abbrev pub laid : ℕ → List Arg → List (Argument ObjectId)
laid o [] = []
laid o (x ∷ xs) = placed o x ∷ laid (o + length (bytes_of x)) xs

-- a room with ys written over it from the place n on
abbrev pub overwritten : {X : Type 0} → ℕ → List X → List X → List X
overwritten n ys room = take n room ++ (ys ++ drop (n + length ys) room)

-- the same from its start
abbrev pub written : {X : Type 0} → List X → List X → List X
written ys room = ys ++ drop (length ys) room

-- values laid into two rooms from their start: how many, and the rooms
abbrev pub lay_into : List Arg → List (Argument ObjectId) → List ℕ → ℕ × List (Argument ObjectId) × List ℕ
lay_into xs args text = (length xs, written (laid 0 xs) args, written (texts xs) text)

-- one value laid behind n bytes of a text room that takes 1,024: the argument, the bytes in use, and the room
abbrev pub lay_one : ℕ → Arg → List ℕ → (Argument ObjectId × ℕ) × List ℕ
lay_one n x text = ((placed n (cut (1024 - n) x), n + length (bytes_of (cut (1024 - n) x))), overwritten n (bytes_of (cut (1024 - n) x)) text)
