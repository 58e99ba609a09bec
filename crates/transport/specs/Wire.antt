-- A message as a value: no room, no offset.
use Rattle.std.specs.Prelude.{ℕ, ◌-◌, cond, List, [], ◌∷◌, length, take, ℤ, Some, None, Option, ◌==◌}
use Rattle.std.specs.List.{flat_map}

-- a string is null or bytes
pub data Arg : Type 0 where
  int : ℤ → Arg
  uint : ℕ → Arg
  fixed : ℤ → Arg
  str : Option (List ℕ) → Arg
  object : ℕ → Arg
  new_id : ℕ → Arg
  array : List ℕ → Arg
  fd : ℕ → Arg

-- a message, and a frame as a value
pub record Message : Type 0 where
  pub sender : ℕ
  pub opcode : ℕ
  pub args : List Arg

-- the message of these parts
abbrev pub message : ℕ → ℕ → List Arg → Message
message s o xs = record { sender = s; opcode = o; args = xs }

-- the bytes of a string or an array
abbrev pub bytes_of : Arg → List ℕ
bytes_of (int _) = []
bytes_of (uint _) = []
bytes_of (fixed _) = []
bytes_of (str None) = []
bytes_of (str (Some b)) = b
bytes_of (object _) = []
bytes_of (new_id _) = []
bytes_of (array b) = b
bytes_of (fd _) = []

-- the bytes of all of them, in order
abbrev pub texts : List Arg → List ℕ
texts xs = flat_map bytes_of xs

-- an argument with at most n bytes
abbrev pub cut : ℕ → Arg → Arg
cut n (int x) = int x
cut n (uint x) = uint x
cut n (fixed x) = fixed x
cut n (str None) = str None
cut n (str (Some b)) = str (Some (take n b))
cut n (object x) = object x
cut n (new_id x) = new_id x
cut n (array b) = array (take n b)
cut n (fd x) = fd x

-- arguments with at most n bytes in all, the first ones first
abbrev pub clip : ℕ → List Arg → List Arg
clip n [] = []
clip n (x ∷ xs) = cut n x ∷ clip (n - length (bytes_of x)) xs

-- what a frame can hold: 20 arguments, 1,024 bytes
abbrev pub held : List Arg → List Arg
held xs = clip 1024 (take 20 xs)

-- a message as far as a frame can hold it
abbrev pub clipped : Message → Message
clipped m = message m.sender m.opcode (held m.args)

-- a null new object stands for the child, any other for itself
abbrev pub given : ℕ → Arg → Arg
given child (int x) = int x
given child (uint x) = uint x
given child (fixed x) = fixed x
given child (str t) = str t
given child (object x) = object x
given child (new_id x) = new_id (cond (x == 0) child x)
given child (array b) = array b
given child (fd x) = fd x
