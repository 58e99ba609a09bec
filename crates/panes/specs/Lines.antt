-- What a line of text asks for.
use Rattle.std.specs.Prelude.{ℕ, ◌+◌, ◌-◌, ◌*◌, ◌^◌, Bool, cond, ◌&&◌, List, [], ◌∷◌, Some, None, codes, fold, Option, ◌==◌, nat_le, nat_lt}
use Rattle.std.specs.Option.{option_map}
use Rattle.std.specs.List.{before_first, after_first}
use Rattle.std.specs.Str.{bytes_eq}
use Rattle.panes.specs.declared.pane.Pane.{Pane}
use Rattle.panes.specs.declared.command.Command.{Command}
use Rattle.panes.specs.declared.command.Command.TheVariants.{Open, Show, Resize, Close, List as ListAll}

-- a space
abbrev pub is_space : ℕ → Bool
is_space b = b == 32

-- the bytes before the first space
abbrev pub word : List ℕ → List ℕ
word line = before_first is_space line

-- the bytes behind it
abbrev pub rest : List ℕ → List ℕ
rest line = after_first is_space line

-- a number of 64 bits
abbrev pub fitting : ℕ → Option ℕ
fitting n = cond (nat_lt n (2 ^ 64)) (Some n) None

-- a decimal number with one more digit; none where the byte is no digit or the number does not fit
abbrev pub pushed : Option ℕ → ℕ → Option ℕ
pushed None b = None
pushed (Some n) b = cond (nat_le 48 b && nat_le b 57) (fitting (n * 10 + (b - 48))) None

-- the number that a text writes in decimal
abbrev pub number_of : List ℕ → Option ℕ
number_of [] = None
number_of (b ∷ bs) = fold pushed (Some 0) (b ∷ bs)

-- an object's number has 32 bits
abbrev pub object_of : Option ℕ → Option ℕ
object_of None = None
object_of (Some n) = cond (nat_le n 0xFFFF_FFFF) (Some n) None

-- a pane has a width and a height
abbrev pub pane_of : Option ℕ → Option ℕ → Option Pane
pane_of None h = None
pane_of (Some w) None = None
pane_of (Some w) (Some h) = Some (record { width = w; height = h })

-- a resize needs a number and a size
abbrev pub resizing : Option ℕ → Option Pane → Option Command
resizing None p = None
resizing (Some n) None = None
resizing (Some n) (Some p) = Some (Resize n p)

-- the command that a first word and the rest of the line make
abbrev pub asked : List ℕ → List ℕ → Option Command
asked first line =
    cond (bytes_eq first (codes "open")) (option_map Open (pane_of (number_of (word line)) (number_of (rest line))))
    (cond (bytes_eq first (codes "show")) (option_map Show (object_of (number_of line)))
    (cond (bytes_eq first (codes "resize")) (resizing (object_of (number_of (word line))) (pane_of (number_of (word (rest line))) (number_of (rest (rest line)))))
    (cond (bytes_eq first (codes "close")) (option_map Close (object_of (number_of line))) None)))

-- the command of a line, if it is one
abbrev pub command_of : List ℕ → Option Command
command_of line = cond (bytes_eq line (codes "list")) (Some ListAll) (asked (word line) (rest line))
