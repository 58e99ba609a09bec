-- What is looked up in an interface table.
use Rattle.std.specs.Prelude.{ℕ, Bool, ◌&&◌, ◌||◌, List, length, codes, Option, ◌==◌, nat_lt, slice_index_or}
use Rattle.std.specs.List.{slice_get}
use Rattle.std.specs.Str.{bytes_eq}
use Rattle.protocol.specs.Core.{anonymous}
use Rattle.protocol.specs.Descriptions.{Message, Description, described}
use Rattle.protocol.specs.declared.id.ObjectId.{ObjectId}
use Rattle.protocol.specs.declared.table.InterfaceTable.{InterfaceTable}

-- what a table in the code says
abbrev pub table_of : InterfaceTable → List Description
table_of t = described t.interfaces.now

-- an interface number of the table
abbrev pub in_table : List Description → ℕ → Bool
in_table t n = nat_lt n (length t)

-- an interface by its number; a number outside the table is read as 3, which is the anonymous interface
abbrev pub interface_at : List Description → ℕ → Description
interface_at t n = slice_index_or t n (slice_index_or t 3 anonymous)

-- the name of an interface
abbrev pub name_at : List Description → ℕ → List ℕ
name_at t n = (interface_at t n).name

-- a request by its opcode, if there is one
abbrev pub request_at : List Description → ℕ → ℕ → Option Message
request_at t n o = slice_get (interface_at t n).requests o

-- an event by its opcode, if there is one
abbrev pub event_at : List Description → ℕ → ℕ → Option Message
event_at t n o = slice_get (interface_at t n).events o

-- two interfaces are the same where their names are
abbrev pub same_interface : List Description → ℕ → ℕ → Bool
same_interface t m n = bytes_eq (name_at t m) (name_at t n)

-- an object fits where its interface is expected, and where the anonymous one is
abbrev pub fits_interface : List Description → ℕ → ℕ → Bool
fits_interface t e a = same_interface t e a || bytes_eq (name_at t e) (codes "<anonymous>")

-- two handles are the same where number, serial and interface are
abbrev pub same_object : List Description → ObjectId → ObjectId → Bool
same_object t a b = a.number == b.number && (a.serial == b.serial && same_interface t a.interface b.interface)

-- the null handle
abbrev pub null_id : ObjectId
null_id = record { number = 0; serial = 0; interface = 3 }

-- the display's handle
abbrev pub display_id : ObjectId
display_id = record { number = 1; serial = 0; interface = 0 }
