-- The number of each refusal, and its words.
use Rattle.std.specs.Prelude.{ℕ, List, codes}
use Rattle.object_map.specs.declared.refusal.Refusal.{Refusal}
use Rattle.object_map.specs.declared.refusal.Refusal.TheVariants.{Vacant, ClientFull, Rooms, Null, Occupied, Gap, NoSlot}

-- 1, 5 and 12 are the library's numbers for the same refusals of its other calls; 21 to 24 are of insert_at alone
abbrev pub number : Refusal → ℕ
number Vacant = 1
number ClientFull = 5
number Rooms = 12
number Null = 21
number Occupied = 22
number Gap = 23
number NoSlot = 24

-- what is shown of each refusal
abbrev pub text : Refusal → List ℕ
text Vacant = codes "no record has this number"
text ClientFull = codes "the client room is full"
text Rooms = codes "a room is out of range or not of its length at creation"
text Null = codes "the number 0 names no slot"
text Occupied = codes "the number is in use"
text Gap = codes "the number before it has never been used"
text NoSlot = codes "the room has no place for this number"
