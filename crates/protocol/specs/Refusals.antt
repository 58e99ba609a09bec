-- The refusals: their numbers and their words.
use Rattle.std.specs.Prelude.{ℕ, List, codes}
use Rattle.protocol.specs.declared.refusal.Refusal.{Refusal}
use Rattle.protocol.specs.declared.refusal.Refusal.TheVariants.{InvalidId, UnknownOpcode, BadSignature, BadChild, ClientRoomFull, BadData, NewIdNotNull, BadObject, DisplayProtected, BadToken, CannotPrepare, BadRoom}

-- the number of each refusal
abbrev pub refusal_number : Refusal → ℕ
refusal_number InvalidId = 1
refusal_number UnknownOpcode = 2
refusal_number BadSignature = 3
refusal_number BadChild = 4
refusal_number ClientRoomFull = 5
refusal_number BadData = 6
refusal_number NewIdNotNull = 7
refusal_number BadObject = 8
refusal_number DisplayProtected = 9
refusal_number BadToken = 10
refusal_number CannotPrepare = 11
refusal_number BadRoom = 12

-- what is shown of each refusal
abbrev pub refusal_text : Refusal → List ℕ
refusal_text InvalidId = codes "invalid object handle"
refusal_text UnknownOpcode = codes "unknown opcode"
refusal_text BadSignature = codes "arguments do not match the signature"
refusal_text BadChild = codes "wrong interface or version for the new object"
refusal_text ClientRoomFull = codes "no slot left for a new object"
refusal_text BadData = codes "wrong data number"
refusal_text NewIdNotNull = codes "the new object must be given as null"
refusal_text BadObject = codes "an object argument does not fit"
refusal_text DisplayProtected = codes "not allowed on the display"
refusal_text BadToken = codes "token of another connection or phase"
refusal_text CannotPrepare = codes "no read can be prepared now"
refusal_text BadRoom = codes "bad interface table or room size"
