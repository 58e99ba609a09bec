-- A frame as a value, and what is read out of one.
use Rattle.std.specs.Prelude.{ℕ, Bool, cond, ◌&&◌, List, length, take, Ok, Err, Result, nat_le}
use Rattle.protocol.specs.declared.argument.Argument.{Argument}
use Rattle.protocol.specs.declared.argument.ArgumentType.{ArgumentType}
use Rattle.protocol.specs.declared.id.ObjectId.{ObjectId}
use Rattle.protocol.specs.declared.refusal.Refusal.{Refusal}
use Rattle.protocol.specs.declared.refusal.Refusal.TheVariants.{BadRoom}
use Rattle.transport.specs.Wire.{Arg, Message, message, clipped, texts}
use Rattle.transport.specs.Layout.{args_of, laid, written}
use Rattle.transport.specs.Signatures.{fits}
use Rattle.transport.specs.declared.frame.Frame.{Frame}
use Rattle.transport.specs.declared.frame.TakeError.{TakeError}
use Rattle.transport.specs.declared.frame.TakeError.TheVariants.{Malformed}

-- the message that a frame holds
abbrev pub frame_of : Frame → Message
frame_of f = clipped (message f.sender f.opcode (args_of (take f.count f.args) f.text))

-- rooms that any frame fits into
abbrev pub roomy : List (Argument ObjectId) → List ℕ → Bool
roomy args text = nat_le 20 (length args) && nat_le 1024 (length text)

-- an answer, and what the argument room and the text room hold then
abbrev pub Filled : Type 0 → Type 0 → Type 0
Filled A E = Result A E × List (Argument ObjectId) × List ℕ

-- arguments laid into two rooms from their start, the places behind kept
abbrev pub filled : {E : Type 0} → List Arg → List (Argument ObjectId) → List ℕ → Filled ℕ E
filled xs args text = (Ok (length xs), written (laid 0 xs) args, written (texts xs) text)

-- the arguments of a frame read out; rooms that are too small are refused
abbrev pub reading : List Arg → List (Argument ObjectId) → List ℕ → Filled ℕ Refusal
reading xs args text = cond (roomy args text) (filled xs args text) (Err BadRoom, args, text)

-- the same for arguments that a signature has to fit, once the rooms do
abbrev pub unpacking : List ArgumentType → List Arg → List (Argument ObjectId) → List ℕ → Filled ℕ TakeError
unpacking signature xs args text = cond (fits signature xs) (filled xs args text) (Err Malformed, args, text)
