-- What is shown of a take that failed.
use Rattle.std.specs.Prelude.{ℕ, List, ◌++◌, codes}
use Rattle.protocol.specs.Refusals.{refusal_text}
use Rattle.transport.specs.declared.frame.TakeError.{TakeError}
use Rattle.transport.specs.declared.frame.TakeError.TheVariants.{Malformed, Refused}

abbrev pub take_text : TakeError → List ℕ
take_text Malformed = codes "malformed frame"
take_text (Refused r) = codes "refused: " ++ refusal_text r
