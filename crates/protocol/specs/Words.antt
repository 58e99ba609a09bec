-- What the rules of an interface table come to, in words.
use Rattle.std.specs.Prelude.{◌≡◌, ℕ, ◌<◌, ◌≤◌, true, List, length, take, is_some, IfSome, All, sum_by, ◌≢◌}
use Rattle.protocol.specs.Core.{core}
use Rattle.protocol.specs.Descriptions.{Message, Description}
use Rattle.protocol.specs.Rules.{new_ids, objects, message_count}

-- a name has 1 to 64 bytes, and none of them is zero
pub record SoundName (bs : List ℕ) : Type 0 where
  pub some : 1 ≤ length bs
  pub short : length bs ≤ 64
  pub bytes : All (λ b. b ≢ 0) bs

-- what requests and events have in common, in a table of n interfaces
pub record SoundMessage (n : ℕ) (m : Message) : Type 0 where
  pub few : length m.signature ≤ 20
  pub one : new_ids m ≤ 1
  pub child : IfSome m.child (λ i. i < n)
  pub args : All (λ i. i < n) m.args

-- a request also names one arg interface for each object argument
pub record SoundRequest (n : ℕ) (m : Message) : Type 0 where
  pub message : SoundMessage n m
  pub exact : length m.args ≡ objects m

-- an event names at most that many, and the child's interface where it has a new object
pub record SoundEvent (n : ℕ) (m : Message) : Type 0 where
  pub message : SoundMessage n m
  pub within : length m.args ≤ objects m
  pub names : 0 < new_ids m → is_some m.child ≡ true

-- a table that keeps every rule
pub record Sound (t : List Description) : Type 0 where
  pub least : 4 ≤ length t
  pub most : length t ≤ 256
  pub messages : sum_by message_count t ≤ 4096
  pub names : All (λ d. SoundName d.name) t
  pub requests : All (λ d. All (SoundRequest (length t)) d.requests) t
  pub events : All (λ d. All (SoundEvent (length t)) d.events) t
  pub begins : take 4 t ≡ core
