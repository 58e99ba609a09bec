-- What an interface and its messages say, wherever the code keeps them.
use Rattle.std.specs.Prelude.{ℕ, Bool, List, map, Option}
use Rattle.protocol.specs.declared.argument.ArgumentType.{ArgumentType}
use Rattle.protocol.specs.declared.interface.MessageDesc.{MessageDesc}
use Rattle.protocol.specs.declared.interface.Interface.{Interface}

-- a request or an event
pub record Message : Type 0 where
  pub signature : List ArgumentType
  pub destructor : Bool
  pub child : Option ℕ
  pub args : List ℕ

-- an interface: its name, and its messages by opcode
pub record Description : Type 0 where
  pub name : List ℕ
  pub requests : List Message
  pub events : List Message

-- what a message description in the code says
abbrev pub message_of : MessageDesc → Message
message_of m = record { signature = m.signature.now; destructor = m.is_destructor; child = m.child_interface; args = m.arg_interfaces.now }

-- what an interface in the code says
abbrev pub description_of : Interface → Description
description_of i = record { name = i.name.now; requests = map message_of i.requests.now; events = map message_of i.events.now }

-- what a list of interfaces in the code says
abbrev pub described : List Interface → List Description
described is = map description_of is
