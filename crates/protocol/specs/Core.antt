-- The interfaces that every table begins with.
use Rattle.std.specs.Prelude.{ℕ, true, false, List, [], ◌∷◌, Some, None, codes}
use Rattle.protocol.specs.Descriptions.{Message, Description}
use Rattle.protocol.specs.declared.argument.AllowNull.TheVariants.{No}
use Rattle.protocol.specs.declared.argument.ArgumentType.{ArgumentType}
use Rattle.protocol.specs.declared.argument.ArgumentType.TheVariants.{Uint, Str, Object, NewId}

-- a message that creates an object of a fixed interface and carries nothing else
abbrev pub creating : ℕ → Message
creating i = record { signature = NewId ∷ []; destructor = false; child = Some i; args = [] }

-- a message that creates no object of a fixed interface and destroys nothing
abbrev pub plain : List ArgumentType → List ℕ → Message
plain s xs = record { signature = s; destructor = false; child = None; args = xs }

-- wl_display: sync and get_registry; error and delete_id
abbrev pub display : Description
display = record {
  name = codes "wl_display";
  requests = creating 2 ∷ creating 1 ∷ [];
  events = plain (Object No ∷ Uint ∷ Str No ∷ []) (3 ∷ []) ∷ plain (Uint ∷ []) [] ∷ [];
}

-- wl_registry: bind; global and global_remove
abbrev pub registry : Description
registry = record {
  name = codes "wl_registry";
  requests = plain (Uint ∷ Str No ∷ Uint ∷ NewId ∷ []) [] ∷ [];
  events = plain (Uint ∷ Str No ∷ Uint ∷ []) [] ∷ plain (Uint ∷ []) [] ∷ [];
}

-- wl_callback: done, which destroys it
abbrev pub callback : Description
callback = record {
  name = codes "wl_callback";
  requests = [];
  events = record { signature = Uint ∷ []; destructor = true; child = None; args = [] } ∷ [];
}

-- the interface that any object fits
abbrev pub anonymous : Description
anonymous = record { name = codes "<anonymous>"; requests = []; events = [] }

-- the four in their order
abbrev pub core : List Description
core = display ∷ registry ∷ callback ∷ anonymous ∷ []
