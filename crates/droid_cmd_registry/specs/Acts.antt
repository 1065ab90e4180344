-- What the command does outside of itself (this project's own).
use Rattle.std.specs.Prelude.{ℕ, List}
use Rattle.droid_cmd_registry.specs.declared.registry_places.Part.{Part}
use Rattle.droid_cmd_registry.specs.declared.registry_places.Unput.{Unput}
use Rattle.droid_cmd_registry.specs.declared.registry_places.Unread.{Unread}

-- a call of `Places`, with what came of it
pub data Act : Type 0 where
  -- the signature file has these bytes
  Got : (bytes : List ℕ) → Act
  -- it could not be read
  GotNone : (why : Unread) → Act
  -- a part was put in its place whole
  Put : (part : Part) (bytes : List ℕ) → Act
  -- it could not be put there, and what was there before stays
  PutNone : (part : Part) (bytes : List ℕ) (why : Unput) → Act
  -- this was printed on standard error
  Reported : (text : List ℕ) → Act
