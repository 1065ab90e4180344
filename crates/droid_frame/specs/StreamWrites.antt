-- The output of a writer that stopped before it wrote all the bytes.
use Rattle.std.specs.Prelude.{ℕ, ◌<◌, List, Option, length, take}
use Rattle.std.specs.Io.KnownBytes.{Appends}

-- the output grew by exactly the first `count` of the bytes, and some were left
pub record Stops (old new : Option (List ℕ)) (bytes : List ℕ) (count : ℕ) : Type 0 where
  pub some_left : count < length bytes
  pub front : Appends old new (take count bytes)
