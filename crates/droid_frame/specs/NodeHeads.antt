-- For inner clauses and proofs: a function that reads the first fields of AddFolder and AddFile.
use Rattle.std.specs.Prelude.{ℕ, List, Option, Some}
use Rattle.std.specs.Int.{w32}
use Rattle.droid_frame.specs.declared.reading.requests.node_head.NodeHead.{NodeHead}
use Rattle.droid_frame.specs.Reading.{◌>>=◌, number_at, signed_at}

-- the profile, the parent and the time of modification
unfoldable pub node_head_at : List ℕ → Option (NodeHead × List ℕ)
node_head_at bytes = do
  profile ← number_at w32 bytes
  parent ← number_at w32 profile.1
  modified ← signed_at parent.1
  Some (record { profile = profile.0; parent = parent.0; modified = modified.0 }, modified.1)
