-- For inner clauses and proofs: the front of a file, the bytes before the first missing piece.
use Rattle.std.specs.Prelude.{◌≡◌, ℕ, ◌≤◌, List, vec_len, vec_capacity}
use Rattle.droid_assembly.specs.Pieces.{first_window, last_window}
use Rattle.droid_frame.specs.RunningHashes.{HoldsAll}
use Rattle.droid_assembly.specs.declared.front.Front.{Front}
use Rattle.droid_frame.specs.declared.running_hash.RunningHash.{RunningHash}

-- its fields fit together; each window has memory for exactly `width` bytes
pub record IsFront (front : Front) : Type 0 where
  pub same_width : front.last.capacity ≡ front.width
  pub room : vec_capacity front.first ≡ front.width
  pub within : vec_len front.first ≤ front.width

-- `first` and `last` are the windows of the bytes, and the hash covers all of the bytes
pub record Knows (width : ℕ) (first last : List ℕ) (hash : RunningHash) (bytes : List ℕ) : Type 0 where
  pub begun : first ≡ first_window width bytes
  pub ended : last ≡ last_window width bytes
  pub hashed : HoldsAll hash bytes

-- the front has the windows and the hash of these bytes
abbrev pub FrontKnows : Front → List ℕ → Type 0
FrontKnows front bytes = Knows front.width front.first.items front.last.items front.hash bytes
