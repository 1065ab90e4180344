-- For inner clauses and proofs: the bytes of chunks.
use Rattle.std.specs.Prelude.{◌≡◌, ℕ, ◌<◌, ◌≤◌, List, [], ◌++◌, length, drop}
use Rattle.std.specs.List.{AllByRecursion, flat_map}
use Rattle.std.specs.declared.alloc.Global.{Global}
use Rattle.std.specs.declared.vec.Vec.{Vec}
use Rattle.droid_turns.specs.declared.chunks.Chunks.{Chunks}

-- the bytes of a chunk
abbrev pub bytes_of : Vec ℕ Global → List ℕ
bytes_of chunk = chunk.items

-- the queued bytes, in order
abbrev pub waiting : Chunks → List ℕ
waiting chunks = drop chunks.written chunks.first.items ++ (flat_map bytes_of chunks.later.items ++ chunks.last.items)

-- no chunk is empty
abbrev pub AreFilled : List (Vec ℕ Global) → Type 0
AreFilled chunks = AllByRecursion (λ chunk. 0 < length chunk.items) chunks

-- the first chunk has queued bytes, if there are any
pub record IsSettled (chunks : Chunks) : Type 0 where
  pub within : chunks.written ≤ length chunks.first.items
  pub filled : AreFilled chunks.later.items
  pub settled : chunks.written ≡ length chunks.first.items → (chunks.later.items ≡ []) × (chunks.last.items ≡ [])
