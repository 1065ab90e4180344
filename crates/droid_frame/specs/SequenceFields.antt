-- For inner clauses and proofs: functions that read counted sequences from the front of bytes.
use Rattle.std.specs.Prelude.{ℕ, zero, suc, List, [], ◌∷◌, Option, Some}
use Rattle.droid_frame.specs.Reading.{◌>>=◌, byte_at}

-- the values of `count` reads in turn, and the bytes after them
unfoldable pub sequence_at : {A : Type 0} → (List ℕ → Option (A × List ℕ)) → ℕ → List ℕ → Option (List A × List ℕ)
sequence_at at zero bytes = Some ([], bytes)
sequence_at at (suc count) bytes = do
  first ← at bytes
  others ← sequence_at at count first.1
  Some (first.0 ∷ others.0, others.1)

-- a count in one byte, and the values of that many reads
unfoldable pub counted_at : {A : Type 0} → (List ℕ → Option (A × List ℕ)) → List ℕ → Option (List A × List ℕ)
counted_at at bytes = do
  count ← byte_at bytes
  sequence_at at count.0 count.1
