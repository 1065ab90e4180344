-- For inner clauses and proofs: functions that read texts, each after its length, from the front of bytes.
use Rattle.std.specs.Prelude.{ℕ, nat_lt, if◌then◌else◌, List, [], ◌∷◌, length, take, drop, Option, Some, None}
use Rattle.droid_frame.specs.Reading.{◌>>=◌, text_at}
use Rattle.droid_frame.specs.SequenceFields.{sequence_at}

-- a length of `least` to `most`, that many bytes, and the bytes after them
unfoldable pub sized_at : ℕ → ℕ → List ℕ → Option (List ℕ × List ℕ)
sized_at least most [] = None
sized_at least most (size ∷ rest) =
    if nat_lt size least then None
    else if nat_lt most size then None
    else if nat_lt (length rest) size then None
    else Some (take size rest, drop size rest)

-- the same, if the bytes are UTF-8
unfoldable pub sized_text_at : ℕ → ℕ → List ℕ → Option (List ℕ × List ℕ)
sized_text_at least most bytes = do
  sized ← sized_at least most bytes
  text ← text_at sized.0
  Some (text, sized.1)

-- `count` texts, each after its length, and the bytes after them
abbrev pub texts_at : ℕ → ℕ → ℕ → List ℕ → Option (List (List ℕ) × List ℕ)
texts_at count least most bytes = sequence_at (sized_text_at least most) count bytes
