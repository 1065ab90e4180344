-- Counted sequences of one kind of value (this project's own).
use Rattle.std.specs.Prelude.{ℕ, List, ◌∷◌, length}
use Rattle.std.specs.List.{flat_map}

-- the number of values in one byte, and then the bytes of each value
abbrev pub counted_bytes : {A : Type 0} → (A → List ℕ) → List A → List ℕ
counted_bytes spelled values = length values ∷ flat_map spelled values
