-- The pieces that `settle` returns.
use Rattle.std.specs.Prelude.{ℕ, List, [], ◌∷◌, Option, None, Some}

-- the bytes of each piece, in order of index: of one piece, or of several
abbrev pub pieces_of : Option (List ℕ) → Option (List (List ℕ)) → List (List ℕ)
pieces_of (Some bytes) several = bytes ∷ []
pieces_of None (Some several) = several
pieces_of None None = []
