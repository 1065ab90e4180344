-- How a pattern's text ends.
use Rattle.std.specs.Prelude.{ℕ, ◌==◌, ◌&&◌, Bool, false, not, List, [], ◌∷◌}

-- whether a text is not empty and does not end in a gap: a gap ends in `}` or `*`, and no other element does
abbrev pub ends_in_byte : List ℕ → Bool
ends_in_byte [] = false
ends_in_byte (c ∷ []) = not (c == 125) && not (c == 42)
ends_in_byte (c ∷ d ∷ rest) = ends_in_byte (d ∷ rest)
