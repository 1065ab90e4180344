-- Which of two pieces is the shorter one, by the list of the pieces' lengths; an empty piece loses.
use Rattle.std.specs.Prelude.{ℕ, ◌<◌, ◌≤◌, List, slice_index}

-- if piece k is not empty, then piece `best` isn't either, and is no longer
abbrev pub Beats : List ℕ → ℕ → ℕ → Type 0
Beats lens best k = 0 < slice_index lens k → (0 < slice_index lens best) × (slice_index lens best ≤ slice_index lens k)
