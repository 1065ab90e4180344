-- What is cut off and saved (this project's own).
use Rattle.std.specs.Prelude.{◌≡◌, List, ℕ, ◌++◌}

-- the bytes end with these
abbrev pub EndsWith : List ℕ → List ℕ → Type 0
EndsWith bytes end = (front : List ℕ) × (bytes ≡ front ++ end)
