-- The versions of frames (this project's own).
use Rattle.std.specs.Prelude.{ℕ, ◌==◌, ◌||◌, Bool, IsTrue}

-- a version is 1 or 2
abbrev pub is_version : ℕ → Bool
is_version version = (version == 1) || (version == 2)

-- the same as a proposition
abbrev pub IsVersion : ℕ → Type 0
IsVersion version = IsTrue (is_version version)
