-- Where files and folders lie (this project's own).
use Rattle.std.specs.Path.{rsplit_once}
use Rattle.std.specs.Prelude.{◌≡◌, ◌⊎◌, ◌==◌, ℕ, List, [], ◌∷◌, ◌++◌, Option, Some, None, codes, if◌then◌else◌, length}

-- a path is this folder, or begins with it and a `/`
abbrev pub IsAtOrBelow : List ℕ → List ℕ → Type 0
IsAtOrBelow path folder = (path ≡ folder) ⊎ ((rest : List ℕ) × (path ≡ folder ++ 47 ∷ rest))

-- a place is a folder or lies in it; both are absolute paths without links, and all lies in the root
abbrev pub LiesIn : List ℕ → List ℕ → Type 0
LiesIn place folder = (folder ≡ 47 ∷ []) ⊎ IsAtOrBelow place folder

-- The folder that a path lies in, by what stands before its last `/`. A path without a `/` is a name in the present
-- folder; one with a `/` alone before its name lies in the root.
abbrev pub folder_by : Option (List ℕ × List ℕ) → List ℕ
folder_by None = codes "."
folder_by (Some split) = if length split.0 == 0 then codes "/" else split.0

-- the last name of a path, by what stands behind its last `/`
abbrev pub name_by : List ℕ → Option (List ℕ × List ℕ) → List ℕ
name_by path None = path
name_by path (Some split) = split.1

-- the folder that a path lies in
abbrev pub folder_of : List ℕ → List ℕ
folder_of path = folder_by (rsplit_once 47 path)

-- the last name of a path
abbrev pub name_of : List ℕ → List ℕ
name_of path = name_by path (rsplit_once 47 path)
