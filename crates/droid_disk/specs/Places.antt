-- Paths through an open folder (this project's own).
use Rattle.std.specs.Prelude.{◌≡◌, ℕ, List, ◌++◌}

-- what this path names lies in the folder, and the place names it through the open folder
pub record IsPlaceOf (folder through path place : List ℕ) : Type 0 where
  pub name : List ℕ
  pub its : path ≡ folder ++ name
  pub is : place ≡ through ++ name
