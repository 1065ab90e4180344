-- The path of a folder without the slashes at its end (this project's own).
use Rattle.std.specs.Prelude.{◌≡◌, ℕ, List, [], ◌∷◌, ◌++◌, replicate}

-- the path without all slashes at its end
pub record IsWithoutSlashes (path top : List ℕ) : Type 0 where
  pub slashes : ℕ
  pub cut : path ≡ top ++ replicate slashes 47
  pub no_more : (front : List ℕ) → top ≡ front ++ 47 ∷ [] → ⊥
