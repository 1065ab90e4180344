-- A list of names (this project's own): each ends with one byte, and the last one needs no end.
use Rattle.std.specs.Prelude.{◌≡◌, ◌≢◌, ◌⊎◌, ℕ, Bool, true, false, ◌==◌, List, [], ◌∷◌, ◌++◌, Option, Some, take}
use Rattle.std.specs.List.{AllByRecursion}

-- the bytes of a list that were read but not returned as names yet, and the byte that ends a name
pub record NamesLeft : Type 0 where
  pub end : ℕ
  pub bytes : List ℕ

-- no name ends within these bytes
abbrev pub HasNoEnd : ℕ → List ℕ → Type 0
HasNoEnd end bytes = AllByRecursion (λ byte. (byte == end) ≡ false) bytes

-- the first name of a list, and the list after it
pub record NextName (end : ℕ) (list front rest : List ℕ) : Type 0 where
  pub plain : HasNoEnd end front
  pub cut : (list ≡ front ++ end ∷ rest) ⊎ ((front ≢ []) × (list ≡ front) × (rest ≡ []))

-- the first name was returned, as many bytes of it as are kept, and the list after it is left; or no name was left
abbrev pub GivesName : ℕ → List ℕ → Option (List ℕ) → Bool → List ℕ → Type 0
GivesName end list left true name =
    (front : List ℕ) × (rest : List ℕ) × (left ≡ Some rest) × NextName end list front rest × (name ≡ take 4096 front)
GivesName end list left false name = (list ≡ []) × (left ≡ Some [])

-- ---- on the way

-- `front` came before; the bytes before the next end were added, and the end was dropped
pub record MovesToEnd (end : ℕ) (old new before after : List ℕ) : Type 0 where
  pub more : List ℕ
  pub plain : HasNoEnd end more
  pub cut : old ≡ more ++ end ∷ new
  pub kept : (front : List ℕ) → before ≡ take 4096 front → after ≡ take 4096 (front ++ more)

-- no end was there, and all bytes were added
pub record MovesAll (end : ℕ) (old new before after : List ℕ) : Type 0 where
  pub plain : HasNoEnd end old
  pub none_left : new ≡ []
  pub kept : (front : List ℕ) → before ≡ take 4096 front → after ≡ take 4096 (front ++ old)

abbrev pub Moves : Bool → ℕ → List ℕ → List ℕ → List ℕ → List ℕ → Type 0
Moves true end old new before after = MovesToEnd end old new before after
Moves false end old new before after = MovesAll end old new before after
