-- The one spelling of a row: 18 fields between double quotes (docs/CSV.md).
use Rattle.std.specs.Prelude.{◌≡◌, ◌<◌, ℕ, List, ◌∷◌, ◌++◌, [], length}
use Rattle.std.specs.List.{flat_map}
use Rattle.droid_export.specs.Csv.{line, quoted}
use Rattle.droid_lists.specs.RowReading.{mark_behind}

-- the text begins with these 18 fields as a row
pub record Spells (text : List ℕ) (fields : List (List ℕ)) (rest : List ℕ) : Type 0 where
  pub count : length fields ≡ 18
  pub whole : text ≡ line fields ++ rest

-- fields before the last column, each with the comma behind it
abbrev pub front_line : List (List ℕ) → List ℕ
front_line fields = flat_map (λ field. quoted field ++ 44 ∷ []) fields

-- up to this column the text is a row, and there it is none
pub record Breaks (text : List ℕ) (column : ℕ) : Type 0 where
  pub fields : List (List ℕ)
  pub rest : List ℕ
  pub count : length fields ≡ column
  pub within : column < 18
  pub front : text ≡ front_line fields ++ rest
  pub broken : (field behind : List ℕ) → rest ≡ quoted field ++ mark_behind column ∷ behind → ⊥
