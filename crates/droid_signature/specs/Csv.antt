-- A row of a registry file: a record of CSV (RFC 4180, section 2) with each field between double quotes and a line feed
-- at the end.
use Rattle.std.specs.Prelude.{ℕ, ◌==◌, List, [], ◌∷◌, ◌++◌, if◌then◌else◌}
use Rattle.std.specs.List.{flat_map}

-- a double quote inside a field is written twice
abbrev pub doubled : ℕ → List ℕ
doubled b = if b == 34 then 34 ∷ 34 ∷ [] else b ∷ []

-- a field between double quotes
unfoldable pub quoted : List ℕ → List ℕ
quoted field = 34 ∷ flat_map doubled field ++ 34 ∷ []

-- fields, separated by commas
unfoldable pub joined : List (List ℕ) → List ℕ
joined [] = []
joined (field ∷ []) = quoted field
joined (field ∷ next ∷ fields) = quoted field ++ 44 ∷ joined (next ∷ fields)

-- a record
unfoldable pub line : List (List ℕ) → List ℕ
line fields = joined fields ++ 10 ∷ []
