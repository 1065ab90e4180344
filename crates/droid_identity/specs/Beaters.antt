-- The formats that beat another one.
use Rattle.std.specs.Prelude.{◌≡◌, ℕ, List, [], ◌∷◌}
use Rattle.droid_pronom.specs.declared.rows.Priority.{Priority}

-- The definitions below take the predicate P, which says of the place of a format whether it hits.

-- the format of the row hits, and has priority over the one at this place
abbrev pub Beats : (ℕ → Type 0) → ℕ → Priority → Type 0
Beats P place row = P row.place × (row.over ≡ place)

-- the places of those rows, in order, and no other
pub data Beaters (P : ℕ → Type 0) (place : ℕ) : List Priority → List ℕ → Type 0 where
  end : Beaters P place [] []
  beaten : {row : Priority} {rows : List Priority} {places : List ℕ} → Beats P place row → Beaters P place rows places
      → Beaters P place (row ∷ rows) (row.place ∷ places)
  passed : {row : Priority} {rows : List Priority} {places : List ℕ} → (Beats P place row → ⊥)
      → Beaters P place rows places → Beaters P place (row ∷ rows) places
