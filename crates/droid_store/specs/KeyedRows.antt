-- Rows of a table by their rowids, which are whole numbers here.
use Rattle.std.specs.Prelude.{ℕ, suc, ◌+◌, ◌<◌, Bool, if◌then◌else◌, List, [], ◌∷◌, fold}
use Rattle.std.specs.List.{AllByRecursion}
use Rattle.sqlite.specs.Tree.{IsAscending}

-- the rows with the numbers from n on
abbrev pub numbered_from : {R : Type 0} → ℕ → List R → List (ℕ × R)
numbered_from n [] = []
numbered_from n (r ∷ rs) = (n, r) ∷ numbered_from (suc n) rs

module _ {X : Type 0} (key : X → ℕ) where
  -- each rowid is below those of the later rows
  abbrev pub AreRising : List X → Type 0
  AreRising = IsAscending (λ a b. key a < key b)

  -- each rowid is below this one
  abbrev pub AreBelow : ℕ → List X → Type 0
  AreBelow n = AllByRecursion (λ x. key x < n)

  -- the rowid that SQL chooses for a new row: one more than the last, and 1 for the first row
  abbrev pub next_key : List X → ℕ
  next_key = fold (λ _ x. key x + 1) 1

-- changes an element that passes the test, and no other
abbrev pub changed_where : {X : Type 0} → (X → Bool) → (X → X) → X → X
changed_where test change x = if test x then change x else x
