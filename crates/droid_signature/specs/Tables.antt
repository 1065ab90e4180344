-- The rows of a table of formats, extensions or priorities.
use Rattle.std.specs.Prelude.{◌≡◌, ℕ, ◌+◌, ◌<◌, ◌^◌, List, [], ◌∷◌, ◌++◌, length}
use Rattle.std.specs.List.{flat_map}
use Rattle.droid_signature.specs.Csv.{line}
use Rattle.droid_signature.specs.Sifting.{Sifted}
use Rattle.droid_signature.specs.declared.left_out.LeftOut.{LeftOut}
use Rattle.droid_signature.specs.declared.table.Table.{Table}

-- a table without rows
pub record IsNew (table : Table) : Type 0 where
  pub text : table.text.items ≡ []
  pub count : table.count ≡ 0
  pub left_out : table.left_out.items ≡ []

-- a table with one more row than before
pub record HasRow (old new : Table) (fields : List (List ℕ)) : Type 0 where
  pub text : new.text.items ≡ old.text.items ++ line fields
  pub count : old.count < 2 ^ 32 → new.count ≡ old.count + 1
  pub left_out : new.left_out.items ≡ old.left_out.items

-- a table with one more item that is left out
pub record HasLeft (old new : Table) (it : LeftOut) : Type 0 where
  pub text : new.text.items ≡ old.text.items
  pub count : new.count ≡ old.count
  pub left_out : new.left_out.items ≡ old.left_out.items ++ it ∷ []

-- The table has the rows that items become, and what is left out of them.
pub record Fills {X Row : Type 0} (Takes : List Row → X → Row → Type 0) (Leaves : List Row → X → LeftOut → Type 0)
    (fields_of : Row → List (List ℕ)) (xs : List X) (table : Table) : Type 0 where
  pub rows : List Row
  pub sifted : Sifted Takes Leaves xs rows table.left_out.items
  pub text : table.text.items ≡ flat_map (λ row. line (fields_of row)) rows
  pub count : table.count ≡ length rows
