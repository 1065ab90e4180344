-- The rows of the table of signatures.
use Rattle.std.specs.Prelude.{◌≡◌, ℕ, [], ◌∷◌, ◌++◌, Some}
use Rattle.droid_signature.specs.declared.left_out.Item.TheVariants as items
use Rattle.droid_signature.specs.declared.left_out.Why.{Why}
use Rattle.droid_signature.specs.declared.signature_table.SignatureTable.{SignatureTable}

-- a table without rows
pub record IsNew (table : SignatureTable) : Type 0 where
  pub text : table.text.items ≡ []
  pub taken : table.taken ≡ 0
  pub count : table.count ≡ 0
  pub sequences : table.sequences ≡ 0
  pub left_out : table.left_out.items ≡ []

-- a table with one more signature that is left out
pub record HasLeft (old new : SignatureTable) (format id : ℕ) (why : Why) : Type 0 where
  pub text : new.text.items ≡ old.text.items
  pub taken : new.taken ≡ old.taken
  pub count : new.count ≡ old.count
  pub sequences : new.sequences ≡ old.sequences
  pub left_out : new.left_out.items
      ≡ old.left_out.items ++ record { format = Some format; item = items.Signature id; why = why } ∷ []
