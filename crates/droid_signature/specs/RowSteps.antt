-- The registry that rows make, one after the other.
use Rattle.std.specs.Prelude.{ℕ, List, [], ◌∷◌, Ok}
use Rattle.droid_pronom.specs.RegistryRecords.{Draft, Step}

-- each row adds to what those before it have made
pub data Steps : Draft → List (List (List ℕ)) → Draft → Type 0 where
  none : {draft : Draft} → Steps draft [] draft
  more : {draft next final : Draft} {field : List ℕ} {fields : List (List ℕ)} {rows : List (List (List ℕ))}
      → Step draft (field ∷ fields) (Ok next) → Steps next rows final → Steps draft ((field ∷ fields) ∷ rows) final
