-- The reads of one file among those of several.
use Rattle.std.proofs.Common.{◌≡◌, inl, inr, ℕ, List, [], ◌∷◌, ◌++◌, append-nil, refl, sym, ap, ◌∙◌}
use Rattle.std.proofs.lemmas.Bool.Decides.{eqb_tells}
use Rattle.std.proofs.lemmas.List.Concat.{flat_map-append}
use Rattle.droid_tree.specs.Observation.{Observation}
use Rattle.droid_profile.specs.Calls.{Call, OfFile, folder_calls, folder_observed, read_for, reads_of}

pub reads_append : (number : ℕ) (calls more : List Call) → reads_of number (calls ++ more) ≡ reads_of number calls ++ reads_of number more
reads_append number calls more = flat_map-append (read_for number) calls more

-- another read of this file
pub read_more : (number : ℕ) (observation : Observation) → reads_of number (OfFile number observation ∷ []) ≡ observation ∷ []
read_more number observation = elim (eqb_tells number number) [
  | inl t ↦ rw t.0 refl
  | inr t ↦ absurd (t.1 refl)
]

-- a read of another file
pub read_else : (number its : ℕ) (observation : Observation) → (number ≡ its → ⊥) → reads_of number (OfFile its observation ∷ []) ≡ []
read_else number its observation apart = elim (eqb_tells its number) [
  | inl t ↦ absurd (apart (sym t.1))
  | inr t ↦ rw t.0 refl
]

-- reads of others change nothing
pub reads_still : (number : ℕ) (calls more : List Call) → reads_of number more ≡ [] → reads_of number (calls ++ more) ≡ reads_of number calls
reads_still number calls more none = reads_append number calls more ∙ (ap (λ (l : List Observation). reads_of number calls ++ l) none ∙ append-nil (reads_of number calls))

pub folders_append : (calls more : List Call) → folder_calls calls ≡ [] → folder_calls more ≡ [] → folder_calls (calls ++ more) ≡ []
folders_append calls more none none_more =
    flat_map-append folder_observed calls more ∙ (ap (λ (l : List Observation). l ++ folder_calls more) none ∙ none_more)
