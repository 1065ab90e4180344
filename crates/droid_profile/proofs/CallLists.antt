-- Calls of a tree with more calls for folders.
use Rattle.std.proofs.Common.{◌≡◌, ℕ, List, [], ◌∷◌, ◌++◌, map, append-nil, refl, ap, ◌∙◌}
use Rattle.std.specs.List.{flat_map}
use Rattle.std.proofs.lemmas.List.Concat.{flat_map-append}
use Rattle.droid_tree.specs.Observation.{Observation}
use Rattle.droid_profile.specs.Calls.{Call, OfFolder, folder_calls, folder_observed, read_for, reads_of}

all_for_folders : (more : List Observation) → flat_map folder_observed (map OfFolder more) ≡ more
all_for_folders [] = refl
all_for_folders (observation ∷ more) = ap (λ (l : List Observation). observation ∷ l) (all_for_folders more)

no_reads : (number : ℕ) (more : List Observation) → flat_map (read_for number) (map OfFolder more) ≡ []
no_reads number [] = refl
no_reads number (observation ∷ more) = no_reads number more

module _ (calls : List Call) (more : List Observation) where
  pub folder_calls_more : folder_calls (calls ++ map OfFolder more) ≡ folder_calls calls ++ more
  folder_calls_more = flat_map-append folder_observed calls (map OfFolder more) ∙ ap (λ (l : List Observation). folder_calls calls ++ l) (all_for_folders more)

  pub reads_still : (number : ℕ) → reads_of number (calls ++ map OfFolder more) ≡ reads_of number calls
  reads_still number =
      flat_map-append (read_for number) calls (map OfFolder more)
      ∙ (ap (λ (l : List Observation). reads_of number calls ++ l) (no_reads number more) ∙ append-nil (reads_of number calls))
