-- The first refusal of a new node's place and name.
use Rattle.std.proofs.Common.{◌≡◌, ℕ, ◌+◌, List, ◌∷◌, ◌++◌, length, Bool, true, false, Option, Some, None, option_map, is_some, Result, Ok, Err, IfOk, refl, sym, ap, ◌∙◌}
use Rattle.std.specs.Prelude.{nat_lt}
use Rattle.droid_frame.specs.declared.refusal.Refusal.{Refusal}
use Rattle.droid_frame.specs.declared.refusal.Refusal.TheVariants.{BadName, PathTooLong, NameTaken}
use Rattle.droid_core_spec.specs.Conditions.{is_bad_name, is_too_deep}
use Rattle.droid_core_spec.specs.Judging.{Check, refusal_of, place_checks}
use Rattle.droid_core_spec.specs.MemoryFaults.{is_out_of_memory_of}
use Rattle.droid_core_spec.specs.World.{Profile, is_taken}
use Rattle.droid_store.specs.declared.fault.StoreFault.{StoreFault}
use Rattle.droid_store.specs.Rows.{Node}
use Rattle.droid_core.specs.Places.{IsFolderPath, FindsFolder, FindsPlace, taken_in}
use Rattle.droid_core.proofs.Staying.{if_refused}

-- ---- what the store answered of a node of this name

of_child : (node : Option Node) → is_some (option_map (λ (n : Node). n.id) node) ≡ is_some node
of_child None = refl
of_child (Some node) = refl

pub child_reported : (found : Result (Option ℕ) StoreFault) (node : Option Node) (there : Bool) → IfOk found (λ id. id ≡ option_map (λ (n : Node). n.id) node) → Ok there ≡ taken_in found → there ≡ is_some node
child_reported (Ok id) node there is reported = (let same : there ≡ is_some id = cc in same) ∙ ap is_some is ∙ of_child node
child_reported (Err fault) node there is reported = absurd cc

pub no_child : (node : Option Node) → is_some node ≡ false → node ≡ None
no_child None isnt = refl
no_child (Some node) isnt = absurd cc

-- ---- the first refusal

-- what is refused for the folder is refused for the place
pub folder_refused : (profile : Profile) (parent : ℕ) (name : List ℕ) (refusal : Refusal) → FindsFolder profile parent (Err refusal) → FindsPlace profile parent name (Err refusal)
folder_refused profile parent name refusal finds =
    if_refused (is_out_of_memory_of refusal)
    (λ first more. first ((is_bad_name name, BadName) ∷ (is_too_deep profile.nodes parent name, PathTooLong) ∷ (is_taken profile.nodes parent name, NameTaken) ∷ more)) finds

module _ (profile : Profile) (parent : ℕ) (name found : List ℕ) (folder : IsFolderPath profile parent found) where
  abbrev Refused : Refusal → Type 0
  Refused refusal = (more : List Check) → refusal_of (place_checks profile.nodes parent name ++ more) ≡ Some refusal

  deep_is : is_too_deep profile.nodes parent name ≡ nat_lt 4096 (length found + 1 + length name)
  unfolding is_too_deep
  deep_is = ap (λ (way : List ℕ). nat_lt 4096 (length way + 1 + length name)) (sym folder.path_is)

  pub bad_name : is_bad_name name ≡ true → Refused BadName
  bad_name bad = λ more. rw (folder.there, folder.no_file, bad) refl

  pub too_deep : is_bad_name name ≡ false → nat_lt 4096 (length found + 1 + length name) ≡ true → Refused PathTooLong
  too_deep good deep =
      let passes = deep_is ∙ deep in
      λ more. rw (folder.there, folder.no_file, good, passes) refl

  pub taken : is_bad_name name ≡ false → nat_lt 4096 (length found + 1 + length name) ≡ false → is_taken profile.nodes parent name ≡ true → Refused NameTaken
  taken good short there =
      let fits = deep_is ∙ short in
      λ more. rw (folder.there, folder.no_file, good, fits, there) refl

  pub allowed : is_bad_name name ≡ false → nat_lt 4096 (length found + 1 + length name) ≡ false → is_taken profile.nodes parent name ≡ false → refusal_of (place_checks profile.nodes parent name) ≡ None
  allowed good short free =
      let fits = deep_is ∙ short in
      rw (folder.there, folder.no_file, good, fits, free) refl
