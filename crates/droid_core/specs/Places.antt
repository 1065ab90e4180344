-- For inner clauses and proofs: what is found of the place of a new node, and of its folder.
use Rattle.std.specs.Prelude.{◌≡◌, ℕ, ◌∷◌, ◌++◌, Bool, false, List, Option, Some, None, is_some, Result, Ok, Err}
use Rattle.std.specs.Prelude.{MatchBool, ⊤}
use Rattle.droid_frame.specs.declared.refusal.Refusal.{Refusal}
use Rattle.droid_frame.specs.declared.refusal.Refusal.TheVariants.{Memory, NoSuchNode, NotAFolder}
use Rattle.droid_core_spec.specs.Conditions.{is_missing, is_file}
use Rattle.droid_core_spec.specs.Judging.{Check, refusal_of, place_checks}
use Rattle.droid_core_spec.specs.MemoryFaults.{is_out_of_memory_of}
use Rattle.droid_core_spec.specs.World.{Profile, node_at, path}
use Rattle.droid_store.specs.declared.fault.StoreFault.{StoreFault}

-- the folder is there, and this is its path
pub record IsFolderPath (profile : Profile) (parent : ℕ) (found : List ℕ) : Type 0 where
  pub there : is_missing profile.nodes parent ≡ false
  pub no_file : is_file (node_at profile.nodes parent) ≡ false
  pub path_is : found ≡ path profile.nodes parent

-- from what the store returned: whether the node is there, or that memory ran out
abbrev pub taken_in : Result (Option ℕ) StoreFault → Result Bool Refusal
taken_in (Ok found) = Ok (is_some found)
taken_in (Err fault) = Err Memory

-- the path of the folder; or its refusal, whatever is checked after it; or memory ran out
abbrev pub FindsFolder : Profile → ℕ → Result (List ℕ) Refusal → Type 0
FindsFolder profile parent (Ok found) = IsFolderPath profile parent found
FindsFolder profile parent (Err refusal) =
    MatchBool (is_out_of_memory_of refusal) ⊤ ((more : List Check) →
    refusal_of
    ((is_missing profile.nodes parent, NoSuchNode) ∷ (is_file (node_at profile.nodes parent), NotAFolder) ∷ more)
    ≡ Some refusal)

-- the path of a new node that its place and name allow; or its first refusal, whatever is checked after these; or
-- memory ran out
abbrev pub FindsPlace : Profile → ℕ → List ℕ → Result (List ℕ) Refusal → Type 0
FindsPlace profile parent name (Ok found) =
    (refusal_of (place_checks profile.nodes parent name) ≡ None) × (found ≡ path profile.nodes parent ++ 47 ∷ name)
FindsPlace profile parent name (Err refusal) =
    MatchBool (is_out_of_memory_of refusal) ⊤ ((more : List Check)
    → refusal_of (place_checks profile.nodes parent name ++ more) ≡ Some refusal)
