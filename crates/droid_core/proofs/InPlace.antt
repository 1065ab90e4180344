-- The rows of a profile in which a node was put in a file's place.
use Rattle.std.proofs.Common.{◌≡◌, inl, inr, ℕ, zero, suc, ◌+◌, ◌-◌, ◌==◌, List, [], ◌∷◌, ◌++◌, length-set, if◌then◌else◌, map, slice_get, slice_set, Bool, true, false, Option, Some, None, refl, sym, ap, subst, ◌∙◌, arith}
use Rattle.std.proofs.lemmas.Bool.{cases_Bool, eqb-true, eqb-false}
use Rattle.std.specs.Prelude.{ℤ}
use Rattle.droid_core_spec.specs.Files.{finding_of}
use Rattle.droid_core_spec.specs.Judging.{node_set}
use Rattle.droid_core_spec.specs.Records.{option_list}
use Rattle.droid_core_spec.specs.Setting.{Setting}
use Rattle.droid_core_spec.specs.World.{Content, Node, Folder, File, Abandoned, Profile, numbered, unless_abandoned, path}
use Rattle.droid_store.specs.Changes.{new_folder, new_file}
use Rattle.droid_store.specs.Rows as rows
use Rattle.droid_store.specs.Rows.{Rows}
use Rattle.droid_core.specs.Rows.{found_row, profile_row, node_row, node_rows_from, stored_in}
use Rattle.droid_core.proofs.Items.{numbered_set_same, numbered_set_other}
use Rattle.droid_core.proofs.RowsOfNodes.{same_stored, rows_changed}

-- a file that isn't abandoned is the node of its number
pub at_file : (found : Option Node) (parent : ℕ) (modified : ℤ) (name : List ℕ) (content : Content) → unless_abandoned found ≡ Some (File parent modified name content) → found ≡ Some (File parent modified name content)
at_file None parent modified name content is = is
at_file (Some (Folder its_parent its_modified its_name)) parent modified name content is = is
at_file (Some (File its_parent its_modified its_name its_content)) parent modified name content is = is
at_file (Some Abandoned) parent modified name content is = absurd cc

-- the profile's row stays, since it counts as many nodes
pub profiles_set : (profiles : List Profile) (number : ℕ) (profile after : Profile) → numbered profiles number ≡ Some profile → profile_row profile ≡ profile_row after
    → map profile_row profiles ≡ map profile_row (slice_set profiles (number - 1) after)
profiles_set profiles zero profile after found same = absurd cc
profiles_set profiles (suc place) profile after found same = let less : suc place - 1 ≡ place = omega arith in rw less (at_place profiles place found)
  where
    at_place : (profiles : List Profile) (place : ℕ) → slice_get profiles place ≡ Some profile → map profile_row profiles ≡ map profile_row (slice_set profiles place after)
    at_place [] place found = absurd cc
    at_place (one ∷ profiles) zero found =
        let here : one ≡ profile = (let it : Some one ≡ Some profile = found in cc) in
        ap (λ p. p ∷ map profile_row profiles) (ap profile_row here ∙ same)
    at_place (one ∷ profiles) (suc place) found = ap (λ those. profile_row one ∷ those) (at_place profiles place found)

-- a change of rows that goes through them one by one, and leaves each but that of the node with the number id
module _ (change : List rows.Node → List rows.Node) (nothing : change [] ≡ []) (joins : (these those : List rows.Node) → change (these ++ those) ≡ change these ++ change those)
    (id : ℕ) (leaves : (row : rows.Node) → (row.id ≡ id → ⊥) → change (row ∷ []) ≡ row ∷ []) where
  leaves_either : (whole : Bool) (this that : rows.Node) → (this.id ≡ id → ⊥) → (that.id ≡ id → ⊥) → change ((if whole then this else that) ∷ []) ≡ (if whole then this else that) ∷ []
  leaves_either true this that not_this not_that = leaves this not_this
  leaves_either false this that not_this not_that = leaves that not_that

  leaves_row : (setting : Setting) (number : ℕ) (profile : Profile) (other : ℕ) (found : Option Node) → (other ≡ id → ⊥)
      → change (option_list (stored_in setting number profile other found)) ≡ option_list (stored_in setting number profile other found)
  leaves_row setting number profile other None apart = nothing
  leaves_row setting number profile other (Some (Folder parent modified name)) apart = leaves (new_folder number other parent modified name (path profile.nodes other)) apart
  leaves_row setting number profile other (Some (File parent modified name content)) apart =
      let plain = new_file number other parent modified content.size content.piece_size name (path profile.nodes other) in
      leaves_either content.finished (found_row (finding_of setting profile name content) plain) plain apart apart
  leaves_row setting number profile other (Some Abandoned) apart = nothing

  -- it makes the rows of the profile with the new node, if it does so at that node and the other paths stay
  pub rows_set : (setting : Setting) (number : ℕ) (profile : Profile) (old new : Node) → numbered profile.nodes id ≡ Some old
      → ((other : ℕ) → (other ≡ id → ⊥) → path profile.nodes other ≡ path (node_set profile id new).nodes other)
      → change (option_list (node_row setting number profile id old)) ≡ option_list (node_row setting number (node_set profile id new) id new)
      → change (node_rows_from setting number profile 1 profile.nodes) ≡ node_rows_from setting number (node_set profile id new) 1 (slice_set profile.nodes (id - 1) new)
  rows_set setting number profile old new found ways here =
      rows_changed setting number profile (node_set profile id new) change nothing joins 1 profile.nodes (slice_set profile.nodes (id - 1) new) (sym (length-set profile.nodes (id - 1) new))
      (λ place less. let next : suc place ≡ 1 + place = omega arith in
      subst (λ at. change (option_list (stored_in setting number profile at (slice_get profile.nodes place))) ≡ option_list (stored_in setting number (node_set profile id new) at (slice_get (slice_set profile.nodes (id - 1) new) place))) next (each (suc place)))
    where
      each : (other : ℕ) → change (option_list (stored_in setting number profile other (numbered profile.nodes other)))
          ≡ option_list (stored_in setting number (node_set profile id new) other (numbered (slice_set profile.nodes (id - 1) new) other))
      each other = elim (cases_Bool (other == id)) [
        | inl is ↦ subst (λ at. change (option_list (stored_in setting number profile at (numbered profile.nodes at)))
            ≡ option_list (stored_in setting number (node_set profile id new) at (numbered (slice_set profile.nodes (id - 1) new) at))) (sym (eqb-true other id is))
            (rw (found, numbered_set_same profile.nodes id old new found) here)
        | inr isnt ↦ let apart = eqb-false other id isnt in
            leaves_row setting number profile other (numbered profile.nodes other) apart
            ∙ ap option_list (same_stored setting number profile (node_set profile id new) other (numbered profile.nodes other) refl refl refl (ways other apart))
            ∙ ap (λ one. option_list (stored_in setting number (node_set profile id new) other one)) (sym (numbered_set_other profile.nodes id other old new found apart))
      ]
