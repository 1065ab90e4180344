-- The rows of a profile's nodes: what they depend on, and how they change with the nodes.
use Rattle.std.proofs.Common.{◌≡◌, inl, inr, ℕ, suc, ◌+◌, ◌-◌, ◌<◌, ◌==◌, List, [], ◌∷◌, ◌++◌, length, slice_get, slice_set, Option, Some, None, refl, sym, ap, ap₂, subst, ◌∙◌, arith, append_assoc, append-nil}
use Rattle.std.proofs.lemmas.Bool.{cases_Bool, eqb-true, eqb-false}
use Rattle.droid_core_spec.specs.Judging.{world_set}
use Rattle.droid_core_spec.specs.Records.{option_list}
use Rattle.droid_core_spec.specs.Setting.{Setting}
use Rattle.droid_core_spec.specs.World.{Node, Folder, File, Abandoned, Profile, World, numbered, path}
use Rattle.droid_store.specs.Rows as rows
use Rattle.droid_store.specs.Rows.{Rows}
use Rattle.droid_core.specs.Rows.{node_row, node_rows_from, node_rows, rows_in, KeepsNodes, stored_in}
use Rattle.droid_core.proofs.Items.{numbered_set_same, numbered_set_other}

-- a row depends on the profile only through its scan limit, its mode, its hash and the path of this node
pub same_stored : (setting : Setting) (number : ℕ) (before after : Profile) (id : ℕ) (found : Option Node) → before.scan_limit ≡ after.scan_limit → before.match_all ≡ after.match_all → before.hash ≡ after.hash
    → path before.nodes id ≡ path after.nodes id → stored_in setting number before id found ≡ stored_in setting number after id found
same_stored setting number before after id None limit mode hash way = refl
same_stored setting number before after id (Some (Folder parent modified name)) limit mode hash way = rw way refl
same_stored setting number before after id (Some (File parent modified name content)) limit mode hash way = rw (limit, mode, hash, way) refl
same_stored setting number before after id (Some Abandoned) limit mode hash way = refl

-- a change of the rows that goes through them one by one
module _ (setting : Setting) (number : ℕ) (before after : Profile) (change : List rows.Node → List rows.Node) (nothing : change [] ≡ [])
    (joins : (these those : List rows.Node) → change (these ++ those) ≡ change these ++ change those) where
  pub rows_changed : (start : ℕ) (nodes others : List Node) → length nodes ≡ length others
      → ((place : ℕ) → place < length nodes
      → change (option_list (stored_in setting number before (start + place) (slice_get nodes place))) ≡ option_list (stored_in setting number after (start + place) (slice_get others place)))
      → change (node_rows_from setting number before start nodes) ≡ node_rows_from setting number after start others
  rows_changed start [] [] long each = nothing
  rows_changed start [] (other ∷ others) long each = absurd (omega arith)
  rows_changed start (node ∷ nodes) [] long each = absurd (omega arith)
  rows_changed start (node ∷ nodes) (other ∷ others) long each =
      let here : start + 0 ≡ start = omega arith in
      let first = subst (λ id. change (option_list (node_row setting number before id node)) ≡ option_list (node_row setting number after id other)) here (each 0 (omega arith)) in
      let rest = rows_changed (start + 1) nodes others (omega arith) (λ place less.
      let next : start + suc place ≡ start + 1 + place = omega arith in
      subst (λ id. change (option_list (stored_in setting number before id (slice_get nodes place))) ≡ option_list (stored_in setting number after id (slice_get others place))) next (each (suc place) (omega arith))) in
      joins (option_list (node_row setting number before start node)) (node_rows_from setting number before (start + 1) nodes) ∙ ap₂ (λ these those. these ++ those) first rest

-- the row of a node at the end comes last
pub rows_last : (setting : Setting) (number : ℕ) (profile : Profile) (start : ℕ) (nodes : List Node) (node : Node)
    → node_rows_from setting number profile start (nodes ++ node ∷ []) ≡ node_rows_from setting number profile start nodes ++ option_list (node_row setting number profile (start + length nodes) node)
rows_last setting number profile start [] node =
    let here : start ≡ start + 0 = omega arith in
    append-nil (option_list (node_row setting number profile start node)) ∙ ap (λ id. option_list (node_row setting number profile id node)) here
rows_last setting number profile start (first ∷ nodes) node =
    let row = option_list (node_row setting number profile start first) in
    let those = node_rows_from setting number profile (start + 1) nodes in
    let next : start + 1 + length nodes ≡ start + suc (length nodes) = omega arith in
    ap (λ rest. row ++ rest) (rows_last setting number profile (start + 1) nodes node ∙ ap (λ id. those ++ option_list (node_row setting number profile id node)) next)
    ∙ sym (append_assoc row those (option_list (node_row setting number profile (start + suc (length nodes)) node)))

-- the rows stand for the world with a profile in another's place, where they stand for this profile and have
-- changed for no other
pub keeps_set : (setting : Setting) (world : World) (number : ℕ) (profile after : Profile) (before now : Rows) → numbered world.profiles number ≡ Some profile → KeepsNodes setting world before
    → ((other : ℕ) → (other ≡ number → ⊥) → rows_in other now ≡ rows_in other before)
    → (rows_in number before ≡ node_rows_from setting number profile 1 profile.nodes → rows_in number now ≡ node_rows_from setting number after 1 after.nodes)
    → KeepsNodes setting (world_set world number after) now
keeps_set setting world number profile after before now found nodes others this other = elim (cases_Bool (other == number)) [
  | inl is ↦ subst (λ n. rows_in n now ≡ node_rows setting n (numbered (slice_set world.profiles (number - 1) after) n)) (sym (eqb-true other number is))
      (this (nodes number ∙ ap (λ one. node_rows setting number one) found) ∙ sym (ap (λ one. node_rows setting number one) (numbered_set_same world.profiles number profile after found)))
  | inr isnt ↦ let apart = eqb-false other number isnt in
      others other apart ∙ nodes other ∙ sym (ap (λ one. node_rows setting other one) (numbered_set_other world.profiles number other profile after found apart))
]
