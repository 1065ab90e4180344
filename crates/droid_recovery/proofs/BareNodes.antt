-- What is seen of nodes that have no bytes: all but the pieces of unfinished files.
use Rattle.std.proofs.Common.{◌≡◌, inl, inr, ℕ, zero, suc, ◌+◌, List, [], ◌∷◌, ◌++◌, length, cond, Bool, true, false, Option, Some, None, option_map, is_none, count_by, refl, ap, ◌∙◌}
use Rattle.std.proofs.lemmas.Bool.{cases_Bool}
use Rattle.std.specs.Prelude.{fold, nat_lt}
use Rattle.droid_core_spec.specs.Conditions.{is_missing, is_file, is_too_deep}
use Rattle.droid_core_spec.specs.Files.{is_unfinished, unfinished_in}
use Rattle.droid_core_spec.specs.World.{Content, Node, Folder, File, Abandoned, Profile, World, numbered, node_at, unless_abandoned, is_called, is_taken, path_among, path_below, paths}
use Rattle.droid_recovery.specs.BareWorlds.{Bare, by_place, bare_content, bare_node, bare_nodes, bare_profile, bare_world}
use Rattle.droid_recovery.proofs.ByPlace.{any_by, numbered_by, sum_by_place}

-- ---- one node

pub same_finished : (bare : Bool) (content : Content) → (bare_content bare content).finished ≡ content.finished
same_finished true content = elim (cases_Bool content.finished) [
  | inl is ↦ rw is refl
  | inr isnt ↦ rw isnt refl
]
same_finished false content = refl

pub not_bare : (node : Node) → bare_node false node ≡ node
not_bare (Folder parent modified name) = refl
not_bare (File parent modified name content) = refl
not_bare Abandoned = refl

called_so : (bare : Bool) (parent : ℕ) (name : List ℕ) (node : Node) → is_called parent name (bare_node bare node) ≡ is_called parent name node
called_so bare parent name (Folder its_parent modified its_name) = refl
called_so bare parent name (File its_parent modified its_name content) = refl
called_so bare parent name Abandoned = refl

below_so : (bare : Bool) (all : List (List ℕ)) (node : Node) → path_below all (bare_node bare node) ≡ path_below all node
below_so bare all (Folder parent modified name) = refl
below_so bare all (File parent modified name content) = refl
below_so bare all Abandoned = refl

unfinished_so : (bare : Bool) (node : Node) → is_unfinished (bare_node bare node) ≡ is_unfinished node
unfinished_so bare (Folder parent modified name) = refl
unfinished_so bare (File parent modified name content) = rw (same_finished bare content) refl
unfinished_so bare Abandoned = refl

abandoned_so : (bare : Bool) (found : Option Node) → unless_abandoned (option_map (bare_node bare) found) ≡ option_map (bare_node bare) (unless_abandoned found)
abandoned_so bare None = refl
abandoned_so bare (Some (Folder parent modified name)) = refl
abandoned_so bare (Some (File parent modified name content)) = refl
abandoned_so bare (Some Abandoned) = refl

none_so : (bare : Bool) (found : Option Node) → is_none (option_map (bare_node bare) found) ≡ is_none found
none_so bare None = refl
none_so bare (Some node) = refl

file_so : (bare : Bool) (found : Option Node) → is_file (option_map (bare_node bare) found) ≡ is_file found
unfolding is_file
file_so bare None = refl
file_so bare (Some (Folder parent modified name)) = refl
file_so bare (Some (File parent modified name content)) = refl
file_so bare (Some Abandoned) = refl

-- ---- the nodes of a profile

paths_by : (change : ℕ → Node → Node) → ((place : ℕ) (all : List (List ℕ)) (node : Node) → path_below all (change place node) ≡ path_below all node)
    → (all : List (List ℕ)) (nodes : List Node)
    → fold (λ before node. before ++ path_below before node ∷ []) all (by_place change nodes) ≡ fold (λ before node. before ++ path_below before node ∷ []) all nodes
paths_by change same all [] = refl
paths_by change same all (node ∷ nodes) =
    ap (λ below. fold (λ before node. before ++ path_below before node ∷ []) (all ++ below ∷ []) (by_place (λ at. change (suc at)) nodes)) (same 0 all node)
    ∙ paths_by (λ at. change (suc at)) (λ place. same (suc place)) (all ++ path_below all node ∷ []) nodes

module _ (bare : ℕ → Bool) (nodes : List Node) where
  pub node_so : (id : ℕ) → node_at (bare_nodes bare nodes) id ≡ option_map (bare_node (bare id)) (node_at nodes id)
  node_so id = ap unless_abandoned (numbered_by (λ at. bare_node (bare at)) nodes id) ∙ abandoned_so (bare id) (numbered nodes id)

  pub paths_so : paths (bare_nodes bare nodes) ≡ paths nodes
  paths_so = paths_by (λ place. bare_node (bare (suc place))) (λ place. below_so (bare (suc place))) [] nodes

  pub missing_so : (id : ℕ) → is_missing (bare_nodes bare nodes) id ≡ is_missing nodes id
  unfolding is_missing
  missing_so zero = refl
  missing_so (suc place) = ap is_none (node_so (suc place)) ∙ none_so (bare (suc place)) (node_at nodes (suc place))

  pub place_so : (id : ℕ) → is_file (node_at (bare_nodes bare nodes) id) ≡ is_file (node_at nodes id)
  place_so id = ap is_file (node_so id) ∙ file_so (bare id) (node_at nodes id)

  pub taken_so : (parent : ℕ) (name : List ℕ) → is_taken (bare_nodes bare nodes) parent name ≡ is_taken nodes parent name
  unfolding is_taken
  taken_so parent name = any_by (is_called parent name) (λ place. bare_node (bare (suc place))) (λ place. called_so (bare (suc place)) parent name) nodes

  pub deep_so : (parent : ℕ) (name : List ℕ) → is_too_deep (bare_nodes bare nodes) parent name ≡ is_too_deep nodes parent name
  unfolding is_too_deep
  deep_so parent name = ap (λ all. nat_lt 4096 (length (path_among all parent) + 1 + length name)) paths_so

  unfinished_nodes_so : count_by is_unfinished (bare_nodes bare nodes) ≡ count_by is_unfinished nodes
  unfinished_nodes_so = sum_by_place (λ node. cond (is_unfinished node) 1 0) (λ place. bare_node (bare (suc place))) (λ place node. ap (λ b. cond b 1 0) (unfinished_so (bare (suc place)) node)) nodes

-- ---- the world

pub unfinished_in_so : (bare : Bare) (world : World) → unfinished_in (bare_world bare world) ≡ unfinished_in world
unfinished_in_so bare world =
    sum_by_place (λ (profile : Profile). count_by is_unfinished profile.nodes) (λ place. bare_profile (bare (suc place))) (λ place profile. unfinished_nodes_so (bare (suc place)) profile.nodes) world.profiles
