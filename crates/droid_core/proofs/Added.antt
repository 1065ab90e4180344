-- The rows of a world in which a profile has one node more.
use Rattle.std.proofs.Common.{◌≡◌, ℕ, zero, suc, ◌+◌, ◌-◌, ◌==◌, List, [], ◌∷◌, ◌++◌, length, map, filter, slice_set, Some, refl, sym, ap, ap₂, ◌∙◌, arith, length-append}
use Rattle.std.proofs.lemmas.Bool.{eq-eqb, ne_eqb}
use Rattle.std.proofs.lemmas.List.{append-nil}
use Rattle.std.proofs.lemmas.List.Elements.{filter-append}
use Rattle.std.specs.Prelude.{ℤ, true, false}
use Rattle.droid_core_spec.specs.Judging.{world_set, with_node}
use Rattle.droid_core_spec.specs.Records.{option_list}
use Rattle.droid_core_spec.specs.Setting.{Setting}
use Rattle.droid_core_spec.specs.World.{Content, Node, Folder, File, Profile, World, numbered, path_below, paths, path}
use Rattle.droid_store.specs.Changes as changes
use Rattle.droid_store.specs.Changes.{counted, new_folder, new_file, with_reply}
use Rattle.droid_store.specs.declared.rows.Entry.{Entry}
use Rattle.droid_store.specs.Rows as rows
use Rattle.droid_store.specs.Rows.{Rows}
use Rattle.droid_core.specs.Rows.{profile_row, node_row, node_rows_from, rows_in, AreShort, IsShort, KeepsWorld}
use Rattle.droid_core_spec.proofs.Each.{each_with_one_more}
use Rattle.droid_core.proofs.Made.{one_more_reply}
use Rattle.droid_core.proofs.NodePaths.{path_kept, path_last}
use Rattle.droid_core.proofs.RowsOfNodes.{same_stored, rows_changed, rows_last, keeps_set}

-- the new node's path: of a folder or a file its folder's path, then `/` and its name
pub path_below_added : (profile : Profile) (node : Node) → path (with_node profile node).nodes (length profile.nodes + 1) ≡ path_below (paths profile.nodes) node
path_below_added profile node = path_last profile.nodes node

-- the profile's row with this count
counted_place : (place count : ℕ) (profiles : List Profile) (profile after : Profile) → numbered profiles (suc place) ≡ Some profile → record (profile_row profile) { nodes = count } ≡ profile_row after
    → counted (suc place) count (map profile_row profiles) ≡ map profile_row (slice_set profiles place after)
counted_place place count [] profile after found row = absurd cc
counted_place zero count (one ∷ profiles) profile after found row =
    let here : one ≡ profile = (let it : Some one ≡ Some profile = found in cc) in
    ap (λ p. p ∷ map profile_row profiles) (ap (λ (p : Profile). record (profile_row p) { nodes = count }) here ∙ row)
counted_place (suc place) count (one ∷ profiles) profile after found row = ap (λ those. profile_row one ∷ those) (counted_place place count profiles profile after found row)

counted_set : (number count : ℕ) (profiles : List Profile) (profile after : Profile) → numbered profiles number ≡ Some profile → record (profile_row profile) { nodes = count } ≡ profile_row after
    → counted number count (map profile_row profiles) ≡ map profile_row (slice_set profiles (number - 1) after)
counted_set zero count profiles profile after found row = absurd cc
counted_set (suc place) count profiles profile after found row =
    let less : suc place - 1 ≡ place = omega arith in
    rw less (counted_place place count profiles profile after found row)

-- the new row stands for the new node
module _ (setting : Setting) (world : World) (before : Rows) (e : Entry) (number : ℕ) (profile : Profile) (has : KeepsWorld setting world before) (found : numbered world.profiles number ≡ Some profile)
    (node : Node) (row : rows.Node) (of_profile : row.profile ≡ number) (next : row.id ≡ length profile.nodes + 1)
    (stands : node_row setting number (with_node profile node) (length profile.nodes + 1) node ≡ Some row) (short : IsShort row) where
  others_stay : (other : ℕ) → (other ≡ number → ⊥) → filter (λ (n : rows.Node). n.profile == other) (before.nodes ++ row ∷ []) ≡ rows_in other before
  others_stay other apart =
      let not_here : (row.profile == other) ≡ false = ne_eqb row.profile other (λ same. apart (sym same ∙ of_profile)) in
      filter-append (λ (n : rows.Node). n.profile == other) before.nodes (row ∷ []) ∙ rw not_here (append-nil (rows_in other before))

  -- the rows of the earlier nodes stay
  earlier : node_rows_from setting number profile 1 profile.nodes ≡ node_rows_from setting number (with_node profile node) 1 profile.nodes
  earlier =
      rows_changed setting number profile (with_node profile node) (λ these. these) refl (λ these those. refl) 1 profile.nodes profile.nodes refl
      (λ place less. ap option_list (same_stored setting number profile (with_node profile node) (1 + place) _ refl refl refl (sym (path_kept profile.nodes node (1 + place) (omega arith)))))

  this_grows : rows_in number before ≡ node_rows_from setting number profile 1 profile.nodes
      → filter (λ (n : rows.Node). n.profile == number) (before.nodes ++ row ∷ []) ≡ node_rows_from setting number (with_node profile node) 1 (profile.nodes ++ node ∷ [])
  this_grows known =
      let here : (row.profile == number) ≡ true = eq-eqb row.profile number of_profile in
      let last : length profile.nodes + 1 ≡ 1 + length profile.nodes = omega arith in
      filter-append (λ (n : rows.Node). n.profile == number) before.nodes (row ∷ [])
      ∙ rw here (ap₂ (λ these those. these ++ those) (known ∙ earlier) (ap option_list (sym stands ∙ ap (λ id. node_row setting number (with_node profile node) id node) last)))
      ∙ sym (rows_last setting number (with_node profile node) 1 profile.nodes node)

  pub node_added : KeepsWorld setting (world_set world number (with_node profile node)) (with_reply e (changes.with_node row before))
  node_added = record {
    profiles = ap₂ (λ id those. counted row.profile id those) next has.profiles ∙ ap (λ n. counted n (length profile.nodes + 1) (map profile_row world.profiles)) of_profile
        ∙ counted_set number (length profile.nodes + 1) world.profiles profile (with_node profile node) found
        (ap (λ count. record (profile_row profile) { nodes = count }) (sym (length-append profile.nodes (node ∷ []))));
    nodes = keeps_set setting world number profile (with_node profile node) before (with_reply e (changes.with_node row before)) found has.nodes others_stay this_grows;
    accepted = one_more_reply world before e has.accepted;
    short = each_with_one_more IsShort before.nodes row has.short short;
  }

module _ (setting : Setting) (world : World) (before : Rows) (e : Entry) (number : ℕ) (profile : Profile) (has : KeepsWorld setting world before) (found : numbered world.profiles number ≡ Some profile) where
  pub folder_added : (parent : ℕ) (modified : ℤ) (name : List ℕ) → AreShort name (path profile.nodes parent ++ 47 ∷ name)
      → KeepsWorld setting (world_set world number (with_node profile (Folder parent modified name)))
      (with_reply e (changes.with_node (new_folder number (length profile.nodes + 1) parent modified name (path profile.nodes parent ++ 47 ∷ name)) before))
  folder_added parent modified name short =
      let id = length profile.nodes + 1 in
      node_added setting world before e number profile has found (Folder parent modified name) (new_folder number id parent modified name (path profile.nodes parent ++ 47 ∷ name)) refl refl
      (ap (λ way. Some (new_folder number id parent modified name way)) (path_below_added profile (Folder parent modified name))) short

  pub file_added : (parent : ℕ) (modified : ℤ) (size piece_size : ℕ) (name : List ℕ) → AreShort name (path profile.nodes parent ++ 47 ∷ name)
      → KeepsWorld setting (world_set world number (with_node profile (File parent modified name (record { size = size; piece_size = piece_size; pieces = []; finished = false }))))
      (with_reply e (changes.with_node (new_file number (length profile.nodes + 1) parent modified size piece_size name (path profile.nodes parent ++ 47 ∷ name)) before))
  file_added parent modified size piece_size name short =
      let id = length profile.nodes + 1 in
      let content : Content = record { size = size; piece_size = piece_size; pieces = []; finished = false } in
      node_added setting world before e number profile has found (File parent modified name content) (new_file number id parent modified size piece_size name (path profile.nodes parent ++ 47 ∷ name)) refl refl
      (ap (λ way. Some (new_file number id parent modified size piece_size name way)) (path_below_added profile (File parent modified name content))) short
