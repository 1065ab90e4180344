-- The rows of a world in which a bare file was finished: its row says what was found in the whole file.
use Rattle.std.proofs.Common.{◌≡◌, inl, inr, ℕ, ◌-◌, ◌==◌, List, [], ◌∷◌, if◌then◌else◌, map, false, Some, refl, sym, ap, ◌∙◌, length-set}
use Rattle.std.proofs.lemmas.Bool.{cases_Bool}
use Rattle.std.proofs.lemmas.List.{map-append}
use Rattle.std.specs.Prelude.{ℤ}
use Rattle.droid_core_spec.specs.Files.{Finding, as_finished, finding_of}
use Rattle.droid_core_spec.specs.Judging.{world_set, node_set}
use Rattle.droid_core_spec.specs.Setting.{Setting}
use Rattle.droid_core_spec.specs.World.{Content, File, Profile, World, numbered, node_at, path_among, paths}
use Rattle.droid_store.specs.Changes.{new_file, with_reply}
use Rattle.droid_store.specs.declared.rows.Entry.{Entry}
use Rattle.droid_store.specs.Rows as rows
use Rattle.droid_store.specs.Rows.{Rows, is_node}
use Rattle.droid_core.specs.Rows.{found_row, profile_row, with_finding, KeepsWorld}
use Rattle.droid_core.proofs.Finished.{others_unchanged}
use Rattle.droid_core.proofs.InPlace.{at_file, profiles_set, rows_set}
use Rattle.droid_core.proofs.Items.{filter_changed}
use Rattle.droid_core.proofs.Made.{one_more_reply}
use Rattle.droid_core.proofs.NodeTests.{not_of_number, this_node}
use Rattle.droid_core.proofs.NodePaths.{paths_of_file}
use Rattle.droid_core.proofs.RowsOfNodes.{keeps_set}
use Rattle.droid_core.proofs.ShortRows.{short_changed}

-- one node is finished
module _ (number id : ℕ) (finding : Finding) where
  abbrev finish : rows.Node → rows.Node
  finish n = if is_node number id n then found_row finding n else n

  profile_stays : (other : ℕ) (n : rows.Node) → ((finish n).profile == other) ≡ (n.profile == other)
  profile_stays other n = elim (cases_Bool (is_node number id n)) [
    | inl is ↦ rw is refl
    | inr isnt ↦ rw isnt refl
  ]

  same_name : (n : rows.Node) → (finish n).name ≡ n.name
  same_name n = elim (cases_Bool (is_node number id n)) [
    | inl is ↦ rw is refl
    | inr isnt ↦ rw isnt refl
  ]

  same_path : (n : rows.Node) → (finish n).path ≡ n.path
  same_path n = elim (cases_Bool (is_node number id n)) [
    | inl is ↦ rw is refl
    | inr isnt ↦ rw isnt refl
  ]

  leaves : (n : rows.Node) → (n.id ≡ id → ⊥) → map finish (n ∷ []) ≡ n ∷ []
  leaves n apart = rw (not_of_number number id n apart) refl

pub bare_file_finished : (setting : Setting) (world : World) (before : Rows) (e : Entry) (number : ℕ) (profile : Profile) (id parent : ℕ) (modified : ℤ) (name : List ℕ) (content : Content)
    → KeepsWorld setting world before → numbered world.profiles number ≡ Some profile → node_at profile.nodes id ≡ Some (File parent modified name (record content { pieces = [] })) → content.finished ≡ false
    → KeepsWorld setting (world_set world number (node_set profile id (File parent modified name (as_finished content))))
    (with_reply e (with_finding number id (finding_of setting profile name content) before))
bare_file_finished setting world before e number profile id parent modified name content has found at_id unfinished =
    let finding = finding_of setting profile name content in
    let bare : Content = record content { pieces = [] } in
    let old = File parent modified name bare in
    let new = File parent modified name (as_finished content) in
    let after = node_set profile id new in
    let change = finish number id finding in
    let here = at_file (numbered profile.nodes id) parent modified name bare at_id in
    let ways = paths_of_file profile.nodes id parent modified name bare (as_finished content) here in
    let plain = λ (all : List (List ℕ)). new_file number id parent modified content.size content.piece_size name (path_among all id) in
    let row = plain (paths profile.nodes) in
    record {
      profiles = has.profiles ∙ profiles_set world.profiles number profile after found (ap (λ count. record (profile_row profile) { nodes = count }) (sym (length-set profile.nodes (id - 1) new)));
      nodes = keeps_set setting world number profile after before (with_reply e (with_finding number id finding before)) found has.nodes
          (others_unchanged number id finding before)
          (λ known. filter_changed (λ (n : rows.Node). n.profile == number) change (profile_stays number id finding number) before.nodes
          ∙ ap (λ these. map change these) known
          ∙ rows_set (λ these. map change these) refl (map-append change) id (leaves number id finding) setting number profile old new here
          (λ other apart. ap (λ all. path_among all other) (sym ways))
          (rw unfinished (rw (this_node number id row refl refl) (ap (λ all. found_row finding (plain all) ∷ []) (sym ways)))));
      accepted = one_more_reply world before e has.accepted;
      short = short_changed change (same_name number id finding) (same_path number id finding) before.nodes has.short;
    }
