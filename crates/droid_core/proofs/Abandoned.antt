-- The rows of a world in which a file was abandoned: its row is no more, and the others stay.
use Rattle.std.proofs.Common.{◌≡◌, ℕ, ◌-◌, ◌==◌, List, [], ◌∷◌, filter, Bool, true, false, not, Some, refl, sym, ap, ◌∙◌, length-set}
use Rattle.std.proofs.lemmas.Bool.{eqb-true}
use Rattle.std.proofs.lemmas.List.Elements.{filter-append}
use Rattle.std.specs.Prelude.{ℤ}
use Rattle.droid_core_spec.specs.Judging.{world_set, node_set}
use Rattle.droid_core_spec.specs.Setting.{Setting}
use Rattle.droid_core_spec.specs.World.{Content, File, Abandoned, Profile, World, numbered, node_at, path}
use Rattle.droid_store.specs.Changes.{new_file, with_reply, without_node}
use Rattle.droid_store.specs.declared.rows.Entry.{Entry}
use Rattle.droid_store.specs.Rows as rows
use Rattle.droid_store.specs.Rows.{Rows, is_node}
use Rattle.droid_core.specs.Rows.{profile_row, rows_in, KeepsWorld}
use Rattle.droid_core.specs.Sound.{IsSoundWorld}
use Rattle.droid_core.proofs.Apart.{path_elsewhere}
use Rattle.droid_core.proofs.InPlace.{at_file, profiles_set, rows_set}
use Rattle.droid_core.proofs.Items.{filter_turned, filter_kept}
use Rattle.droid_core.proofs.Made.{one_more_reply}
use Rattle.droid_core.proofs.NodeTests.{not_of_number, not_of_profile, this_node}
use Rattle.droid_core.proofs.RowsOfNodes.{keeps_set}
use Rattle.droid_core.proofs.ShortRows.{short_left}
use Rattle.droid_core.proofs.Soundness.{sound_profile}

-- one node's row is taken out
module _ (number id : ℕ) where
  abbrev stays : rows.Node → Bool
  stays n = not (is_node number id n)

  others_stay : (other : ℕ) → (other ≡ number → ⊥) → (n : rows.Node) → (n.profile == other) ≡ true → stays n ≡ true
  others_stay other apart n is = rw (not_of_profile number id n (λ same. apart (sym (eqb-true n.profile other is) ∙ same))) refl

  leaves : (n : rows.Node) → (n.id ≡ id → ⊥) → filter stays (n ∷ []) ≡ n ∷ []
  leaves n apart = rw (not_of_number number id n apart) refl

  others_unchanged : (before : Rows) (other : ℕ) → (other ≡ number → ⊥) → rows_in other (without_node number id before) ≡ rows_in other before
  others_unchanged before other apart =
      filter_turned (λ (n : rows.Node). n.profile == other) stays before.nodes
      ∙ filter_kept (λ (n : rows.Node). n.profile == other) stays (others_stay other apart) before.nodes

pub file_abandoned : (setting : Setting) (world : World) (before : Rows) (e : Entry) (number : ℕ) (profile : Profile) (id parent : ℕ) (modified : ℤ) (name : List ℕ) (content : Content)
    → IsSoundWorld world → KeepsWorld setting world before → numbered world.profiles number ≡ Some profile → node_at profile.nodes id ≡ Some (File parent modified name content) → content.finished ≡ false
    → KeepsWorld setting (world_set world number (node_set profile id Abandoned)) (with_reply e (without_node number id before))
file_abandoned setting world before e number profile id parent modified name content sound has found at_id unfinished =
    let after = node_set profile id Abandoned in
    let here = at_file (numbered profile.nodes id) parent modified name content at_id in
    let row = new_file number id parent modified content.size content.piece_size name (path profile.nodes id) in
    record {
      profiles = has.profiles ∙ profiles_set world.profiles number profile after found (ap (λ count. record (profile_row profile) { nodes = count }) (sym (length-set profile.nodes (id - 1) Abandoned)));
      nodes = keeps_set setting world number profile after before (with_reply e (without_node number id before)) found has.nodes (others_unchanged number id before)
          (λ known. filter_turned (λ (n : rows.Node). n.profile == number) (stays number id) before.nodes
          ∙ ap (λ these. filter (stays number id) these) known
          ∙ rows_set (λ these. filter (stays number id) these) refl (filter-append (stays number id)) id (leaves number id) setting number profile (File parent modified name content) Abandoned here
          (path_elsewhere profile.nodes id parent modified name content Abandoned at_id (sound_profile world number profile sound found).nodes)
          (rw unfinished (rw (this_node number id row refl refl) refl)));
      accepted = one_more_reply world before e has.accepted;
      short = short_left (stays number id) before.nodes has.short;
    }
