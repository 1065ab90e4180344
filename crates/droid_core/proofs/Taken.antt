-- The rows of a world in which a piece of a file was taken: they stay.
use Rattle.std.proofs.Common.{◌≡◌, ℕ, ◌-◌, List, false, Some, refl, sym, ap, ◌∙◌, length-set}
use Rattle.std.specs.Prelude.{ℤ}
use Rattle.droid_core_spec.specs.Files.{with_piece}
use Rattle.droid_core_spec.specs.Judging.{world_set, node_set}
use Rattle.droid_core_spec.specs.Setting.{Setting}
use Rattle.droid_core_spec.specs.World.{Content, File, Profile, World, numbered, node_at, path_among}
use Rattle.droid_store.specs.Changes.{with_reply}
use Rattle.droid_store.specs.declared.rows.Entry.{Entry}
use Rattle.droid_store.specs.Rows.{Rows}
use Rattle.droid_core.specs.Rows.{profile_row, KeepsWorld}
use Rattle.droid_core.proofs.InPlace.{at_file, profiles_set, rows_set}
use Rattle.droid_core.proofs.Made.{one_more_reply}
use Rattle.droid_core.proofs.NodePaths.{paths_of_file}
use Rattle.droid_core.proofs.RowsOfNodes.{keeps_set}

pub piece_taken : (setting : Setting) (world : World) (before : Rows) (e : Entry) (number : ℕ) (profile : Profile) (id parent : ℕ) (modified : ℤ) (name : List ℕ) (content : Content) (index : ℕ) (bytes : List ℕ)
    → KeepsWorld setting world before → numbered world.profiles number ≡ Some profile → node_at profile.nodes id ≡ Some (File parent modified name content) → content.finished ≡ false
    → KeepsWorld setting (world_set world number (node_set profile id (File parent modified name (with_piece content index bytes)))) (with_reply e before)
piece_taken setting world before e number profile id parent modified name content index bytes has found at_id unfinished =
    let old = File parent modified name content in
    let new = File parent modified name (with_piece content index bytes) in
    let after = node_set profile id new in
    let here = at_file (numbered profile.nodes id) parent modified name content at_id in
    let ways = paths_of_file profile.nodes id parent modified name content (with_piece content index bytes) here in
    record {
      profiles = has.profiles ∙ profiles_set world.profiles number profile after found (ap (λ count. record (profile_row profile) { nodes = count }) (sym (length-set profile.nodes (id - 1) new)));
      nodes = keeps_set setting world number profile after before (with_reply e before) found has.nodes (λ other apart. refl)
          (λ known. known ∙ rows_set (λ these. these) refl (λ these those. refl) id (λ row apart. refl) setting number profile old new here (λ other apart. ap (λ all. path_among all other) (sym ways))
          (rw (ways, unfinished) refl));
      accepted = one_more_reply world before e has.accepted;
      short = has.short;
    }
