-- Holdings with one reply more, and with a bare file finished.
use Rattle.std.proofs.Common.{◌≡◌, ℕ, List, [], false, Some, refl, sym, subst, ◌∙◌, slice_get}
use Rattle.std.specs.Prelude.{ℤ}
use Rattle.droid_core.specs.Files.{OpenFiles, open_at}
use Rattle.droid_recovery.proofs.BareAssemblies.{bare_assembly_gone}
use Rattle.droid_recovery.proofs.BareRows.{bare_file_finished}
use Rattle.droid_core.proofs.Assembled.{IsWithout}
use Rattle.droid_core_spec.specs.Files.{as_finished, finding_of}
use Rattle.droid_core_spec.specs.Judging.{world_set, node_set}
use Rattle.droid_core_spec.specs.Setting.{Setting}
use Rattle.droid_core_spec.specs.World.{Content, File, Profile, World, numbered, node_at, world_with}
use Rattle.droid_core.proofs.Made.{one_more_reply}
use Rattle.droid_core.proofs.Soundness.{sound_file_set}
use Rattle.droid_core.specs.Rows.{KeepsWorld, with_finding}
use Rattle.droid_core.specs.HoldingsStanding.{IsIn}
use Rattle.droid_core.specs.declared.holdings.Holdings.{Holdings}
use Rattle.droid_store.specs.Changes.{with_reply}
use Rattle.droid_store.specs.declared.rows.Entry as rows
use Rattle.droid_store.specs.Rows.{Rows}

-- only a reply was kept
pub counted : (setting : Setting) (world : World) (old : Holdings) (store : Rows) (e : rows.Entry) → IsIn setting world old → store ≡ with_reply e old.store
    → IsIn setting (world_with world world.profiles) (record old { store = store })
counted setting world old store e is stored = rw stored (record {
  is_setting = record { limits = is.is_setting.limits; allowed = is.is_setting.allowed; registry = is.is_setting.registry };
  rows = record { profiles = is.rows.profiles; nodes = is.rows.nodes; accepted = one_more_reply world old.store e is.rows.accepted; short = is.rows.short };
  sound = is.sound;
  files = record { each = is.files.each; count = is.files.count };
  room = is.room;
})

-- a bare file was finished by what was found
pub finished : (setting : Setting) (world : World) (old : Holdings) (store : Rows) (files : OpenFiles) (e : rows.Entry) (number : ℕ) (profile : Profile) (id parent : ℕ) (modified : ℤ) (name : List ℕ) (content : Content) (place : ℕ)
    → IsIn setting world old → numbered world.profiles number ≡ Some profile → node_at profile.nodes id ≡ Some (File parent modified name (record content { pieces = [] })) → content.finished ≡ false
    → store ≡ with_reply e (with_finding number id (finding_of setting profile name content) old.store)
    → slice_get old.files.files place ≡ open_at number id old.files.files → IsWithout place old.files files
    → IsIn setting (world_set world number (node_set profile id (File parent modified name (as_finished content)))) (record old { store = store; files = files })
finished setting world old store files e number profile id parent modified name content place is there at unfinished stored at_place removed =
    let after = world_set world number (node_set profile id (File parent modified name (as_finished content))) in
    record {
      is_setting = record { limits = is.is_setting.limits; allowed = is.is_setting.allowed; registry = is.is_setting.registry };
      rows = subst (KeepsWorld setting after) (sym stored) (bare_file_finished setting world old.store e number profile id parent modified name content is.rows there at unfinished);
      sound = sound_file_set world number profile id parent modified name (record content { pieces = [] }) is.sound there at (as_finished content) refl refl;
      files = bare_assembly_gone world number profile id parent modified name content old.files files place is.files there at unfinished at_place removed;
      room = removed.limit ∙ is.room;
    }
