-- Holdings with nothing in them are in the empty world.
use Rattle.std.proofs.Common.{◌≡◌, ℕ, zero, suc, [], None, refl, ap, subst, sym}
use Rattle.droid_recovery.specs.BareWorlds.{Bare}
use Rattle.droid_core.specs.Files.{OpenFiles, open_at}
use Rattle.droid_recovery.specs.Recovering.{Recovers}
use Rattle.droid_core_spec.specs.Histories.{world_of}
use Rattle.droid_core_spec.specs.Setting.{Setting}
use Rattle.droid_core_spec.specs.World.{Profile, empty_world, numbered}
use Rattle.droid_core.proofs.Made.{world_empty}
use Rattle.droid_core.specs.Assemblies.{HasAssemblies, HasItsAssemblyIn}
use Rattle.droid_core.specs.Rows.{KeepsWorld}
use Rattle.droid_core.specs.HoldingsStanding.{IsSettingOf}
use Rattle.droid_core.specs.declared.holdings.Holdings.{Holdings}
use Rattle.droid_store.specs.Rows.{Rows, no_rows}

none_numbered : (number : ℕ) → numbered {A = Profile} [] number ≡ None
none_numbered zero = refl
none_numbered (suc place) = refl

no_assembly : (files : OpenFiles) → files.files ≡ [] → (number id : ℕ) → HasItsAssemblyIn (numbered [] number) id (open_at number id files.files)
no_assembly files empty number id = rw (none_numbered number) (ap (open_at number id) empty)

no_assemblies : (files : OpenFiles) → files.files ≡ [] → HasAssemblies empty_world files
no_assemblies files empty = record { each = no_assembly files empty; count = rw empty refl }

pub starts : (setting : Setting) (bare : Bare) (holdings : Holdings) → IsSettingOf setting holdings → holdings.store ≡ no_rows → holdings.files.files ≡ [] → holdings.files.limit ≡ setting.limits.unfinished → Recovers setting bare holdings []
unfolding world_of
starts setting bare holdings is rows files room = record {
  legal = tt;
  replies = record { replies = ap (λ (all : Rows). all.replies) rows; spelled = tt };
  world = record {
    is_setting = is;
    rows = subst (KeepsWorld setting empty_world) (sym rows) (world_empty setting);
    sound = tt;
    files = no_assemblies holdings.files files;
    room = room;
  };
}
