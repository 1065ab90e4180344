-- A service with nothing in it stands for the empty history.
use Rattle.std.proofs.Common.{◌≡◌, ℕ, zero, suc, [], None, refl, sym, ap, subst}
use Rattle.droid_core_spec.specs.Histories.{world_of}
use Rattle.droid_core.specs.Identified.{IsOf}
use Rattle.droid_core_spec.specs.Setting.{Setting}
use Rattle.droid_core_spec.specs.World.{Profile, empty_world, numbered}
use Rattle.droid_core.specs.Rows.{KeepsWorld}
use Rattle.droid_core.proofs.Made.{world_empty}
use Rattle.droid_store.specs.Rows.{Rows, no_rows}
use Rattle.droid_core.specs.Files.{OpenFiles, open_at}
use Rattle.droid_core.specs.Assemblies.{HasAssemblies, HasItsAssemblyIn}
use Rattle.droid_core.specs.declared.holdings.Holdings.{Holdings}
use Rattle.droid_core.specs.HoldingsStanding.{limits_given, AreAllowed}
use Rattle.droid_core.specs.Standing.{Stand}

none_numbered : (number : ℕ) → numbered {A = Profile} [] number ≡ None
none_numbered zero = refl
none_numbered (suc place) = refl

no_assembly : (files : OpenFiles) → files.files ≡ [] → (number id : ℕ) → HasItsAssemblyIn (numbered [] number) id (open_at number id files.files)
no_assembly files empty number id = rw (none_numbered number) (ap (open_at number id) empty)

no_assemblies : (files : OpenFiles) → files.files ≡ [] → HasAssemblies empty_world files
no_assemblies files empty = record { each = no_assembly files empty; count = rw empty refl }

pub starts : (setting : Setting) (service : Holdings) → setting.limits ≡ limits_given service.limits → AreAllowed (limits_given service.limits) → IsOf (service.registry) setting
    → service.store ≡ no_rows → service.files.files ≡ [] → service.files.limit ≡ setting.limits.unfinished → Stand setting service []
unfolding world_of
starts setting service limits allowed registry rows files room = record {
  legal = tt;
  replies = record { replies = ap (λ (all : Rows). all.replies) rows; spelled = tt };
  world = record {
    is_setting = record { limits = limits; allowed = rw limits allowed; registry = registry };
    rows = subst (KeepsWorld setting empty_world) (sym rows) (world_empty setting);
    sound = tt;
    files = no_assemblies service.files files;
    room = room;
  };
}
