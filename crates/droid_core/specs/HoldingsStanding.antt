-- Which world the holdings of a service are in.
use Rattle.std.specs.Prelude.{◌≡◌, ◌≤◌}
use Rattle.droid_core.specs.Identified.{IsOf}
use Rattle.droid_core_spec.specs.Limits.{Limits}
use Rattle.droid_core_spec.specs.Setting.{Setting}
use Rattle.droid_core_spec.specs.World.{World}
use Rattle.droid_core.specs.Rows.{KeepsWorld}
use Rattle.droid_core.specs.Sound.{IsSoundWorld}
use Rattle.droid_core.specs.Assemblies.{HasAssemblies}
use Rattle.droid_core.specs.declared.limits.Limits as given
use Rattle.droid_core.specs.declared.holdings.Holdings.{Holdings}

-- the limits of the code as those of the definitions
abbrev pub limits_given : given.Limits → Limits
limits_given limits = record { profiles = limits.profiles; nodes = limits.nodes; unfinished = limits.unfinished }

-- no service has larger limits
pub record AreAllowed (limits : Limits) : Type 0 where
  pub profiles : limits.profiles ≤ 64
  pub nodes : limits.nodes ≤ 100000
  pub unfinished : limits.unfinished ≤ 64

-- the setting is that of the limits and the registry of the holdings
pub record IsSettingOf (setting : Setting) (holdings : Holdings) : Type 0 where
  pub limits : setting.limits ≡ limits_given holdings.limits
  pub allowed : AreAllowed setting.limits
  pub registry : IsOf holdings.registry setting

-- the holdings are in this world: their rows and their assemblies are the world's
pub record IsIn (setting : Setting) (world : World) (holdings : Holdings) : Type 0 where
  pub is_setting : IsSettingOf setting holdings
  pub rows : KeepsWorld setting world holdings.store
  pub sound : IsSoundWorld world
  pub files : HasAssemblies world holdings.files
  pub room : holdings.files.limit ≡ setting.limits.unfinished
