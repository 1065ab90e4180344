-- A fresh service: its registry and limits, and why none is made.
use Rattle.std.specs.Prelude.{◌≡◌, ℕ, List, [], Option, IfSome, Ok}
use Rattle.droid_core.specs.Standing.{StandsFor, limits_of, registry_of}
use Rattle.droid_core.specs.declared.service.Service.{Service}
use Rattle.droid_cmd_serve.specs.Endings.{IsFaultOf, IsProgramSetting, program_limits}
use Rattle.droid_cmd_serve.specs.declared.exit.Ending.{Ending}
use Rattle.droid_cmd_serve.specs.declared.exit.Ending.TheVariants.{Done, Registry, NoService, Script, Stream, Send}
use Rattle.droid_cmd_serve.specs.declared.exit.Ending.TheVariants.{Socket, Journal, BadLine}
use Rattle.droid_core_spec.specs.Setting.{Setting}
use Rattle.droid_pronom.specs.Registry.{Contents}
use Rattle.droid_pronom.specs.RegistryFile.{File}

-- the service is empty, has the program's limits, and identifies files by this registry
pub record IsMadeWith (registry : Contents) (service : Service) : Type 0 where
  pub stands : (setting : Setting) → IsProgramSetting registry setting → StandsFor setting service []
  pub limits : limits_of service ≡ program_limits
  pub same_registry : registry_of service ≡ registry

-- a service is made with some registry
abbrev pub IsMade : Service → Type 0
IsMade service = (registry : Contents) × IsMadeWith registry service

-- the file gives a registry, if its bytes are known, and the service is made with it
pub record IsMadeOf (file : Option (List ℕ)) (service : Service) : Type 0 where
  pub registry : Contents
  pub is_read : IfSome file (λ bytes. File bytes (Ok registry))
  pub made : IsMadeWith registry service

-- no service could be made
abbrev pub IsNoService : Ending → Type 0
IsNoService (NoService fault) = Unit {0}
IsNoService (Registry fault) = ⊥
IsNoService (Script fault) = ⊥
IsNoService (Stream fault) = ⊥
IsNoService (Send fault) = ⊥
IsNoService Socket = ⊥
IsNoService (Journal fault) = ⊥
IsNoService BadLine = ⊥
IsNoService Done = ⊥

-- the file gives this fault; or it gives a registry, and no service could be made with it
abbrev pub IsNotMadeOf : Option (List ℕ) → Ending → Type 0
IsNotMadeOf file (Registry fault) = IsFaultOf file fault
IsNotMadeOf file ending = IsNoService ending × (registry : Contents) × IfSome file (λ bytes. File bytes (Ok registry))

-- no registry could be read, or no service be made
abbrev pub IsUnmade : Ending → Type 0
IsUnmade (Registry fault) = Unit {0}
IsUnmade ending = IsNoService ending
