-- The ending by the table of faults where a registry could not be read (this project's own).
use Rattle.std.specs.Prelude.{ℕ, List, Option, Some, None, codes}
use Rattle.std.specs.declared.io.ErrorKind.{ErrorKind}
use Rattle.std.specs.declared.io.ErrorKind.TheVariants as kinds
use Rattle.droid_arguments.specs.declared.source.RegistrySource.TheVariants as sources
use Rattle.droid_pronom.specs.declared.registry.fault.RegistryFault.{RegistryFault}
use Rattle.droid_pronom.specs.declared.registry.fault.RegistryFault.TheVariants as registries
use Rattle.droid_terminal.specs.Endings.{Told, by, detailed, numbered, of_path}
use Rattle.droid_terminal.specs.FaultTable as table
use Rattle.droid_cmd_serve.specs.declared.command_end.Used.{Used}
use Rattle.droid_cmd_serve.specs.declared.command_end.Used.TheVariants as uses

-- what a sentence calls the registry
abbrev pub registry_of : Used → List ℕ
registry_of (uses.Registry (sources.File path)) = path.now
registry_of other = codes "the built-in registry"

-- where its file could not be opened, or without a cause not be read
abbrev pub told_unread : List ℕ → Option ErrorKind → Told
told_unread name None = by table.reading_failed (of_path name)
told_unread name (Some kinds.NotFound) = by table.registry_missing (of_path name)
told_unread name (Some kinds.NotADirectory) = by table.registry_missing (of_path name)
told_unread name (Some kinds.PermissionDenied) = by table.registry_denied (of_path name)
told_unread name (Some kinds.IsADirectory) = by table.registry_is_a_folder (of_path name)
told_unread name (Some kind) = detailed table.registry_unopened (of_path name) None

-- how the command ends whose registry could not be read
abbrev pub told_registry : RegistryFault → List ℕ → Option ErrorKind → Told
told_registry registries.TooLong name cause = by table.registry_long (of_path name)
told_registry registries.Read name cause = told_unread name cause
told_registry registries.Memory name cause = by table.registry_memory (of_path name)
told_registry (registries.NotUtf8 number) name cause = numbered table.not_utf8 (of_path name) number
told_registry (registries.BadRecord number) name cause = numbered table.bad_record (of_path name) number
told_registry (registries.BadPattern number) name cause = numbered table.bad_pattern (of_path name) number
told_registry (registries.UnknownPuid number) name cause = numbered table.unknown_puid (of_path name) number
told_registry (registries.DuplicatePuid number) name cause = numbered table.duplicate_puid (of_path name) number
told_registry (registries.TooMany number) name cause = numbered table.too_many_of_a_kind (of_path name) number
