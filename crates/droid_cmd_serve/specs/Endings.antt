-- How the program ends (this project's own).
use Rattle.std.specs.Prelude.{◌≡◌, ℕ, ◌<◌, ◌==◌, if◌then◌else◌, List, [], Option, IfSome, Result, Ok, Err}
use Rattle.std.specs.List.{count_by}
use Rattle.std.specs.Io.KnownBytes.{Keeps}
use Rattle.droid_cmd_serve.specs.declared.exit.Ending.{Ending}
use Rattle.droid_cmd_serve.specs.declared.exit.Ending.TheVariants.{Done, Registry, NoService, Script, Stream, Send}
use Rattle.droid_cmd_serve.specs.declared.exit.Ending.TheVariants.{Socket, Journal, BadLine}
use Rattle.droid_script.specs.declared.script_fault.ScriptFault.{ScriptFault}
use Rattle.droid_script.specs.declared.script_fault.ScriptFault.TheVariants.{TooLong, Read, Memory, Write}
use Rattle.droid_core.specs.declared.service.Service.{Service}
use Rattle.droid_core.specs.Identified.{IsOf}
use Rattle.droid_core_spec.specs.Limits.{Limits}
use Rattle.droid_core_spec.specs.Setting.{Setting}
use Rattle.droid_lines.specs.Lines.{lines_of}
use Rattle.droid_lines.specs.declared.tally.Tally.{Tally}
use Rattle.droid_pronom.specs.Registry.{Contents}
use Rattle.droid_pronom.specs.RegistryFile.{File}
use Rattle.droid_pronom.specs.declared.registry.fault.RegistryFault.{RegistryFault}
use Rattle.droid_pronom.specs.declared.registry.fault.RegistryFault.TheVariants as registry_faults
use Rattle.droid_script.specs.Scripts.{RunsAll, RunsFront, IsTooLong, is_bad}

-- all lines were handled
abbrev pub after_lines : Tally → Ending
after_lines tally = if tally.bad == 0 then Done else BadLine

-- how a script's end ends the program
abbrev pub ending_of : Result Tally ScriptFault → Ending
ending_of (Ok tally) = after_lines tally
ending_of (Err fault) = Script fault

-- the limits of the program's service
abbrev pub program_limits : Limits
program_limits = record { profiles = 64; nodes = 100000; unfinished = 64 }

-- the setting has the program's limits, and is of this registry
pub record IsProgramSetting (registry : Contents) (setting : Setting) : Type 0 where
  pub limits : setting.limits ≡ program_limits
  pub is_of : IsOf registry setting

-- all lines ran from the empty history, and a writer's bytes grew by all that they print
abbrev pub PrintsAll : Setting → List ℕ → Option (List ℕ) → Option (List ℕ) → Type 0
PrintsAll setting input old new = (service : Service) × RunsAll setting [] (lines_of input) service old new

-- the first lines ran, and a writer's bytes grew by the first bytes of what they print
abbrev pub PrintsFront : Setting → List ℕ → Option (List ℕ) → Option (List ℕ) → Type 0
PrintsFront setting input old new = (service : Service) × RunsFront setting [] (lines_of input) service old new

-- a script over a fresh service with this setting ends like this: what each ending says of the input and of what was
-- written
abbrev pub EndsAs : Setting → Ending → List ℕ → Option (List ℕ) → Option (List ℕ) → Type 0
EndsAs setting Done input old new = PrintsAll setting input old new × (count_by is_bad (lines_of input) ≡ 0)
EndsAs setting BadLine input old new = PrintsAll setting input old new × (0 < count_by is_bad (lines_of input))
EndsAs setting (Script TooLong) input old new = Keeps old new × IsTooLong input
EndsAs setting (Script Read) input old new = Keeps old new
EndsAs setting (Script Memory) input old new = PrintsFront setting input old new
EndsAs setting (Script Write) input old new = PrintsFront setting input old new
EndsAs setting (NoService fault) input old new = Keeps old new
EndsAs setting (Registry fault) input old new = ⊥
EndsAs setting (Stream fault) input old new = ⊥
EndsAs setting (Send fault) input old new = ⊥
EndsAs setting Socket input old new = ⊥
EndsAs setting (Journal fault) input old new = ⊥

-- a registry file, if its bytes are known, gives this fault, unless memory ran out or the file could not be read
abbrev pub IsFaultOf : Option (List ℕ) → RegistryFault → Type 0
IsFaultOf file registry_faults.Memory = Unit {0}
IsFaultOf file registry_faults.Read = Unit {0}
IsFaultOf file fault = IfSome file (λ bytes. File bytes (Err fault))

-- the file gives this registry, and a script over a fresh service with it ends like this
pub record RunsWith (file : Option (List ℕ)) (ending : Ending) (input old new : Option (List ℕ)) : Type 0 where
  pub registry : Contents
  pub is_read : IfSome file (λ bytes. File bytes (Ok registry))
  pub ends : (setting : Setting) → IsProgramSetting registry setting
      → IfSome input (λ bytes. EndsAs setting ending bytes old new)

-- A registry file is read first. It is at fault, and nothing is written; or a script runs with it. Bytes of a file or
-- of the input that are not known are None.
abbrev pub EndsOver : Option (List ℕ) → Ending → Option (List ℕ) → Option (List ℕ) → Option (List ℕ) → Type 0
EndsOver file (Registry fault) input old new = IsFaultOf file fault × Keeps old new
EndsOver file ending input old new = RunsWith file ending input old new
