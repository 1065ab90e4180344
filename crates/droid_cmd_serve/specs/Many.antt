-- How `serve` by a service that keeps everything in memory ends.
use Rattle.std.specs.Prelude.{◌≡◌, ◌≢◌, ℕ, ◌*◌, [], Option, None, Some}
use Rattle.std.specs.declared.io.ErrorKind.{ErrorKind}
use Rattle.droid_arguments.specs.declared.connection_options.ServeOptions.{ServeOptions}
use Rattle.droid_cmd_serve.specs.Endings.{IsProgramSetting, program_limits}
use Rattle.droid_cmd_serve.specs.declared.exit.Ending.{Ending}
use Rattle.droid_cmd_serve.specs.declared.exit.Ending.TheVariants.{Done, Registry, NoService, Script, Stream, Send}
use Rattle.droid_cmd_serve.specs.declared.exit.Ending.TheVariants.{Socket, Journal, BadLine}
use Rattle.droid_frame.specs.declared.streams.fault.FrameFault.TheVariants as frame_faults
use Rattle.droid_pronom.specs.Registry.{Contents}
use Rattle.droid_turns.specs.Events.{Event}
use Rattle.droid_core_spec.specs.Histories.{History}
use Rattle.droid_wire.specs.ManyConnections.{ServesMany, ServesSome}
use Rattle.droid_core_spec.specs.Setting.{Setting}
use Rattle.droid_core.specs.Standing.{StandsFor, limits_of, registry_of}
use Rattle.droid_core.specs.declared.service.Service.{Service}
use Rattle.droid_wire.specs.declared.serve_fault.ServeFault.TheVariants as serve_faults
use Rattle.droid_turns.specs.declared.rules.Rules.{Rules}
use Rattle.droid_turns.specs.declared.service_end.Served.{Served}
use Rattle.droid_turns.specs.declared.service_end.Served.TheVariants as ways

-- how long a connection may be idle, in milliseconds; without a limit for ever
abbrev pub idle_named : Option ℕ → ℕ
idle_named None = 18446744073709551615
idle_named (Some seconds) = seconds * 1000

-- the rules that the options name
abbrev pub rules_named : ServeOptions → Rules
rules_named options = record { seats = options.seats; total = options.connections; idle = idle_named options.idle }

-- how the end of serving, without a journal, ends the program
abbrev pub many_ending_of : Served → Ending
many_ending_of ways.All = Done
many_ending_of ways.Stopped = Socket
many_ending_of ways.Memory = Stream (serve_faults.Frame frame_faults.Memory)
many_ending_of ways.Unsettled = Socket

-- Connections were served by these rules, by one service that goes on from whatever history it stood for; and the
-- program ends by how that ended.
pub record EndsServing {C : Type 0} (does : C → Event → C → Type 0) (rules : Rules) (connections later : C)
    (before after : Service) (ending : Ending) : Type 0 where
  pub served : Served
  pub ends : ending ≡ many_ending_of served
  pub settled : served ≢ ways.Unsettled
  pub serves : (setting : Setting) (history : History) → StandsFor setting before history
      → ServesMany does rules setting history connections later after served

-- a fresh service with the program's limits served connections by these rules, and kept its registry
pub record ServesFresh (rules : Rules) (served : Served) : Type 0 where
  pub registry : Contents
  pub after : Service
  pub serves : (setting : Setting) → IsProgramSetting registry setting → ServesSome rules setting [] after served
  pub limits : limits_of after ≡ program_limits
  pub same_registry : registry_of after ≡ registry

-- What the command's ending says, with the cause that the system gave. Connections were served; or nobody was, since
-- the registry could not be read, no service be made, the port not be used, or `listening` not be printed.
abbrev pub ManyEndsAs : Rules → Ending → Option ErrorKind → Type 0
ManyEndsAs rules Done cause = ServesFresh rules ways.All
ManyEndsAs rules Socket None = ServesFresh rules ways.Stopped
ManyEndsAs rules Socket (Some kind) = Unit {0}
ManyEndsAs rules (Stream (serve_faults.Write written)) cause = written ≡ 0
ManyEndsAs rules (Stream (serve_faults.Frame frame_faults.Memory)) cause = ServesFresh rules ways.Memory
ManyEndsAs rules (Stream (serve_faults.Frame fault)) cause = ⊥
ManyEndsAs rules (Registry fault) cause = Unit {0}
ManyEndsAs rules (NoService fault) cause = Unit {0}
ManyEndsAs rules (Script fault) cause = ⊥
ManyEndsAs rules (Send fault) cause = ⊥
ManyEndsAs rules (Journal fault) cause = ⊥
ManyEndsAs rules BadLine cause = ⊥
