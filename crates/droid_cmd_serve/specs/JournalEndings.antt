-- How a command whose service has a journal ends.
use Rattle.std.specs.Prelude.{◌≡◌, ℕ, List, Option, None, Some}
use Rattle.std.specs.declared.io.ErrorKind.{ErrorKind}
use Rattle.droid_cmd_serve.specs.declared.exit.Ending.{Ending}
use Rattle.droid_cmd_serve.specs.declared.exit.Ending.TheVariants.{Done, Registry, NoService, Script, Stream, Send}
use Rattle.droid_cmd_serve.specs.declared.exit.Ending.TheVariants.{Socket, Journal, BadLine}
use Rattle.droid_cmd_serve.specs.declared.journal_fault.JournalFault.TheVariants.{Closed}
use Rattle.droid_frame.specs.declared.streams.fault.FrameFault.TheVariants as frame_faults
use Rattle.droid_frame.specs.declared.io.stream_record.Seen.{Seen}
use Rattle.droid_cmd_serve.specs.Many.{ManyEndsAs}
use Rattle.droid_wire.specs.JournalServing.{AnswersJournal, ServesJournal}
use Rattle.droid_wire.specs.declared.journal_handler.JournalHandler.{JournalHandler}
use Rattle.droid_turns.specs.declared.pipe.Pipe.{Pipe}
use Rattle.droid_wire.specs.Standing.{StandsForHistory}
use Rattle.droid_journal.specs.Faults.{MayBeOfWriting}
use Rattle.droid_journal.specs.declared.journal_fault.Fault.{Fault}
use Rattle.droid_journal.specs.declared.journal_fault.Fault.TheVariants as faults
use Rattle.droid_turns.specs.Steps.{Step}
use Rattle.droid_turns.specs.Turns.{ServesAll}
use Rattle.droid_turns.specs.Events.{Event}
use Rattle.droid_core_spec.specs.Histories.{History}
use Rattle.droid_core_spec.specs.Setting.{Setting}
use Rattle.droid_wire.specs.declared.serve_fault.ServeFault.TheVariants as serve_faults
use Rattle.droid_turns.specs.declared.departure.Departure.{Departure}
use Rattle.droid_turns.specs.declared.departure.Departure.TheVariants as departures
use Rattle.droid_turns.specs.declared.rules.Rules.{Rules}
use Rattle.droid_turns.specs.declared.service_end.Served.{Served}
use Rattle.droid_turns.specs.declared.service_end.Served.TheVariants as ways

-- the end of a journal that could not settle
abbrev pub unsettled_ending : Option Fault → Ending
unsettled_ending None = Journal (Closed faults.Write)
unsettled_ending (Some fault) = Journal (Closed fault)

-- how the end of serving ends the program
abbrev pub journal_ending_of : Served → Option Fault → Ending
journal_ending_of ways.All fault = Done
journal_ending_of ways.Stopped fault = Socket
journal_ending_of ways.Memory fault = Stream (serve_faults.Frame frame_faults.Memory)
journal_ending_of ways.Unsettled fault = unsettled_ending fault

-- Connections were served by these rules, by a service that goes on from whatever history it stood for. At each moment
-- all that was handled before a byte was written to any connection is on the disk. The program ends by how serving
-- ended; a fault of the journal is one of writing.
pub record EndsServingJournal {C F : Type 0} (does : C → Event → C → Type 0) (has : F → List ℕ → Type 0)
    (kept : F → List ℕ) (rules : Rules) (connections : C) (before : JournalHandler F) (later : C)
    (after : JournalHandler F) (ending : Ending) : Type 0 where
  pub served : Served
  pub ends : ending ≡ journal_ending_of served after.fault
  pub noted : MayBeOfWriting before.journal.journal.fault → MayBeOfWriting before.fault → MayBeOfWriting after.fault
  pub serves : (setting : Setting) (header : List ℕ) (history : History)
      → StandsForHistory has kept setting header before.journal.journal history history
      → ServesJournal does has kept rules setting header history connections before later after served
  pub whole : (steps : List Step) × ServesAll rules served steps

-- how the end of a stream ends the program, by why its one connection was closed
abbrev pub left_ending_of : Option Departure → Ending
left_ending_of (Some departures.Closed) = Done
left_ending_of (Some departures.Enough) = Done
left_ending_of (Some (departures.Frame fault)) = Stream (serve_faults.Frame fault)
left_ending_of (Some departures.Memory) = Stream (serve_faults.Frame frame_faults.Memory)
left_ending_of _ = Stream (serve_faults.Write 0)

-- how the end of a stream ends the program, by how serving it ended
abbrev pub stream_journal_ending_of : Served → Option Departure → Option Fault → Ending
stream_journal_ending_of ways.All departure fault = left_ending_of departure
stream_journal_ending_of ways.Stopped departure fault = Socket
stream_journal_ending_of ways.Memory departure fault = Stream (serve_faults.Frame frame_faults.Memory)
stream_journal_ending_of ways.Unsettled departure fault = unsettled_ending fault

-- The frames of a stream were answered, by a service that goes on from whatever history it stood for. At each moment
-- all that was handled before a byte of any reply was written is on the disk. The program ends by how answering ended;
-- a fault of the journal is one of writing.
pub record EndsAnsweringJournal {R W F : Type 0} (remaining : R → Option (List ℕ)) (contents : W → Option (List ℕ))
    (was_read : R → Seen) (was_written : W → Seen) (room : W → Option ℕ) (has : F → List ℕ → Type 0) (kept : F → List ℕ)
    (pipe : Pipe R W) (before : JournalHandler F) (later : Pipe R W) (after : JournalHandler F) (ending : Ending)
    : Type 0 where
  pub served : Served
  pub ends : ending ≡ stream_journal_ending_of served later.departure after.fault
  pub noted : MayBeOfWriting before.journal.journal.fault → MayBeOfWriting before.fault → MayBeOfWriting after.fault
  pub answers : (setting : Setting) (header : List ℕ) (history : History)
      → StandsForHistory has kept setting header before.journal.journal history history
      → AnswersJournal remaining contents was_read was_written room has kept setting header history pipe before later
      after served

-- no registry could be read, no service be made, or no journal be opened
abbrev pub IsUnopened : Ending → Type 0
IsUnopened (Registry fault) = Unit {0}
IsUnopened (NoService fault) = Unit {0}
IsUnopened (Journal fault) = Unit {0}
IsUnopened _ = ⊥

-- a stream was answered, or none was: no script ran, nothing was sent, and no line was bad
abbrev pub IsAnsweringEnd : Ending → Type 0
IsAnsweringEnd (Script fault) = ⊥
IsAnsweringEnd (Send fault) = ⊥
IsAnsweringEnd BadLine = ⊥
IsAnsweringEnd Done = Unit {0}
IsAnsweringEnd (Registry fault) = Unit {0}
IsAnsweringEnd (NoService fault) = Unit {0}
IsAnsweringEnd (Stream fault) = Unit {0}
IsAnsweringEnd Socket = Unit {0}
IsAnsweringEnd (Journal fault) = Unit {0}

-- the journal was made smaller; or no registry could be read, no service be made, or the journal not be opened or made
-- smaller
abbrev pub IsCompactionEnd : Ending → Type 0
IsCompactionEnd Done = Unit {0}
IsCompactionEnd ending = IsUnopened ending

-- connections were served so, whatever is known of the file
abbrev pub ServesSteps : Rules → Served → Type 0
ServesSteps rules served = (steps : List Step) × ServesAll rules served steps

-- What the command's ending says, with the cause that the system gave. Connections were served, each reply settled
-- before it was written; or nobody was, since the registry could not be read, no service be made, the journal not be
-- opened, the port not be used, or `listening` not be printed. Where the journal ends the command, it may have been
-- opened and have failed later.
abbrev pub JournalEndsAs : Rules → Ending → Option ErrorKind → Type 0
JournalEndsAs rules Done cause = ServesSteps rules ways.All
JournalEndsAs rules Socket None = ServesSteps rules ways.Stopped
JournalEndsAs rules Socket (Some kind) = Unit {0}
JournalEndsAs rules (Stream (serve_faults.Write written)) cause = written ≡ 0
JournalEndsAs rules (Stream (serve_faults.Frame frame_faults.Memory)) cause = ServesSteps rules ways.Memory
JournalEndsAs rules (Stream (serve_faults.Frame fault)) cause = ⊥
JournalEndsAs rules (Registry fault) cause = Unit {0}
JournalEndsAs rules (NoService fault) cause = Unit {0}
JournalEndsAs rules (Journal fault) cause = Unit {0}
JournalEndsAs rules (Script fault) cause = ⊥
JournalEndsAs rules (Send fault) cause = ⊥
JournalEndsAs rules BadLine cause = ⊥

-- the same, with a journal and without one
abbrev pub ServingEndsAs : {Path : Type 0} → Option Path → Rules → Ending → Option ErrorKind → Type 0
ServingEndsAs None rules ending cause = ManyEndsAs rules ending cause
ServingEndsAs (Some path) rules ending cause = JournalEndsAs rules ending cause
