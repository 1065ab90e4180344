-- How answering a stream of frames ends.
use Rattle.std.specs.Prelude.{◌≡◌, ◌≢◌, ℕ, List, Option, None}
use Rattle.droid_frame.specs.declared.io.stream_record.Seen.{Seen}
use Rattle.droid_core.specs.Standing.{StandsFor}
use Rattle.droid_core.specs.declared.service.Service.{Service}
use Rattle.droid_cmd_serve.specs.JournalEndings.{stream_journal_ending_of}
use Rattle.droid_cmd_serve.specs.declared.exit.Ending.{Ending}
use Rattle.droid_core_spec.specs.Histories.{History}
use Rattle.droid_core_spec.specs.Setting.{Setting}
use Rattle.droid_turns.specs.declared.pipe.Pipe.{Pipe}
use Rattle.droid_turns.specs.declared.service_end.Served.{Served}
use Rattle.droid_turns.specs.declared.service_end.Served.TheVariants as ways
use Rattle.droid_wire.specs.ManyConnections.{AnswersService, AnswersStream}

-- The frames of a stream were answered, by one service that goes on from whatever history it stood for; and the program
-- ends by how that ended.
pub record EndsAnswering {R W : Type 0} (remaining : R → Option (List ℕ)) (contents : W → Option (List ℕ))
    (was_read : R → Seen) (was_written : W → Seen) (room : W → Option ℕ) (pipe later : Pipe R W)
    (before after : Service) (ending : Ending) : Type 0 where
  pub served : Served
  pub ends : ending ≡ stream_journal_ending_of served later.departure None
  pub settled : served ≢ ways.Unsettled
  pub stream : AnswersStream remaining contents was_read was_written room pipe later served
  pub answers : (setting : Setting) (history : History) → StandsFor setting before history
      → AnswersService remaining contents was_read was_written room setting history pipe later after served
