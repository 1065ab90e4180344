-- The outcome of serving many connections by one service (this project's own).
use Rattle.std.specs.Prelude.{ℕ, List, [], ◌∷◌, Option, map}
use Rattle.std.specs.List.{flat_map}
use Rattle.droid_frame.specs.declared.frame.Frame.{Frame}
use Rattle.droid_frame.specs.declared.reply.Reply.{Reply}
use Rattle.droid_core_spec.specs.Histories.{History}
use Rattle.droid_core.specs.Running.{Runs}
use Rattle.droid_core_spec.specs.Setting.{Setting}
use Rattle.droid_core.specs.declared.service.Service.{Service}
use Rattle.droid_turns.specs.Chains.{GoesOver}
use Rattle.droid_turns.specs.Events.{Event}
use Rattle.droid_turns.specs.Pipes.{AnswersOne, PipeDoes}
use Rattle.droid_turns.specs.Turns.{ServesAll}
use Rattle.droid_turns.specs.Steps.{Handles, Happens, Settles, Step, all_handled}
use Rattle.droid_frame.specs.declared.io.stream_record.Seen.{Seen}
use Rattle.droid_turns.specs.declared.pipe.Pipe.{Pipe}
use Rattle.droid_turns.specs.declared.rules.Rules.{Rules}
use Rattle.droid_turns.specs.declared.service_end.Served.{Served}

-- the frames of all connections that were handled, in order
abbrev pub frames_of : List Step → List Frame
frames_of steps = map (λ (one : Frame × Reply). one.0) (all_handled steps)

-- their replies, in the same order
abbrev pub replies_of : List Step → List Reply
replies_of steps = map (λ (one : Frame × Reply). one.1) (all_handled steps)

-- the event, where the step is one
abbrev pub event_of : Step → List Event
event_of (Happens event) = event ∷ []
event_of (Handles id frame reply) = []
event_of (Settles done) = []

-- the events among the steps, in order
abbrev pub events_of : List Step → List Event
events_of steps = flat_map event_of steps

-- Steps were done. They are those of a loop that serves each connection well; the service handled all frames among
-- them, one after another, and stands for the history after them.
pub record ServesMany {C : Type 0} (does : C → Event → C → Type 0) (rules : Rules) (setting : Setting)
    (history : History) (connections later : C) (after : Service) (result : Served) : Type 0 where
  pub steps : List Step
  pub done : GoesOver does connections (events_of steps) later
  pub serves : ServesAll rules result steps
  pub runs : Runs setting history (frames_of steps) (replies_of steps) after

-- The same of one connection over a reader and a writer.
pub record AnswersService {R W : Type 0} (remaining : R → Option (List ℕ)) (contents : W → Option (List ℕ))
    (was_read : R → Seen) (was_written : W → Seen) (room : W → Option ℕ) (setting : Setting) (history : History)
    (pipe later : Pipe R W) (after : Service) (result : Served) : Type 0 where
  pub steps : List Step
  pub done : GoesOver (PipeDoes remaining contents was_read was_written room) pipe (events_of steps) later
  pub one : AnswersOne (remaining pipe.reader) (remaining later.reader) (contents pipe.writer) (contents later.writer)
      pipe.departure later.departure result steps
  pub runs : Runs setting history (frames_of steps) (replies_of steps) after

-- the same, whatever is known of the service
pub record AnswersStream {R W : Type 0} (remaining : R → Option (List ℕ)) (contents : W → Option (List ℕ))
    (was_read : R → Seen) (was_written : W → Seen) (room : W → Option ℕ) (pipe later : Pipe R W) (result : Served)
    : Type 0 where
  pub steps : List Step
  pub done : GoesOver (PipeDoes remaining contents was_read was_written room) pipe (events_of steps) later
  pub one : AnswersOne (remaining pipe.reader) (remaining later.reader) (contents pipe.writer) (contents later.writer)
      pipe.departure later.departure result steps

-- the same, of connections of which nothing is known
pub record ServesSome (rules : Rules) (setting : Setting) (history : History) (after : Service) (result : Served)
    : Type 0 where
  pub steps : List Step
  pub serves : ServesAll rules result steps
  pub runs : Runs setting history (frames_of steps) (replies_of steps) after
