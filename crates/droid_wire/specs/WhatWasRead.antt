-- What was handled and written, in terms of the bytes that were read.
use Rattle.std.specs.Prelude.{ℕ, List, take, Option, Some, Result, Ok, Err}
use Rattle.std.specs.Io.KnownBytes.{Appends, Consumes}
use Rattle.droid_frame.specs.Streams.{Frames}
use Rattle.droid_frame.specs.declared.frame.Frame.{Frame}
use Rattle.droid_frame.specs.declared.reply.Reply.{Reply}
use Rattle.droid_core.specs.Running.{Runs}
use Rattle.droid_core.specs.declared.service.Service.{Service}
use Rattle.droid_core_spec.specs.Histories.{History}
use Rattle.droid_core_spec.specs.Setting.{Setting}
use Rattle.droid_wire.specs.declared.stream_end.Ended.{Ended}
use Rattle.droid_wire.specs.declared.serve_fault.ServeFault.{ServeFault}
use Rattle.droid_wire.specs.declared.serve_fault.ServeFault.TheVariants as faults
use Rattle.droid_core_spec.specs.Written.{reply_frames}
use Rattle.droid_wire.specs.Serving.{Outcome}

-- all of these bytes; or, where writing failed, the first `written` of them
abbrev pub sent : Result Ended ServeFault → List ℕ → List ℕ
sent (Ok ended) bytes = bytes
sent (Err (faults.Frame fault)) bytes = bytes
sent (Err (faults.Write written)) bytes = take written bytes

-- the frames of the bytes that were read were handled, and their reply frames were written
pub record ServesRead (setting : Setting) (history : History) (input : List ℕ) (left old new : Option (List ℕ))
    (after : Service) (result : Result Ended ServeFault) : Type 0 where
  pub read : List ℕ
  pub consumed : Consumes (Some input) left read
  pub frames : List Frame
  pub rest : List ℕ
  pub stream : Frames read frames rest
  pub replies : List Reply
  pub runs : Runs setting history frames replies after
  pub written : Appends old new (sent result (reply_frames frames replies))

-- each outcome of serving implies this, also after a fault of a stream or out of memory
abbrev pub ReadFramesAreAnswered : Type 0
ReadFramesAreAnswered =
    (setting : Setting) (history : History) (turns : ℕ) (input : List ℕ) (left old new : Option (List ℕ))
    (after : Service) (result : Result Ended ServeFault)
    → Outcome setting history turns input left old new after result
    → ServesRead setting history input left old new after result
