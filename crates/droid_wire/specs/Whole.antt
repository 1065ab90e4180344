-- Serving all of a stream: as many of its first frames are answered as there are turns, or all if there are fewer.
use Rattle.std.specs.Prelude.{◌≡◌, ℕ, nat_lt, if◌then◌else◌, List, length, take, Option, Result, Ok, Err}
use Rattle.std.specs.Io.KnownBytes.{Appends}
use Rattle.droid_frame.specs.Streams.{Frames, why}
use Rattle.droid_frame.specs.declared.streams.arrival.Arrival.{Arrival}
use Rattle.droid_frame.specs.declared.streams.fault.FrameFault.{FrameFault}
use Rattle.droid_frame.specs.declared.streams.fault.FrameFault.TheVariants.{Truncated, BadVersion, TooLong, Memory}
use Rattle.droid_frame.specs.declared.streams.fault.FrameFault.TheVariants.{Read}
use Rattle.droid_frame.specs.declared.frame.Frame.{Frame}
use Rattle.droid_frame.specs.declared.reply.Reply.{Reply}
use Rattle.droid_core.specs.Running.{Runs}
use Rattle.droid_core.specs.declared.service.Service.{Service}
use Rattle.droid_core_spec.specs.Histories.{History}
use Rattle.droid_core_spec.specs.Setting.{Setting}
use Rattle.droid_wire.specs.declared.stream_end.Ended.{Ended}
use Rattle.droid_wire.specs.declared.stream_end.Ended.TheVariants.{Closed, Turns}
use Rattle.droid_wire.specs.declared.serve_fault.ServeFault.{ServeFault}
use Rattle.droid_wire.specs.declared.serve_fault.ServeFault.TheVariants as faults
use Rattle.droid_core_spec.specs.Written.{reply_frames}
use Rattle.droid_wire.specs.Serving.{Outcome}

-- how serving ends where all frames were answered, by the reason why no frame follows
abbrev pub last_end : Result Arrival FrameFault → Result Ended ServeFault
last_end (Ok arrival) = Ok Closed
last_end (Err fault) = Err (faults.Frame fault)

-- how serving ends on a stream of these frames and this rest, with at most `turns` frames answered
abbrev pub end_of : ℕ → List Frame → List ℕ → Result Ended ServeFault
end_of turns frames rest = if nat_lt (length frames) turns then last_end (why rest) else Ok Turns

-- the first frames were handled, as many as the turns or all; their reply frames were written; and the result is the
-- end of this stream
pub record ServesWhole (setting : Setting) (history : History) (turns : ℕ) (frames : List Frame) (rest : List ℕ)
    (old new : Option (List ℕ)) (after : Service) (result : Result Ended ServeFault) : Type 0 where
  pub ends : result ≡ end_of turns frames rest
  pub replies : List Reply
  pub runs : Runs setting history (take turns frames) replies after
  pub written : Appends old new (reply_frames (take turns frames) replies)

-- P, unless a stream failed or memory ran out for a frame
abbrev pub UnlessFailed : Result Ended ServeFault → Type 0 → Type 0
UnlessFailed (Ok ended) P = P
UnlessFailed (Err (faults.Frame Truncated)) P = P
UnlessFailed (Err (faults.Frame BadVersion)) P = P
UnlessFailed (Err (faults.Frame TooLong)) P = P
UnlessFailed (Err (faults.Frame Memory)) P = Unit {0}
UnlessFailed (Err (faults.Frame Read)) P = Unit {0}
UnlessFailed (Err (faults.Write written)) P = Unit {0}

-- each outcome of serving implies this for the whole stream
abbrev pub FirstFramesAreAnswered : Type 0
FirstFramesAreAnswered =
    (setting : Setting) (history : History) (turns : ℕ) (input : List ℕ) (left old new : Option (List ℕ))
    (after : Service) (result : Result Ended ServeFault)
    (frames : List Frame) (rest : List ℕ) → Frames input frames rest
    → Outcome setting history turns input left old new after result
    → UnlessFailed result (ServesWhole setting history turns frames rest old new after result)
