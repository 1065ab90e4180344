-- For inner clauses and proofs: the outcome of one turn of serving a stream.
use Rattle.std.specs.Prelude.{◌≡◌, ℕ, ◌-◌, ◌<◌, ◌≤◌, List, [], ◌++◌, length, take, Option, Some, None, Result, Ok, Err}
use Rattle.std.specs.Io.KnownBytes.{Appends}
use Rattle.droid_frame.specs.Frames.{frame_bytes}
use Rattle.droid_frame.specs.Replies.{HasReplySpelling}
use Rattle.droid_frame.specs.ReplyFrames.{reply_frame}
use Rattle.droid_frame.specs.StreamReads.{ImpliedBy, ReadsNoFrame}
use Rattle.droid_frame.specs.Streams.{IsReadable}
use Rattle.droid_frame.specs.declared.frame.Frame.{Frame}
use Rattle.droid_frame.specs.declared.reply.Reply.{Reply}
use Rattle.droid_core.specs.Standing.{StandsFor}
use Rattle.droid_core.specs.declared.service.Service.{Service}
use Rattle.droid_core_spec.specs.Histories.{History, Handles}
use Rattle.droid_core_spec.specs.Setting.{Setting}
use Rattle.droid_wire.specs.declared.serve_fault.ServeFault.{ServeFault}
use Rattle.droid_wire.specs.declared.serve_fault.ServeFault.TheVariants as faults

-- a frame was read from the front of the input, which leaves `left`, and was handled
pub record Turn (setting : Setting) (history : History) (input : List ℕ) (left : Option (List ℕ)) (after : Service)
    (frame : Frame) (reply : Reply) : Type 0 where
  pub rest : List ℕ
  pub readable : IsReadable frame
  pub joined : input ≡ frame_bytes frame ++ rest
  pub is_left : left ≡ Some rest
  pub handles : Handles setting history frame reply (StandsFor setting after)
  pub spelled : HasReplySpelling frame.version reply

-- and its reply frame of `size` bytes was written
pub record Answered (setting : Setting) (history : History) (input : List ℕ) (left old new : Option (List ℕ))
    (after : Service) (size : ℕ) : Type 0 where
  pub frame : Frame
  pub reply : Reply
  pub turn : Turn setting history input left after frame reply
  pub written : Appends old new (reply_frame frame.version frame.client frame.number reply)
  pub size_is : size ≡ length (reply_frame frame.version frame.client frame.number reply)

-- or only the first `size` bytes of it, which are not all
pub record Cut (setting : Setting) (history : History) (input : List ℕ) (left old new : Option (List ℕ))
    (after : Service) (size : ℕ) : Type 0 where
  pub frame : Frame
  pub reply : Reply
  pub turn : Turn setting history input left after frame reply
  pub short : size < length (reply_frame frame.version frame.client frame.number reply)
  pub written : Appends old new (take size (reply_frame frame.version frame.client frame.number reply))

-- nothing was handled or written
pub record Idle (before after : Service) (old new : Option (List ℕ)) : Type 0 where
  pub service : after ≡ before
  pub written : Appends old new []

-- the outcome of one turn, where the turns before wrote `count` bytes
abbrev pub TurnGives : Setting → History → List ℕ → Option (List ℕ) → Option (List ℕ) → Option (List ℕ) → Service
    → Service → ℕ → Result (Option ℕ) ServeFault → Type 0
TurnGives setting history input left old new before after count (Ok (Some size)) =
    Answered setting history input left old new after size
TurnGives setting history input left old new before after count (Ok None) =
    Idle before after old new × (input ≡ []) × (left ≡ Some [])
TurnGives setting history input left old new before after count (Err (faults.Frame fault)) =
    Idle before after old new × ImpliedBy fault input × ReadsNoFrame (Some input) left
TurnGives setting history input left old new before after count (Err (faults.Write written)) =
    (count ≤ written) × Cut setting history input left old new after (written - count)
