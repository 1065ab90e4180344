-- The outcome of serving a stream: which of its frames were handled, and what was written (this project's own rule).
use Rattle.std.specs.Prelude.{◌≡◌, ℕ, ◌<◌, ◌≤◌, List, [], ◌∷◌, ◌++◌, length, take, Option, Some, Result, Ok, Err}
use Rattle.std.specs.Io.KnownBytes.{Appends}
use Rattle.std.specs.List.{AllByRecursion, flat_map}
use Rattle.droid_frame.specs.StreamReads.{ImpliedBy, ReadsNoFrame}
use Rattle.droid_frame.specs.Streams.{IsReadable}
use Rattle.droid_frame.specs.Frames.{frame_bytes}
use Rattle.droid_frame.specs.declared.frame.Frame.{Frame}
use Rattle.droid_frame.specs.declared.reply.Reply.{Reply}
use Rattle.droid_core.specs.Running.{Runs}
use Rattle.droid_core.specs.declared.service.Service.{Service}
use Rattle.droid_core_spec.specs.Histories.{History}
use Rattle.droid_core_spec.specs.Setting.{Setting}
use Rattle.droid_core_spec.specs.Written.{reply_frames}
use Rattle.droid_wire.specs.declared.stream_end.Ended.{Ended}
use Rattle.droid_wire.specs.declared.stream_end.Ended.TheVariants.{Closed, Turns}
use Rattle.droid_wire.specs.declared.serve_fault.ServeFault.{ServeFault}
use Rattle.droid_wire.specs.declared.serve_fault.ServeFault.TheVariants as faults

-- these frames were read from the front of the input, which leaves `rest`, and were handled one after another, with
-- these replies
pub record Handled (setting : Setting) (history : History) (input rest : List ℕ) (frames : List Frame)
    (replies : List Reply) (after : Service) : Type 0 where
  pub readable : AllByRecursion IsReadable frames
  pub joined : input ≡ flat_map frame_bytes frames ++ rest
  pub runs : Runs setting history frames replies after

-- frames were handled, and all their reply frames were written; P holds for the number of frames and the rest of the
-- input
pub record Serves (setting : Setting) (history : History) (input : List ℕ) (old new : Option (List ℕ)) (after : Service)
    (P : ℕ → List ℕ → Type 0) : Type 0 where
  pub frames : List Frame
  pub replies : List Reply
  pub rest : List ℕ
  pub handled : Handled setting history input rest frames replies after
  pub written : Appends old new (reply_frames frames replies)
  pub ends : P (length frames) rest

-- frames were handled, and exactly the first `count` bytes of their reply frames were written: all frames but the last,
-- and of the last one not all
pub record ServesCut (setting : Setting) (history : History) (turns : ℕ) (input : List ℕ)
    (left old new : Option (List ℕ)) (after : Service) (count : ℕ) : Type 0 where
  pub frames : List Frame
  pub replies : List Reply
  pub last_frame : Frame
  pub last_reply : Reply
  pub rest : List ℕ
  pub handled : Handled setting history input rest (frames ++ last_frame ∷ []) (replies ++ last_reply ∷ []) after
  pub within : length frames < turns
  pub is_left : left ≡ Some rest
  pub others : length (reply_frames frames replies) ≤ count
  pub short : count < length (reply_frames (frames ++ last_frame ∷ []) (replies ++ last_reply ∷ []))
  pub written : Appends old new (take count (reply_frames (frames ++ last_frame ∷ []) (replies ++ last_reply ∷ [])))

-- The outcome of serving `turns` frames of an input, which leaves `left` of it. Turns: that many frames were answered.
-- Closed: fewer were, and nothing is left. A frame's fault: fewer were answered, and the rest begins with no frame for
-- this reason, or could not be read. A write fault: a reply could not be written.
abbrev pub Outcome : Setting → History → ℕ → List ℕ → Option (List ℕ) → Option (List ℕ) → Option (List ℕ) → Service
    → Result Ended ServeFault → Type 0
Outcome setting history turns input left old new after (Ok Turns) =
    Serves setting history input old new after (λ count rest. (count ≡ turns) × (left ≡ Some rest))
Outcome setting history turns input left old new after (Ok Closed) =
    Serves setting history input old new after (λ count rest. (count < turns) × (rest ≡ []) × (left ≡ Some []))
Outcome setting history turns input left old new after (Err (faults.Frame fault)) =
    Serves setting history input old new after (λ count rest.
    (count < turns) × ImpliedBy fault rest × ReadsNoFrame (Some rest) left)
Outcome setting history turns input left old new after (Err (faults.Write written)) =
    ServesCut setting history turns input left old new after written

-- at most `most` more requests were handled, in order and each with one reply; the service stands for the history after
-- them, except for those that it refused because memory ran out
pub record GoesOnFrom (setting : Setting) (history : History) (most : ℕ) (service : Service) : Type 0 where
  pub requests : List Frame
  pub replies : List Reply
  pub within : length requests ≤ most
  pub runs : Runs setting history requests replies service
