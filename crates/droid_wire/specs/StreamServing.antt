-- What the loop comes to on one stream, in the terms of `serve` (this project's own).
use Rattle.std.specs.Prelude.{◌≡◌, ℕ, ◌≤◌, List, [], ◌++◌, length, Option, Some, None}
use Rattle.std.specs.Io.KnownBytes.{Appends}
use Rattle.droid_frame.specs.StreamReads.{ImpliedBy}
use Rattle.droid_frame.specs.declared.frame.Frame.{Frame}
use Rattle.droid_frame.specs.declared.io.stream_record.Seen.{Seen}
use Rattle.droid_frame.specs.declared.reply.Reply.{Reply}
use Rattle.droid_frame.specs.declared.streams.fault.FrameFault.{FrameFault}
use Rattle.droid_frame.specs.declared.streams.fault.FrameFault.TheVariants as frame_faults
use Rattle.droid_core.specs.declared.service.Service.{Service}
use Rattle.droid_core_spec.specs.Histories.{History}
use Rattle.droid_core_spec.specs.Setting.{Setting}
use Rattle.droid_core_spec.specs.Written.{reply_frames}
use Rattle.droid_turns.specs.declared.departure.Departure.{Departure}
use Rattle.droid_turns.specs.declared.departure.Departure.TheVariants as departures
use Rattle.droid_turns.specs.declared.pipe.Pipe.{Pipe}
use Rattle.droid_turns.specs.declared.service_end.Served.TheVariants as ways
use Rattle.droid_wire.specs.ManyConnections.{AnswersService}
use Rattle.droid_wire.specs.Serving.{Handled, Serves}

-- the rest of the input is bytes that were read ahead, and then those that are left
abbrev pub IsAhead : List ℕ → List ℕ → Type 0
IsAhead rest left = (ahead : List ℕ) × (rest ≡ ahead ++ left)

-- the rest of the input has this fault: all of it, where the input ended; otherwise the bytes that were read ahead
abbrev pub HasFault : FrameFault → List ℕ → List ℕ → Type 0
HasFault frame_faults.Truncated rest left = ImpliedBy frame_faults.Truncated rest × (left ≡ [])
HasFault fault rest left = (ahead : List ℕ) × (rest ≡ ahead ++ left) × ImpliedBy fault ahead

-- frames were handled, and the first bytes of their reply frames were written
pub record ServesFront (setting : Setting) (history : History) (input : List ℕ) (old new : Option (List ℕ))
    (after : Service) : Type 0 where
  pub frames : List Frame
  pub replies : List Reply
  pub rest : List ℕ
  pub handled : Handled setting history input rest frames replies after
  pub within : length frames ≤ 1000000
  pub sent : List ℕ
  pub unsent : List ℕ
  pub parts : reply_frames frames replies ≡ sent ++ unsent
  pub written : Appends old new sent

-- The outcome of a stream, by why its connection was closed, where `left` of the input is left. As by `serve`: closed,
-- all was answered. Enough: as many frames were answered as of one connection at most. A frame's fault: the rest begins
-- with no frame for this reason, or could not be read. Otherwise a reply could not be written.
abbrev pub StreamServed : Setting → History → List ℕ → List ℕ → Option (List ℕ) → Option (List ℕ) → Service
    → Option Departure → Type 0
StreamServed setting history input left old new after None = ⊥
StreamServed setting history input left old new after (Some departures.Closed) =
    Serves setting history input old new after (λ count rest. (count ≤ 1000000) × (rest ≡ []) × (left ≡ []))
StreamServed setting history input left old new after (Some departures.Enough) =
    Serves setting history input old new after (λ count rest. (count ≡ 1000000) × IsAhead rest left)
StreamServed setting history input left old new after (Some (departures.Frame fault)) =
    Serves setting history input old new after (λ count rest. (count ≤ 1000000) × HasFault fault rest left)
StreamServed setting history input left old new after (Some departures.Memory) =
    ServesFront setting history input old new after
StreamServed setting history input left old new after (Some departures.Write) =
    ServesFront setting history input old new after
StreamServed setting history input left old new after (Some departures.Idle) =
    ServesFront setting history input old new after
StreamServed setting history input left old new after (Some departures.Stopped) =
    ServesFront setting history input old new after
StreamServed setting history input left old new after (Some departures.Unsettled) =
    ServesFront setting history input old new after

-- each stream of known bytes that the loop answers has such an outcome
abbrev pub StreamsAreServed : {R W : Type 0} → (R → Option (List ℕ)) → (W → Option (List ℕ)) → (R → Seen) → (W → Seen)
    → (W → Option ℕ) → Type 0
StreamsAreServed {R} {W} remaining contents was_read was_written room =
    (setting : Setting) (history : History) (pipe later : Pipe R W) (after : Service) (input left : List ℕ)
    → remaining pipe.reader ≡ Some input → remaining later.reader ≡ Some left
    → AnswersService remaining contents was_read was_written room setting history pipe later after ways.All
    → StreamServed setting history input left (contents pipe.writer) (contents later.writer) after later.departure
