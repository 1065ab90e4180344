-- The frames that sending lines writes (this project's own rule).
use Rattle.std.specs.Prelude.{◌≡◌, ℕ, ◌+◌, List, [], ◌∷◌, length, Option}
use Rattle.std.specs.Io.KnownBytes.{Appends}
use Rattle.std.specs.List.{filter_map, flat_map}
use Rattle.droid_frame.specs.Frames.{frame_bytes}
use Rattle.droid_frame.specs.declared.frame.Frame.{Frame}
use Rattle.droid_lines.specs.declared.parser.VersionedRequest.{VersionedRequest}
use Rattle.droid_client.specs.Cores.{Core, frame_of, next_number}
use Rattle.droid_lines.specs.Lines.{request_value}
use Rattle.droid_lines.specs.Sending.{Sends}

-- the requests of the good lines with their versions, in their order
abbrev pub requests_of : List (List ℕ) → List VersionedRequest
requests_of lines = filter_map request_value lines

-- the frames of a client's requests, with consecutive numbers from this one on
abbrev pub numbered_frames : ℕ → ℕ → List VersionedRequest → List Frame
numbered_frames client number [] = []
numbered_frames client number (asked ∷ requests) =
    frame_of asked.version client number asked.request ∷ numbered_frames client (number + 1) requests

-- The frames of the good lines' requests were written, numbered from the core's next number on, and nothing else. The
-- core's next number is now the one after the last of them.
pub record WritesNumbered (core : Core) (lines : List (List ℕ)) (old_frames new_frames : Option (List ℕ)) (after : Core)
    : Type 0 where
  pub written : Appends old_frames new_frames
      (flat_map frame_bytes (numbered_frames core.client (next_number core) (requests_of lines)))
  pub client : after.client ≡ core.client
  pub next : next_number after ≡ next_number core + length (requests_of lines)

-- this holds for all lines that were sent
abbrev pub FramesAreNumbered : Type 0
FramesAreNumbered =
    (core : Core) (lines : List (List ℕ)) (input left old_frames new_frames old_text new_text : Option (List ℕ))
    (after : Core)
    → Sends core lines input left old_frames new_frames old_text new_text after
    → WritesNumbered core lines old_frames new_frames after
