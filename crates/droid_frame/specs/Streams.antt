-- The frames of a stream, and the way a stream ends (this project's own).
use Rattle.std.specs.Prelude.{◌≡◌, ℕ, ◌<◌, ◌≤◌, ◌^◌, ◌==◌, nat_lt, if◌then◌else◌, List, ◌++◌, length, take, drop}
use Rattle.std.specs.Prelude.{slice_index, Result, Ok, Err}
use Rattle.std.specs.Int.{w32, from_be_bytes}
use Rattle.std.specs.List.{AllByRecursion, flat_map}
use Rattle.droid_frame.specs.declared.frame.Frame.{Frame}
use Rattle.droid_frame.specs.Limits.{body_limit}
use Rattle.droid_frame.specs.declared.streams.arrival.Arrival.{Arrival}
use Rattle.droid_frame.specs.declared.streams.arrival.Arrival.TheVariants.{End}
use Rattle.droid_frame.specs.declared.streams.fault.FrameFault.{FrameFault}
use Rattle.droid_frame.specs.declared.streams.fault.FrameFault.TheVariants.{Truncated, BadVersion, TooLong}
use Rattle.droid_frame.specs.Fields.{IsBytes, IsU32}
use Rattle.droid_frame.specs.Frames.{frame_bytes}
use Rattle.droid_frame.specs.Versions.{IsVersion, is_version}

-- each field is in its range, and the body is within the limit of the frame's version
pub record IsFrame (frame : Frame) : Type 0 where
  pub version_fits : frame.version < 2 ^ 8
  pub kind_fits : frame.kind < 2 ^ 8
  pub client_fits : IsU32 frame.client
  pub number_fits : frame.number < 2 ^ 64
  pub body_fits : length frame.body ≤ body_limit frame.version
  pub body_is_bytes : IsBytes frame.body

-- a stream can carry the frame: its version is 1 or 2
pub record IsReadable (frame : Frame) : Type 0 where
  pub is_frame : IsFrame frame
  pub version_is : IsVersion frame.version

-- the bytes do not begin with the spelling of a readable frame
abbrev pub BeginsNoFrame : List ℕ → Type 0
BeginsNoFrame bytes = (frame : Frame) (rest : List ℕ) → IsReadable frame → bytes ≡ frame_bytes frame ++ rest → ⊥

-- the stream is the spellings of these frames, one after the other, and then a rest that begins with no frame
pub record Frames (stream : List ℕ) (frames : List Frame) (rest : List ℕ) : Type 0 where
  pub readable : AllByRecursion IsReadable frames
  pub joined : stream ≡ flat_map frame_bytes frames ++ rest
  pub none_more : BeginsNoFrame rest

-- the length of a header in bytes: version 1, kind 1, client 4, number 8, length of the body 4
abbrev pub header_size : ℕ
header_size = 18

-- the version in a header: its first byte
abbrev pub version_in : List ℕ → ℕ
version_in bytes = slice_index bytes 0

-- the length of the body in a header: its last four bytes
abbrev pub length_in : List ℕ → ℕ
length_in bytes = from_be_bytes w32 (take 4 (drop 14 bytes))

-- the result for a rest that begins with no frame: the end if it is empty; `Truncated` if it is shorter than a header;
-- `BadVersion` if its version is neither 1 nor 2; `TooLong` if it announces too long a body; otherwise `Truncated`
unfoldable pub why : List ℕ → Result Arrival FrameFault
why rest =
    if length rest == 0 then Ok End
    else if nat_lt (length rest) header_size then Err Truncated
    else if is_version (version_in rest)
    then (if nat_lt (body_limit (version_in rest)) (length_in rest) then Err TooLong else Err Truncated)
    else Err BadVersion
