-- Laws of the frames of a stream.
use Rattle.std.specs.Prelude.{◌≡◌, ℕ, List, ◌++◌}
use Rattle.droid_frame.specs.declared.frame.Frame.{Frame}
use Rattle.droid_frame.specs.Fields.{IsBytes}
use Rattle.droid_frame.specs.Frames.{frame_bytes}
use Rattle.droid_frame.specs.Streams.{IsFrame, Frames}

-- if one input begins with the spellings of two frames, the frames are equal, and so are the bytes after them
abbrev pub OneFrameAtTheFront : Type 0
OneFrameAtTheFront =
    (first second : Frame) (rest more : List ℕ) → IsFrame first → IsFrame second
    → frame_bytes first ++ rest ≡ frame_bytes second ++ more → (first ≡ second) × (rest ≡ more)

-- the stream has frames and a rest
pub record HasFrames (stream : List ℕ) : Type 0 where
  pub frames : List Frame
  pub rest : List ℕ
  pub reads : Frames stream frames rest

-- every stream has frames and a rest
abbrev pub EachStreamHasFrames : Type 0
EachStreamHasFrames = (stream : List ℕ) → IsBytes stream → HasFrames stream

-- no stream has two different lists of frames, or two different rests
abbrev pub NoStreamHasOthers : Type 0
NoStreamHasOthers =
    (stream : List ℕ) (first second : List Frame) (rest more : List ℕ) → Frames stream first rest
    → Frames stream second more
    → (first ≡ second) × (rest ≡ more)
