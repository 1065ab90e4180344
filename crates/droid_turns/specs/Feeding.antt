-- What a reader of frames takes from a piece, by what it held before (this project's own).
use Rattle.std.specs.Prelude.{◌≡◌, ℕ, ◌≤◌, ◌⊎◌, List, [], ◌++◌, MatchOption, Result, Ok, Err, length, take}
use Rattle.std.specs.Option.{option_to_list}
use Rattle.droid_frame.specs.Frames.{frame_bytes}
use Rattle.droid_frame.specs.StreamReads.{NamesSomeBody}
use Rattle.droid_frame.specs.Streams.{BeginsNoFrame, Frames, IsReadable, why}
use Rattle.droid_frame.specs.declared.streams.fault.FrameFault.{FrameFault}
use Rattle.droid_frame.specs.declared.streams.fault.FrameFault.TheVariants.{Truncated, BadVersion, TooLong, Memory}
use Rattle.droid_frame.specs.declared.streams.fault.FrameFault.TheVariants.{Read}
use Rattle.droid_frame.specs.declared.frame.Frame.{Frame}
use Rattle.droid_turns.specs.declared.feeding.feed_result.Fed.{Fed}

-- the bytes have this fault, and whatever follows them, it stays
pub record IsFaulty (bytes : List ℕ) (fault : FrameFault) : Type 0 where
  pub no_frame : (more : List ℕ) → BeginsNoFrame (bytes ++ more)
  pub reason : (more : List ℕ) → why (bytes ++ more) ≡ Err fault

-- nothing, or bytes at which a stream would be cut within a frame
pub record MayGoOn (bytes : List ℕ) : Type 0 where
  pub no_frame : BeginsNoFrame bytes
  pub between : (bytes ≡ []) ⊎ (why bytes ≡ Err Truncated)

-- the held bytes and those that were taken spell a frame, and nothing is held any more
pub record Brings (old piece new : List ℕ) (taken : ℕ) (frame : Frame) : Type 0 where
  pub readable : IsReadable frame
  pub spelled : old ++ take taken piece ≡ frame_bytes frame
  pub empty : new ≡ []

-- the whole piece was taken, and more bytes are needed
pub record Waits (old piece new : List ℕ) (taken : ℕ) : Type 0 where
  pub all : taken ≡ length piece
  pub held : new ≡ old ++ piece
  pub goes_on : MayGoOn new

-- the held bytes have the fault from now on; they are the first of all that came
pub record Refuses (old piece new : List ℕ) (fault : FrameFault) : Type 0 where
  pub rest : List ℕ
  pub parts : old ++ piece ≡ new ++ rest
  pub faulty : IsFaulty new fault

-- the fault is one of the bytes: of their end, or of a header
abbrev pub IsOfBytes : FrameFault → Type 0
IsOfBytes Truncated = Unit {0}
IsOfBytes BadVersion = Unit {0}
IsOfBytes TooLong = Unit {0}
IsOfBytes Memory = ⊥
IsOfBytes Read = ⊥

-- what each fault says of the bytes, and of what is held after it
abbrev pub Fails : List ℕ → List ℕ → List ℕ → FrameFault → Type 0
Fails old piece new BadVersion = Refuses old piece new BadVersion
Fails old piece new TooLong = Refuses old piece new TooLong
Fails old piece new Memory = (new ≡ old) × NamesSomeBody (old ++ piece)
Fails old piece new Truncated = ⊥
Fails old piece new Read = ⊥

-- what one call took, by its result
abbrev pub Feeds : List ℕ → List ℕ → List ℕ → Result Fed FrameFault → Type 0
Feeds old piece new (Ok fed) =
    (fed.taken ≤ length piece) × MatchOption fed.frame (Waits old piece new fed.taken) (Brings old piece new fed.taken)
Feeds old piece new (Err fault) = Fails old piece new fault

-- One call on a stream of which these bytes came: they are these frames, and then what is held. It goes on so, and in
-- the end the frames are those of the joined bytes, in whatever pieces these came. At a fault all that came begins,
-- behind the frames, with no frame, for this reason.
abbrev pub ReadsOn : List ℕ → List Frame → List ℕ → List ℕ → List ℕ → Result Fed FrameFault → Type 0
ReadsOn stream frames old piece new (Ok fed) =
    Frames (stream ++ take fed.taken piece) (frames ++ option_to_list fed.frame) new
ReadsOn stream frames old piece new (Err Memory) = Frames stream frames new
ReadsOn stream frames old piece new (Err fault) =
    Frames (stream ++ piece) frames (old ++ piece) × (why (old ++ piece) ≡ Err fault)
