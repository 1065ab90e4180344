-- What happens on a connection that is a stream of bytes.
use Rattle.std.specs.Prelude.{◌≡◌, ◌⊎◌, ℕ, List, Option, Some, None, take}
use Rattle.std.specs.Io.KnownBytes.{Appends, Consumes, IsAtEnd}
use Rattle.droid_frame.specs.declared.frame.Frame.{Frame}
use Rattle.droid_frame.specs.Frames.{frame_bytes}
use Rattle.droid_frame.specs.StreamReads.{ReadsNoFrame}
use Rattle.droid_remote.specs.Events.{Event, Joined, Alone, Sent, Cut, Came, Lost, Paused, Expired, Started}
use Rattle.droid_remote.specs.declared.transfer.streams.Streams.{Streams}

-- the bytes of the frame, and nothing else, were written to the open stream, which stays open
pub record WritesWhole {S : Type 0} (contents : S → Option (List ℕ)) (frame : Frame) (old new : Option S) : Type 0 where
  pub before : S
  pub after : S
  pub was : old ≡ Some before
  pub is : new ≡ Some after
  pub wrote : Appends (contents before) (contents after) (frame_bytes frame)

-- the first bytes of the frame, and nothing else, were written to the stream that was open, if one was; it was closed
pub record WritesFront {S : Type 0} (contents : S → Option (List ℕ)) (frame : Frame) (old new : Option S) : Type 0 where
  pub closed : new ≡ None
  pub wrote : (before : S) → old ≡ Some before
      → (after : S) × (count : ℕ) × Appends (contents before) (contents after) (take count (frame_bytes frame))

-- the bytes of the frame, and nothing else, were read from the open stream, which stays open
pub record ReadsWhole {S : Type 0} (remaining : S → Option (List ℕ)) (frame : Frame) (old new : Option S) : Type 0 where
  pub before : S
  pub after : S
  pub was : old ≡ Some before
  pub is : new ≡ Some after
  pub read : Consumes (remaining before) (remaining after) (frame_bytes frame)

-- no whole frame was read from the stream that was open, if one was: it was at its end, or less than a frame was read;
-- it was closed
pub record ReadsNone {S : Type 0} (remaining : S → Option (List ℕ)) (old new : Option S) : Type 0 where
  pub closed : new ≡ None
  pub read : (before : S) → old ≡ Some before
      → (after : S) × (IsAtEnd (remaining before) ⊎ ReadsNoFrame (remaining before) (remaining after))

-- A stream that is joined is one that the opener just opened, with nothing written or read yet. Behind a pause no
-- stream is open. The opener opens and waits, and takes no part in anything else.
abbrev pub StreamDoes : {O S : Type 0} → (O → S → O → Type 0) → (O → Event → O → Type 0) → (S → Option (List ℕ))
    → (S → Option (List ℕ)) → Streams O S → Event → Streams O S → Type 0
StreamDoes {O} {S} opens waits remaining contents old Joined new =
    (stream : S) × (new.stream ≡ Some stream) × opens old.opener stream new.opener
StreamDoes opens waits remaining contents old Alone new = (new.stream ≡ None) × waits old.opener Alone new.opener
StreamDoes opens waits remaining contents old (Sent frame) new =
    (new.opener ≡ old.opener) × WritesWhole contents frame old.stream new.stream
StreamDoes opens waits remaining contents old (Cut frame) new =
    (new.opener ≡ old.opener) × WritesFront contents frame old.stream new.stream
StreamDoes opens waits remaining contents old (Came frame) new =
    (new.opener ≡ old.opener) × ReadsWhole remaining frame old.stream new.stream
StreamDoes opens waits remaining contents old Lost new =
    (new.opener ≡ old.opener) × ReadsNone remaining old.stream new.stream
StreamDoes opens waits remaining contents old Paused new = (new.stream ≡ None) × waits old.opener Paused new.opener
StreamDoes opens waits remaining contents old Expired new = (new.stream ≡ None) × waits old.opener Expired new.opener
StreamDoes opens waits remaining contents old Started new =
    (new.stream ≡ old.stream) × waits old.opener Started new.opener
