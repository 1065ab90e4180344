-- Bare frames (this project's own). In a journal that was made small, the pieces and the Finish of a finished or
-- abandoned file have one in the place of their request's frame. Its kind is that of the request and 64, which no
-- request has. Its body is the mark of the piece, or the body of the Finish, and then the body of the reply.
use Rattle.std.specs.Prelude.{ℕ, List, ◌∷◌, ◌++◌, length, take, drop, slice_index}
use Rattle.droid_frame.specs.Fields.{u32_bytes}
use Rattle.droid_frame.specs.Frames.{mark_of}
use Rattle.droid_frame.specs.Replies.{reply_bytes}
use Rattle.droid_frame.specs.declared.frame.Frame.{Frame}
use Rattle.droid_frame.specs.declared.reply.Reply.{Reply}

-- ---- as frames

-- the bare frame of a piece that got this reply
abbrev pub bare_piece : Frame → Reply → Frame
bare_piece frame reply =
    record frame { kind = 68; body = mark_of frame.kind frame.body ++ reply_bytes frame.version reply }

-- the bare frame of a Finish that got this reply
abbrev pub bare_finish : Frame → Reply → Frame
bare_finish frame reply = record frame { kind = 69; body = frame.body ++ reply_bytes frame.version reply }

-- ---- as bytes

-- a frame's bytes with another kind and another body
abbrev pub with_body : List ℕ → ℕ → List ℕ → List ℕ
with_body request kind body =
    slice_index request 0 ∷ kind ∷ (take 12 (drop 2 request) ++ (u32_bytes (length body) ++ body))

-- the bytes of the bare frame, of the frames of a piece and its reply
abbrev pub bare_piece_bytes : List ℕ → List ℕ → List ℕ
bare_piece_bytes request reply =
    with_body request 68 (mark_of (slice_index request 1) (drop 18 request) ++ drop 18 reply)

-- the bytes of the bare frame, of the frames of a Finish and its reply
abbrev pub bare_finish_bytes : List ℕ → List ℕ → List ℕ
bare_finish_bytes request reply = with_body request 69 (drop 18 request ++ drop 18 reply)
