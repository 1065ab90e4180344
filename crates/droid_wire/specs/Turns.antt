-- What one turn of serving does to the streams (this project's own rule).
use Rattle.std.specs.Prelude.{ℕ, List, Option}
use Rattle.std.specs.Io.KnownBytes.{Appends, Consumes}
use Rattle.droid_frame.specs.Frames.{frame_bytes}
use Rattle.droid_frame.specs.InTurn.{Effect}
use Rattle.droid_frame.specs.Replies.{HasReplySpelling}
use Rattle.droid_frame.specs.ReplyFrames.{reply_frame}
use Rattle.droid_frame.specs.StreamReads.{ReadsNoFrame}
use Rattle.droid_frame.specs.StreamWrites.{Stops}
use Rattle.droid_frame.specs.Streams.{IsReadable}
use Rattle.droid_frame.specs.declared.frame.Frame.{Frame}
use Rattle.droid_frame.specs.declared.reply.Reply.{Reply}

-- reading a frame: all of it, or bytes that begin with no whole frame
abbrev pub ReadsFrame : {S : Type 0} → (S → Option (List ℕ)) → Effect S Frame
ReadsFrame remaining = record {
  whole = λ frame old new. IsReadable frame × Consumes (remaining old) (remaining new) (frame_bytes frame);
  part = λ old new. ReadsNoFrame (remaining old) (remaining new);
}

-- the frame of a reply, with the version, the client and the number of the request's frame
abbrev pub answer_frame : Frame × Reply → List ℕ
answer_frame answered = reply_frame answered.0.version answered.0.client answered.0.number answered.1

-- writing a reply: all of its frame, or its first bytes but not all
abbrev pub WritesReply : {S : Type 0} → (S → Option (List ℕ)) → Effect S (Frame × Reply)
WritesReply contents = record {
  whole = λ answered old new.
      HasReplySpelling answered.0.version answered.1 × Appends (contents old) (contents new) (answer_frame answered);
  part = λ old new. (answered : Frame × Reply) × (count : ℕ)
      × HasReplySpelling answered.0.version answered.1
      × Stops (contents old) (contents new) (answer_frame answered) count;
}
