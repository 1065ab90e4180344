-- The frames of replies (this project's own).
use Rattle.std.specs.Prelude.{ℕ, List}
use Rattle.droid_frame.specs.declared.frame.Frame.{Frame}
use Rattle.droid_frame.specs.declared.reply.Reply.{Reply}
use Rattle.droid_frame.specs.Fields.{IsU32, IsU64}
use Rattle.droid_frame.specs.Frames.{frame_bytes}
use Rattle.droid_frame.specs.Replies.{HasReplySpelling, reply_bytes, reply_kind}
use Rattle.droid_frame.specs.Versions.{IsVersion}
use Rattle.droid_frame.specs.Streams.{IsReadable}

-- the frame of a reply: version, client and number are those of the request
abbrev pub frame_of_reply : ℕ → ℕ → ℕ → Reply → Frame
frame_of_reply version client number reply =
    record {
      version = version;
      kind = reply_kind reply;
      client = client;
      number = number;
      body = reply_bytes version reply;
    }

-- the bytes of this frame
abbrev pub reply_frame : ℕ → ℕ → ℕ → Reply → List ℕ
reply_frame version client number reply = frame_bytes (frame_of_reply version client number reply)

-- the frame of every reply that has a spelling is readable
abbrev pub ReplyFramesAreReadable : Type 0
ReplyFramesAreReadable =
    (version client number : ℕ) (reply : Reply) → IsVersion version → IsU32 client → IsU64 number
    → HasReplySpelling version reply
    → IsReadable (frame_of_reply version client number reply)
