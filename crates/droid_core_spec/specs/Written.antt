-- The bytes that a service writes for a list of requests (this project's own).
use Rattle.std.specs.Prelude.{ℕ, List, [], ◌∷◌, ◌++◌}
use Rattle.droid_frame.specs.ReplyFrames.{reply_frame}
use Rattle.droid_frame.specs.declared.frame.Frame.{Frame}
use Rattle.droid_frame.specs.declared.reply.Reply.{Reply}

-- the frame of each reply, in order, with the version, the client and the number of its request
abbrev pub reply_frames : List Frame → List Reply → List ℕ
reply_frames [] replies = []
reply_frames (frame ∷ frames) [] = []
reply_frames (frame ∷ frames) (reply ∷ replies) =
    reply_frame frame.version frame.client frame.number reply ++ reply_frames frames replies
