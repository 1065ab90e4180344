use Rattle.droid_frame.proofs.ReplyFrames as laws
use Rattle.droid_frame.proofs.laws.reply_frames_are_readable.Goals as goal

pub returns : goal.returns
returns c = laws.reply_frames_are_readable
