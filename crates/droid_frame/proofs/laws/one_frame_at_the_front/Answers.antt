use Rattle.droid_frame.proofs.FrameLaws.{reported_frame}
use Rattle.droid_frame.proofs.laws.one_frame_at_the_front.Goals as goal

pub returns : goal.returns
returns c = reported_frame
