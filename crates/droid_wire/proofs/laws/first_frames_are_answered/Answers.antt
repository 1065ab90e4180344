use Rattle.droid_wire.proofs.WholeStreams.{first_frames}
use Rattle.droid_wire.proofs.laws.first_frames_are_answered.Goals as goal

pub returns : goal.returns
returns c = first_frames
