use Rattle.droid_wire.proofs.ReadStreams.{read_frames}
use Rattle.droid_wire.proofs.laws.read_frames_are_answered.Goals as goal

pub returns : goal.returns
returns c = read_frames
