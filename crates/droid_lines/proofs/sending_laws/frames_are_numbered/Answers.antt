use Rattle.droid_lines.proofs.Numbering.{writes_numbered}
use Rattle.droid_lines.proofs.sending_laws.frames_are_numbered.Goals as goal

pub returns : goal.returns
returns c = writes_numbered
