use Rattle.droid_lines.proofs.InFront.{same_in_front}
use Rattle.droid_lines.proofs.laws.lines_ask_the_same.Goals as goal

pub returns : goal.returns
returns c = same_in_front
