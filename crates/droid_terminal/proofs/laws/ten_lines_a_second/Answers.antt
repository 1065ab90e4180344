use Rattle.droid_terminal.proofs.Seconds.{ten_lines}
use Rattle.droid_terminal.proofs.laws.ten_lines_a_second.Goals as goal

pub returns : goal.returns
returns c = ten_lines
