use Rattle.droid_cmd_profile.proofs.SkippedLines.{header_and_lines}
use Rattle.droid_cmd_profile.proofs.laws.the_lines_are_the_csv.Goals as goal

pub returns : goal.returns
returns g c = λ heard old begun new begins has. header_and_lines g.S.Write.contents g.S.SteadyWrite.seen g.S.SteadyWrite.room heard old begun new begins has
