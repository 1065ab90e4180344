use Rattle.droid_xml.proofs.Reading.{no_problem}
use Rattle.droid_xml.proofs.laws.no_problem.Goals as goal

pub returns : goal.returns
returns c = no_problem
