use Rattle.droid_terminal.proofs.Cutting.{no_front}
use Rattle.droid_terminal.proofs.columns.front_of.Goals as goal

pub returns-in_default : goal.returns-in_default
returns-in_default c = λ within its. no_front c.args.text.now c.args.count c.args.columns c.utf8.text within c.in_default.ensures.cases its
