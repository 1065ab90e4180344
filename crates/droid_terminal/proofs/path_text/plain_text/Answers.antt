use Rattle.droid_terminal.proofs.Plain.{no_text, plain}
use Rattle.droid_terminal.proofs.path_text.plain_text.Goals as goal

pub returns-in_default : goal.returns-in_default
returns-in_default c = no_text c.args.path.now c.in_default.ensures.cases.0

pub returns : goal.returns
returns c = plain c.args.path.now c.in-Ok.text.now c.has_control.result c.in-Ok.ensures.cases.0 c.in-Ok.ensures.cases.1 c.has_control.ensures c.if-has_control.false
