use Rattle.droid_wire.proofs.AnswersOnce.{each_once}
use Rattle.droid_wire.proofs.laws.answers_once.Goals as goal

pub returns : goal.returns
returns c setting = each_once setting
