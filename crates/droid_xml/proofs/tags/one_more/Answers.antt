use Rattle.droid_xml.specs.Views.{setting}
use Rattle.droid_xml.proofs.AttributeLoops.{one_too_many_is, one_wrong_is}
use Rattle.droid_xml.proofs.tags.one_more.Goals as goal

pub returns-in_default : goal.returns-in_default
returns-in_default c = one_too_many_is c.args.text.now (setting c.in_default.field-0.0, c.in_default.field-0.1.now) c.in_default.ensures

pub returns : goal.returns
returns c = one_wrong_is c.args.text.now c.in-Err.stop c.in-Err.ensures
