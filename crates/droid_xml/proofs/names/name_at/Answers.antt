use Rattle.droid_xml.proofs.Texts.{a_name, no_name}
use Rattle.droid_xml.proofs.names.name_at.Goals as goal

pub returns-in_default : goal.returns-in_default
returns-in_default c = no_name c.args.text.now c.name_len-length.result c.name_len-length.ensures.count c.in_default.ensures.cases.0

pub returns-then-are_of_name : goal.returns-then-are_of_name
returns-then-are_of_name c =
    a_name c.args.text.now c.in-Ok.name.now c.name_len-length.result c.are_of_name.result c.name_len-length.ensures.count c.in-Ok.ensures.cases.0 c.in-Ok.ensures.cases.1 c.are_of_name.ensures c.if-are_of_name.true
