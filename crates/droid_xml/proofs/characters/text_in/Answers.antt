use Rattle.droid_xml.proofs.Texts.{a_text, no_text}
use Rattle.droid_xml.proofs.characters.text_in.Goals as goal

pub returns-in_default : goal.returns-in_default
returns-in_default c = no_text c.args.bytes.now c.in_default.ensures.cases.0

pub returns-then-are_chars : goal.returns-then-are_chars
returns-then-are_chars c = a_text c.args.bytes.now c.in-Ok.text.now c.are_chars.result c.in-Ok.ensures.cases.0 c.in-Ok.ensures.cases.1 c.are_chars.ensures c.if-are_chars.true
