use Rattle.droid_xml.proofs.Reading.{one_document}
use Rattle.droid_xml.proofs.laws.one_document.Goals as goal

pub returns : goal.returns
returns c = one_document
