-- Each element's text spells it.
use Rattle.droid_signature_pattern.proofs.Spelled.{all_are}
use Rattle.droid_signature_pattern.proofs.laws.what_is_written_is_read.Goals as goal

pub returns : goal.returns
returns c = all_are
