-- Each term's patterns can.
use Rattle.droid_signature_pattern.proofs.Writable.{terms_can}
use Rattle.droid_signature_pattern.proofs.laws.patterns_of_a_text_can_be_written.Goals as goal

pub returns : goal.returns
returns c = terms_can
