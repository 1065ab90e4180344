-- By the law of all subsequences.
use Rattle.droid_signature_file.proofs.PieceSets.{row_match}
use Rattle.droid_signature_file.proofs.laws.subsequences_have_patterns.Goals as goal

pub returns : goal.returns
returns c = λ part parts piece pieces is are. row_match part parts piece pieces is are
