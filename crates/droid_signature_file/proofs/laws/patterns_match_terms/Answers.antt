-- By the law of all terms of a text.
use Rattle.droid_signature_file.proofs.TermSets.{terms_match}
use Rattle.droid_signature_file.proofs.laws.patterns_match_terms.Goals as goal

pub returns : goal.returns
returns c = λ text bytes terms spelled. terms_match terms text bytes spelled
