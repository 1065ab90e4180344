-- By the law of one subsequence.
use Rattle.droid_signature_file.proofs.PieceSets.{piece_match}
use Rattle.droid_signature_file.proofs.laws.a_subsequence_has_patterns.Goals as goal

pub returns : goal.returns
returns c = λ part piece is. piece_match part piece is
