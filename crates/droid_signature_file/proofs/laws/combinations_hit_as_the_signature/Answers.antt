-- By the law of combinations.
use Rattle.droid_signature_file.proofs.Combinations.{combinations_hit}
use Rattle.droid_signature_file.proofs.laws.combinations_hit_as_the_signature.Goals as goal

pub returns : goal.returns
returns c = λ signature all file scan_limit are. combinations_hit signature.sequences all file scan_limit are
