use Rattle.droid_identity.proofs.FileLemmas.{hit_is_match}
use Rattle.droid_identity.proofs.laws.a_hit_is_a_match.Goals as goal

pub returns : goal.returns
returns c file limit sequence = hit_is_match sequence file limit
