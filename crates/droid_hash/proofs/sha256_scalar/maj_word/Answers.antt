use Rattle.droid_hash.proofs.Majority.{maj_short}
use Rattle.droid_hash.proofs.sha256_scalar.maj_word.Goals as goal

pub returns : goal.returns
returns c = maj_short c.args.x c.args.y c.args.z
