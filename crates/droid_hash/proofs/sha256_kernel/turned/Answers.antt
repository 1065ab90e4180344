use Rattle.droid_hash.proofs.Four.{shifts_turn_right}
use Rattle.droid_hash.proofs.sha256_kernel.turned.Goals as goal

pub returns : goal.returns
returns c = shifts_turn_right c.args.s c.requires.0 c.requires.1 c.args.x c.fits-x.0
