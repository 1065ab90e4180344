use Rattle.droid_hash.proofs.Four.{lanes_shift}
use Rattle.droid_hash.proofs.sha256_kernel.shifted.Goals as goal

pub returns : goal.returns
returns c = lanes_shift c.args.s c.args.x c.fits-x.0
