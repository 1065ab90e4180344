use Rattle.droid_hash.proofs.Four.{lanes_maj}
use Rattle.droid_hash.proofs.sha256_kernel.maj_lanes.Goals as goal

pub returns : goal.returns
returns c = lanes_maj c.args.x c.fits-x.0 c.args.y c.fits-y.0 c.args.z c.fits-z.0
