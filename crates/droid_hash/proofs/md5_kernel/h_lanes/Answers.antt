use Rattle.droid_hash.proofs.Eight.{lanes_h}
use Rattle.droid_hash.proofs.md5_kernel.h_lanes.Goals as goal

pub returns : goal.returns
returns c = lanes_h c.args.x c.fits-x.0 c.args.y c.fits-y.0 c.args.z c.fits-z.0
