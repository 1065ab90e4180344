use Rattle.droid_hash.proofs.Eight.{lanes_f}
use Rattle.droid_hash.proofs.md5_kernel.f_lanes.Goals as goal

pub returns : goal.returns
returns c = lanes_f c.args.x c.fits-x.0 c.args.y c.fits-y.0 c.args.z c.fits-z.0
