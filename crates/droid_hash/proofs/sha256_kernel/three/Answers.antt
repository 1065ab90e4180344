use Rattle.droid_hash.proofs.Four.{lanes_three}
use Rattle.droid_hash.proofs.sha256_kernel.three.Goals as goal

pub returns : goal.returns
returns c = lanes_three c.args.a c.fits-a.0 c.args.b c.fits-b.0 c.args.c c.fits-c.0
