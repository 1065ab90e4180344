use Rattle.droid_hash.proofs.Eight.{shifts_turn}
use Rattle.droid_hash.proofs.md5_kernel.turned.Goals as goal

pub returns : goal.returns
returns c = shifts_turn c.args.s c.requires.0 c.requires.1 c.args.x c.fits-x.0
