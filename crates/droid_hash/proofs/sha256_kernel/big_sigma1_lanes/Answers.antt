use Rattle.std.proofs.Common.{refl}
use Rattle.droid_hash.proofs.sha256_kernel.big_sigma1_lanes.Goals as goal

pub returns : goal.returns
returns c = λ j low. rw (c.three.ensures j low, c.turned.ensures j low, c.turned-2.ensures j low, c.turned-3.ensures j low) refl
