use Rattle.std.proofs.Common.{refl}
use Rattle.sha2.proofs.Schedule256.{rounds_first}
use Rattle.droid_hash.specs.Lanes.{lane8, words}
use Rattle.droid_hash.proofs.Steps.{word_lane}
use Rattle.droid_hash.proofs.sha256_kernel.first_step.Goals as goal

pub returns : goal.returns
returns c = λ j low b h window held.
    rounds_first b h (words j c.args.w.now) (lane8 j c.args.v) c.args.t _ _ _ c.requires window held refl (word_lane j c.args.w.now c.args.t) (c.round_lanes.ensures j low)
