use Rattle.std.proofs.Common.{refl}
use Rattle.droid_hash.proofs.Four.{splat_lane}
use Rattle.droid_hash.proofs.sha256_kernel.round_lanes.Goals as goal

pub returns : goal.returns
returns c = λ j low.
    rw (
      c.sum-3.ensures j low,
      c.sum-4.ensures j low,
      c.sum-temp1.ensures j low,
      c.sum-temp2.ensures j low,
      c.sum-2.ensures j low,
      c.sum-low.ensures j low,
      c.sum.ensures j low,
      c.big_sigma0_lanes.ensures j low,
      c.big_sigma1_lanes.ensures j low,
      c.ch_lanes.ensures j low,
      c.maj_lanes.ensures j low,
      splat_lane c.args.k j low,
    )
    refl
