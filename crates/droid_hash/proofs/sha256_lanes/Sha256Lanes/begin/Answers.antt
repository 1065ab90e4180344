use Rattle.std.proofs.Common.{◌<◌, length, refl, arith}
use Rattle.std.proofs.lemmas.List.{get_or-set_same, get_or-set_other}
use Rattle.sha2.specs.Sha256.{hash_after}
use Rattle.droid_hash.specs.Sha256.{Holds}
use Rattle.droid_hash.proofs.sha256_lanes.Sha256Lanes.begin.Goals as goal

pub returns-clause-empty : goal.returns-clause-empty
unfolding Holds hash_after
returns-clause-empty c =
    let inside : c.args.index < length c.args.self.now.totals = omega arith in (
      get_or-set_same c.args.self.now.totals c.args.index 0 0 inside,
      (rw (c.with_lane-self.ensures.there, c.with_lane-self-2.ensures.there, c.with_lane-self-3.ensures.there, c.with_lane-self-4.ensures.there, c.with_lane-self-5.ensures.there, c.with_lane-self-6.ensures.there, c.with_lane-self-7.ensures.there, c.with_lane-self-8.ensures.there) refl, refl),
    )

pub returns-clause-others : goal.returns-clause-others
unfolding Holds
returns-clause-others c = λ j low other m held. (
  rw get_or-set_other held.0,
  (rw (c.with_lane-self.ensures.same j low other, c.with_lane-self-2.ensures.same j low other, c.with_lane-self-3.ensures.same j low other, c.with_lane-self-4.ensures.same j low other, c.with_lane-self-5.ensures.same j low other, c.with_lane-self-6.ensures.same j low other, c.with_lane-self-7.ensures.same j low other, c.with_lane-self-8.ensures.same j low other) held.1.0, held.1.1),
)
