use Rattle.std.proofs.Common.{refl}
use Rattle.md5.specs.Md5.{hash_after}
use Rattle.droid_hash.specs.Md5.{Holds}
use Rattle.droid_hash.proofs.Eight.{below_eight}
use Rattle.droid_hash.proofs.md5_lanes.Md5Lanes.new.Goals as goal

pub returns : goal.returns
unfolding Holds hash_after
returns c = below_eight _ (refl, (refl, refl)) (refl, (refl, refl)) (refl, (refl, refl)) (refl, (refl, refl)) (refl, (refl, refl)) (refl, (refl, refl)) (refl, (refl, refl)) (refl, (refl, refl))
