use Rattle.std.proofs.Common.{refl}
use Rattle.sha2.specs.Sha256.{hash_after}
use Rattle.droid_hash.specs.Sha256.{Holds}
use Rattle.droid_hash.proofs.Four.{below_four}
use Rattle.droid_hash.proofs.sha256_lanes.Sha256Lanes.new.Goals as goal

pub returns : goal.returns
unfolding Holds hash_after
returns c = below_four _ (refl, (refl, refl)) (refl, (refl, refl)) (refl, (refl, refl)) (refl, (refl, refl))
