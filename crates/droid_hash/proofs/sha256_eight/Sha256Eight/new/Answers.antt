use Rattle.std.proofs.Common.{◌-◌, ℕ, [], arith}
use Rattle.droid_hash.specs.Sha256.{Holds}
use Rattle.droid_hash.specs.Halves.{HoldsOf}
use Rattle.droid_hash.proofs.Halving.{by_half}
use Rattle.droid_hash.proofs.sha256_eight.Sha256Eight.new.Goals as goal

pub returns : goal.returns
unfolding HoldsOf
returns c = λ j low.
    by_half (λ k. Holds c.new-low.result k []) (λ k. Holds c.new-high.result k []) j
    (c.new-low.ensures j) (λ _. c.new-high.ensures (j - 4) (omega arith))
