use Rattle.std.proofs.Common.{arith}
use Rattle.droid_hash.proofs.Four.{below_four}
use Rattle.droid_hash.proofs.Parts.{shorter_inside}
use Rattle.droid_hash.proofs.sha256_runs.common.Goals as goal

pub returns-clause-inside : goal.returns-clause-inside
returns-clause-inside c = below_four _
    (shorter_inside (λ x. x.now) c.args.runs 0 _ c.args.at c.within-low.result c.within-low-4.result c.within-low.ensures.inside (omega arith))
    (shorter_inside (λ x. x.now) c.args.runs 1 _ c.args.at c.within-low-2.result c.within-low-4.result c.within-low-2.ensures.inside (omega arith))
    (shorter_inside (λ x. x.now) c.args.runs 2 _ c.args.at c.within-low-3.result c.within-low-4.result c.within-low-3.ensures.inside (omega arith))
    (shorter_inside (λ x. x.now) c.args.runs 3 _ c.args.at c.within-low-4.result c.within-low-4.result c.within-low-4.ensures.inside (omega arith))
