use Rattle.std.proofs.Common.{arith}
use Rattle.droid_hash.proofs.Eight.{below_eight}
use Rattle.droid_hash.proofs.Parts.{shorter_inside}
use Rattle.droid_hash.proofs.md5_runs.common.Goals as goal

pub returns-clause-inside : goal.returns-clause-inside
returns-clause-inside c = below_eight _
    (shorter_inside (λ x. x.now) c.args.runs 0 _ c.args.at c.within-low.result c.within-low-8.result c.within-low.ensures.inside (omega arith))
    (shorter_inside (λ x. x.now) c.args.runs 1 _ c.args.at c.within-low-2.result c.within-low-8.result c.within-low-2.ensures.inside (omega arith))
    (shorter_inside (λ x. x.now) c.args.runs 2 _ c.args.at c.within-low-3.result c.within-low-8.result c.within-low-3.ensures.inside (omega arith))
    (shorter_inside (λ x. x.now) c.args.runs 3 _ c.args.at c.within-low-4.result c.within-low-8.result c.within-low-4.ensures.inside (omega arith))
    (shorter_inside (λ x. x.now) c.args.runs 4 _ c.args.at c.within-low-5.result c.within-low-8.result c.within-low-5.ensures.inside (omega arith))
    (shorter_inside (λ x. x.now) c.args.runs 5 _ c.args.at c.within-low-6.result c.within-low-8.result c.within-low-6.ensures.inside (omega arith))
    (shorter_inside (λ x. x.now) c.args.runs 6 _ c.args.at c.within-low-7.result c.within-low-8.result c.within-low-7.ensures.inside (omega arith))
    (shorter_inside (λ x. x.now) c.args.runs 7 _ c.args.at c.within-low-8.result c.within-low-8.result c.within-low-8.ensures.inside (omega arith))
