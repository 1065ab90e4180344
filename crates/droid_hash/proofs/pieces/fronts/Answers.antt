use Rattle.std.proofs.Common.{[], take}
use Rattle.droid_hash.proofs.Eight.{eight_results}
use Rattle.droid_hash.proofs.pieces.fronts.Goals as goal

pub returns : goal.returns
returns c = eight_results (λ x. x.now) (λ x. take c.args.count x) c.args.pieces _ [] _ _ _ _ _ _ _ _
    c.front.ensures.value c.front-2.ensures.value c.front-3.ensures.value c.front-4.ensures.value c.front-5.ensures.value c.front-6.ensures.value c.front-7.ensures.value c.front-8.ensures.value
