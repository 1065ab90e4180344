use Rattle.std.proofs.Common.{◌≡◌, arith, rules}
use Rattle.droid_core.proofs.SameLists.{same_on}
use Rattle.droid_core.proofs.queries.same_filters.are_same_texts.Goals as goal

pub loop-place-preserved : goal.loop-place-preserved
loop-place-preserved c =
    let same : c.index-one-place.result ≡ c.index-other-place.result = search rules in
    same_on c.args.one.now c.args.other.now c.loop-place.place c.index-one-place.result c.index-other-place.result (omega arith) (omega arith) c.index-one-place.is c.index-other-place.is same c.loop-place.invariant
