-- One more priority.
use Rattle.std.proofs.Common.{◌<◌, ◌++◌, ◌∷◌, [], ℕ, List, take, get_or, length, arith}
use Rattle.droid_signature.specs.Priorities.{Priority}
use Rattle.droid_signature.specs.Sifting.{by_place}
use Rattle.droid_signature.specs.Views.{kept_of}
use Rattle.droid_signature.proofs.Sifting.{default_free, fills_more}
use Rattle.droid_signature.proofs.priorities.add_priorities.Goals as goal

pub loop-at-preserved : goal.loop-at-preserved
loop-at-preserved c = λ xs fills.
    let f : ℕ → ℕ → List Priority = λ at id. record { place = c.args.place; of = kept_of c.args.of.now; id = id } ∷ [] in
    let items = c.priorities-priorities.result.now in
    let i = c.loop-at.at in
    let below : i < length items = omega arith in
    let item = get_or items i 0 in
    fills_more f items i item xs c.add_priority.new.table below (default_free items i 0 item below) (c.in_ok-add_priority.ensures (xs ++ by_place f 0 (take i items)) (c.loop-at.invariant xs fills))
