use Rattle.std.proofs.Common.{[]}
use Rattle.std.proofs.lemmas.List.{append-nil, drop_all}
use Rattle.droid_pronom.proofs.Flags.{rest_of_item}
use Rattle.droid_identity.specs.Matches.{HitsEnds, IsNearestOfEnds}
use Rattle.droid_identity.proofs.DoubtLemmas.{sequence_more, tried_by}
use Rattle.droid_identity.proofs.trials.tried_sequences.Goals as goal

pub loop-sequence-preserved : goal.loop-sequence-preserved
loop-sequence-preserved c =
    let e = rest_of_item c.args.sequences.now c.loop-sequence.sequence-index c.sequence-item.result c.loop-sequence-test.true c.sequence-item.is in
    let is = tried_by c.args.first.now c.args.last.now c.window_of-window.result.now c.sequence-item.result c.in_ok-found.found c.window_of-window.ensures c.in_ok-found.ensures in
    rw c.in_ok-push.ensures.items
    (sequence_more (IsNearestOfEnds c.args.first.now c.args.last.now) (HitsEnds c.args.first.now c.args.last.now) c.args.sequences.now _ _ c.sequence-item.result c.loop-sequence.matches.items c.in_ok-found.found e is c.loop-sequence.invariant)

pub returns : goal.returns
returns c = rw append-nil at (c.loop-sequence.invariant [] (rw (drop_all c.loop-sequence.sequence-index c.args.sequences.now c.loop-sequence-test.false) tt))
