use Rattle.std.proofs.Common.{[], refl}
use Rattle.std.proofs.lemmas.List.{append-nil, drop_all}
use Rattle.droid_pronom.proofs.Flags.{rest_of_item}
use Rattle.droid_identity.specs.Matches.{HitsEnds, IsNearestOfEnds}
use Rattle.droid_identity.specs.Trials as trials
use Rattle.droid_identity.proofs.DoubtLemmas.{trial_more, trial_passed}
use Rattle.droid_identity.proofs.trials.tried_signatures.Goals as goal
use Rattle.droid_identity.proofs.trials.tried_signatures.Goals.{then-is_of+in_ok-matches+in_ok-push, else-is_of}

pub loop-number-preserved : goal.loop-number-preserved
loop-number-preserved c =
    let e = rest_of_item c.args.signatures.now c.loop-number.number c.index-signatures-number.result c.loop-number-test.true c.index-signatures-number.is in
    elim c.if-is_of.branch [
      | then-is_of+in_ok-matches+in_ok-push w ↦
          rw (w.trials-is, w.in_ok-push.ensures.items)
          (trial_more (IsNearestOfEnds c.args.first.now c.args.last.now) (HitsEnds c.args.first.now c.args.last.now) c.args.place c.args.signatures.now _ _ c.loop-number.number c.index-signatures-number.result c.loop-number.trials.items _
          e (c.is_of.ensures.0 w.if-is_of.true) refl (rw w.sequences.ensures at w.in_ok-matches.ensures) c.loop-number.invariant)
      | else-is_of w ↦
          rw w.trials-is
          (trial_passed (IsNearestOfEnds c.args.first.now c.args.last.now) (HitsEnds c.args.first.now c.args.last.now) c.args.place c.args.signatures.now _ _ c.loop-number.number c.index-signatures-number.result c.loop-number.trials.items
          e (λ is. let t = c.is_of.ensures.1 is in let f = w.if-is_of.false in cc) c.loop-number.invariant)
    ]

pub returns : goal.returns
returns c = rw append-nil at (c.loop-number.invariant [] (rw (drop_all c.loop-number.number c.args.signatures.now c.loop-number-test.false) trials.end))
