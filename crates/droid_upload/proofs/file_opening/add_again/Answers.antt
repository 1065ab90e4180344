use Rattle.std.proofs.Common.{arith}
use Rattle.droid_upload.specs.Deeds.{Does}
use Rattle.droid_upload.specs.Fronts.{EndsEarly}
use Rattle.droid_upload.specs.Steps.{AreOpenings}
use Rattle.droid_upload.proofs.Openings.{none_gone, one_more_gone, opened_after, opening_ends}
use Rattle.droid_upload.proofs.Passing.{if_err_same}
use Rattle.droid_upload.proofs.file_opening.add_again.Goals as goal

pub loop-attempt-init : goal.loop-attempt-init
loop-attempt-init g c = record {
  all = none_gone c.args.into c.args.path.now c.args.entry.now (Does g.T.Tree.observes g.C.Client.calls g.W.Watcher.hears) c.args.upload.now;
  below = omega arith;
}

pub returns-in_err-opened-clause-ended : goal.returns-in_err-opened-clause-ended
returns-in_err-opened-clause-ended g c =
    let does = Does g.T.Tree.observes g.C.Client.calls g.W.Watcher.hears in
    let fault = c.in_err-opened.field-0.0 in
    if_err_same c.from_residual.result fault (λ f. EndsEarly does (AreOpenings c.args.into c.args.path.now c.args.entry.now) f c.args.upload.now c.open_node.new.upload) c.from_residual.ensures.1
    (opening_ends c.args.into c.args.path.now c.args.entry.now does c.loop-attempt.attempt c.args.upload.now c.loop-attempt.upload c.open_node.new.upload c.loop-attempt.invariant.all fault c.in_err-opened.ensures.ended)

pub returns-in-Some-clause-opened : goal.returns-in-Some-clause-opened
returns-in-Some-clause-opened g c =
    let does = Does g.T.Tree.observes g.C.Client.calls g.W.Watcher.hears in
    let opened = rw c.in-Some.is at c.in_ok-opened.ensures.opened in
    opened_after c.args.into c.args.path.now c.args.entry.now does c.loop-attempt.attempt c.args.upload.now c.loop-attempt.upload c.open_node.new.upload c.loop-attempt.invariant.all c.in-Some.opened opened

pub loop-attempt-preserved : goal.loop-attempt-preserved
loop-attempt-preserved g c =
    let does = Does g.T.Tree.observes g.C.Client.calls g.W.Watcher.hears in
    let gone = rw c.in-None.is at c.in_ok-opened.ensures.opened in
    let again = rw c.in-None.is at c.in_ok-opened.ensures.again in
    record {
      all = one_more_gone c.args.into c.args.path.now c.args.entry.now does c.loop-attempt.attempt c.args.upload.now c.loop-attempt.upload c.open_node.new.upload c.loop-attempt.invariant.all gone;
      below = omega (arith, again);
    }

pub returns-clause-ended : goal.returns-clause-ended
returns-clause-ended g c = absurd (omega (arith, c.loop-attempt.invariant.below, c.loop-attempt-test.false))
