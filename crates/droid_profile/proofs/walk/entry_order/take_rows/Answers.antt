use Rattle.std.proofs.Common.{◌+◌, arith}
use Rattle.droid_profile.specs.ScanFits.{EndsTaking}
use Rattle.droid_profile.proofs.Runs.{ends_then, handed_on, takes_none, takes_then}
use Rattle.droid_profile.proofs.StepsMade.{few_none, few_then}
use Rattle.droid_profile.proofs.walk.entry_order.take_rows.Goals as goal

pub loop-init : goal.loop-init
loop-init g c = record { takes = takes_none g.T.Tree.observes c.args.scan.now c.args.rows.now.items c.args.files.now.items c.args.tree.now; most = omega arith; less = omega arith; few = few_none c.args.scan.now c.args.rows.now.items }

pub loop-preserved : goal.loop-preserved
loop-preserved g c = record {
  takes =
      takes_then g.T.Tree.observes c.args.scan.now c.loop.scan c.args.rows.now.items c.loop.rows.items c.args.files.now.items c.loop.files.items c.args.tree.now c.loop.tree c.take_next.new.tree c.loop.invariant.takes
      c.take_next.new.scan c.take_next.new.rows.items c.take_next.new.files.items c.in_ok-more.ensures.taken;
  most = omega (arith, c.loop-test.true);
  less = omega (arith, c.loop.invariant.less, c.in_ok-more.ensures.less c.if-not-more.false);
  few = few_then c.loop.counter 1 (c.loop.counter + 1) c.args.scan.now c.loop.scan c.take_next.new.scan c.args.rows.now.items c.loop.rows.items c.take_next.new.rows.items (omega arith) c.loop.invariant.few c.in_ok-more.ensures.few;
}

pub returns-clause-less : goal.returns-clause-less
returns-clause-less g c = λ more. omega (arith, c.loop-test.false, c.loop.invariant.less)

pub returns-clause-few : goal.returns-clause-few
returns-clause-few g c =
    few_then c.loop.counter 0 8192 c.args.scan.now c.loop.scan c.loop.scan c.args.rows.now.items c.loop.rows.items c.loop.rows.items (omega (arith, c.loop.invariant.most)) c.loop.invariant.few (few_none c.loop.scan c.loop.rows.items)

pub returns-then-not-more-clause-few : goal.returns-then-not-more-clause-few
returns-then-not-more-clause-few g c =
    few_then c.loop.counter 1 8192 c.args.scan.now c.loop.scan c.take_next.new.scan c.args.rows.now.items c.loop.rows.items c.take_next.new.rows.items (omega (arith, c.loop-test.true)) c.loop.invariant.few c.in_ok-more.ensures.few

pub returns-then-not-more-clause-taken : goal.returns-then-not-more-clause-taken
returns-then-not-more-clause-taken g c =
    takes_then g.T.Tree.observes c.args.scan.now c.loop.scan c.args.rows.now.items c.loop.rows.items c.args.files.now.items c.loop.files.items c.args.tree.now c.loop.tree c.take_next.new.tree c.loop.invariant.takes
    c.take_next.new.scan c.take_next.new.rows.items c.take_next.new.files.items c.in_ok-more.ensures.taken

pub returns-in_err-more-clause-ended : goal.returns-in_err-more-clause-ended
returns-in_err-more-clause-ended g c =
    handed_on (λ its. EndsTaking g.T.Tree.observes its 8192 c.args.scan.now c.args.rows.now.items c.args.files.now.items c.args.tree.now c.take_next.new.tree) c.from_residual.result _ c.from_residual.ensures.1
    (ends_then g.T.Tree.observes c.args.scan.now c.loop.scan c.args.rows.now.items c.loop.rows.items c.args.files.now.items c.loop.files.items c.args.tree.now c.loop.tree c.take_next.new.tree c.loop.invariant.takes _ c.loop.counter 8192 (omega (arith, c.loop-test.true)) c.loop.invariant.few c.in_err-more.ensures.ended)
