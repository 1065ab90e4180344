use Rattle.droid_pronom.proofs.Flags.{rest_at}
use Rattle.droid_pronom.proofs.MarkSteps.{beaten_now, beaten_not}
use Rattle.droid_pronom.proofs.steps.priority.beaten_formats.Goals as goal
use Rattle.droid_pronom.proofs.steps.priority.beaten_formats.Goals.{then-drops, else-drops}

pub loop-row-preserved : goal.loop-row-preserved
loop-row-preserved c =
    let inv = rw (rest_at c.args.priorities.now c.loop-row.row-index (record { place = 0; over = 0 }) c.loop-row-test.true) at c.loop-row.invariant in
    elim c.if-drops.branch [
      | then-drops w ↦ rw w.beaten-is (beaten_now c.args.hit.now c.loop-row.beaten.items _ _ _ _ inv w.if-drops.true)
      | else-drops w ↦ rw w.beaten-is (beaten_not c.args.hit.now c.loop-row.beaten.items _ _ _ _ inv w.if-drops.false)
    ]
