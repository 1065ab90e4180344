use Rattle.std.proofs.Common.{◌<◌, false, length, refl, arith}
use Rattle.droid_pronom.proofs.Flags.{rest_at}
use Rattle.droid_pronom.proofs.MarkSteps.{without_step}
use Rattle.droid_pronom.proofs.steps.priority.unbeaten.Goals as goal
use Rattle.droid_pronom.proofs.steps.priority.unbeaten.Goals.{then-is_hit, else-is_hit}

pub loop-place-preserved : goal.loop-place-preserved
loop-place-preserved c =
    let below : c.loop-place.place < length c.args.beaten.now = omega arith in
    without_step c.loop-place.left.items c.push.new.self.items _ _ _ _ _ _ _ _ c.loop-place.invariant
    (rest_at c.args.hit.now c.loop-place.place false c.loop-place-test.true)
    (rest_at c.args.beaten.now c.loop-place.place false below)
    (elim c.if-is_hit.branch [ then-is_hit w ↦ rw (w.push-is, w.if-is_hit.true) refl | else-is_hit w ↦ rw (w.push-is, w.if-is_hit.false) refl ])
    c.in_ok-push.ensures.items
