use Rattle.droid_pronom.proofs.Flags.{rest_of_item}
use Rattle.droid_pronom.proofs.MarkSteps.{named_now, named_not}
use Rattle.droid_pronom.proofs.steps.listings.named_formats.Goals as goal
use Rattle.droid_pronom.proofs.steps.listings.named_formats.Goals.{then-is_named, else-is_named}

pub loop-row-preserved : goal.loop-row-preserved
loop-row-preserved c =
    let inv = rw (rest_of_item c.args.extensions.now c.loop-row.row-index c.row-item.result c.loop-row-test.true c.row-item.is) at c.loop-row.invariant in
    elim c.if-is_named.branch [
      | then-is_named w ↦ rw w.named-is (named_now c.args.wanted.now c.args.signed.now c.args.match_all c.loop-row.named.items c.row-item.result _ _ inv (c.is_named.ensures.0 w.if-is_named.true))
      | else-is_named w ↦ rw w.named-is (named_not c.args.wanted.now c.args.signed.now c.args.match_all c.loop-row.named.items c.row-item.result _ _ inv (λ may. let t = c.is_named.ensures.1 may in let f = w.if-is_named.false in cc))
    ]
