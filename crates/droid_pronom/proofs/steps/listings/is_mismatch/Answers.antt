use Rattle.std.proofs.Common.{◌∙◌, sym}
use Rattle.droid_pronom.proofs.Flags.{rest_of_item}
use Rattle.droid_pronom.proofs.MarkSteps.{mismatch_one, mismatch_skip, mismatch_stop}
use Rattle.std.proofs.lemmas.Slice.Eq.{bytes_eq-Decides}
use Rattle.droid_pronom.proofs.steps.listings.is_mismatch.Goals as goal
use Rattle.droid_pronom.proofs.steps.listings.is_mismatch.Goals.{then-left-row+else-eq, else-left-row}

pub returns-then-eq : goal.returns-then-eq
returns-then-eq c =
    let inv = rw (rest_of_item c.args.extensions.now c.loop-row.row-index c.row-item.result c.loop-row-test.true c.row-item.is) at c.loop-row.invariant in
    let same = sym c.as_str.ensures.value ∙ (bytes_eq-Decides c.as_str.result.now c.args.wanted.now).0 (sym c.eq.ensures ∙ c.if-eq.true) in (
      λ t. cc,
      λ m. absurd (m.2 (mismatch_stop c.args.left.now c.args.wanted.now c.loop-row.lists_one c.row-item.result _ _ _ _ inv c.if-left-row.true same)),
    )

pub loop-row-preserved : goal.loop-row-preserved
loop-row-preserved c =
    let inv = rw (rest_of_item c.args.extensions.now c.loop-row.row-index c.row-item.result c.loop-row-test.true c.row-item.is) at c.loop-row.invariant in
    elim c.if-left-row.branch [
      | then-left-row+else-eq w ↦
          rw w.lists_one-is (mismatch_one c.args.left.now c.args.wanted.now c.loop-row.lists_one c.row-item.result _ _ _ _ inv w.if-left-row.true (λ e.
          let t = (bytes_eq-Decides w.as_str.result.now c.args.wanted.now).1 (w.as_str.ensures.value ∙ e) in
          let f = sym w.eq.ensures ∙ w.if-eq.false in cc))
      | else-left-row w ↦ rw w.lists_one-is (mismatch_skip c.args.left.now c.args.wanted.now c.loop-row.lists_one c.row-item.result _ _ _ _ inv w.if-left-row.false)
    ]
