use Rattle.std.proofs.Common.{◌∙◌, sym, false}
use Rattle.std.proofs.lemmas.List.{length-replicate}
use Rattle.droid_pronom.specs.FoundWindows.{HitsWindows}
use Rattle.droid_pronom.proofs.Flags.{rest_of_item}
use Rattle.droid_pronom.proofs.Marks.{marks_start}
use Rattle.droid_pronom.proofs.MarkSteps.{hit_before, hit_now, hit_not}
use Rattle.droid_pronom.proofs.steps.hits.hit_formats.Goals as goal
use Rattle.droid_pronom.proofs.steps.hits.hit_formats.Goals.{then-branch, else-branch}

pub loop-signature-preserved-then-index : goal.loop-signature-preserved-then-index
loop-signature-preserved-then-index c =
    let all = rw (rest_of_item c.args.signatures.now c.loop-signature.signature-index c.signature-item.result c.loop-signature-test.true c.signature-item.is) at c.loop-signature.invariant in
    let next = hit_before (HitsWindows c.args.first.now c.args.last.now) c.args.count c.loop-signature.hit.items c.signature-item.result _ _ _ (all.2, all.3, all.4) (rw c.place-place.ensures at (sym c.index.ensures ∙ c.if-index.true)) in
    (all.0, all.1, next.0, next.1, next.2)

pub loop-signature-preserved-then-is_ruled_out : goal.loop-signature-preserved-then-is_ruled_out
loop-signature-preserved-then-is_ruled_out c =
    let all = rw (rest_of_item c.args.signatures.now c.loop-signature.signature-index c.signature-item.result c.loop-signature-test.true c.signature-item.is) at c.loop-signature.invariant in
    let next = hit_not (HitsWindows c.args.first.now c.args.last.now) c.args.count c.loop-signature.hit.items c.signature-item.result _ _ (all.2, all.3, all.4) (c.is_ruled_out.ensures c.if-is_ruled_out.true c.args.last.now) in
    (all.0, all.1, next.0, next.1, next.2)

pub loop-signature-preserved : goal.loop-signature-preserved
loop-signature-preserved c =
    let all = rw (rest_of_item c.args.signatures.now c.loop-signature.signature-index c.signature-item.result c.loop-signature-test.true c.signature-item.is) at c.loop-signature.invariant in
    let says = rw c.sequences.ensures at c.in_ok-all_hit.ensures.found in
    elim c.if-branch.branch [
      | then-branch w ↦
          let next = hit_now (HitsWindows c.args.first.now c.args.last.now) c.args.count c.loop-signature.hit.items c.signature-item.result _ _ (all.2, all.3, all.4) (says.0 w.if-branch.true) in
          rw (w.hit-is, c.place-place.ensures) (c.all_hit.ensures.begin, c.all_hit.ensures.end, next.0, next.1, next.2)
      | else-branch w ↦
          let next = hit_not (HitsWindows c.args.first.now c.args.last.now) c.args.count c.loop-signature.hit.items c.signature-item.result _ _ (all.2, all.3, all.4) (λ all. let t = says.1 all in let f = w.if-branch.false in cc) in
          rw w.hit-is (c.all_hit.ensures.begin, c.all_hit.ensures.end, next.0, next.1, next.2)
    ]

pub loop-signature-init : goal.loop-signature-init
loop-signature-init c = (
  c.new-begin.ensures c.args.first.now,
  c.new-end.ensures c.args.last.now,
  rw (c.in_ok-hit.ensures.items_if_clones_equal (λ y same. same)) (length-replicate c.args.count false),
  c.requires,
  rw (c.in_ok-hit.ensures.items_if_clones_equal (λ y same. same)) (marks_start _ c.args.count c.args.signatures.now),
)
