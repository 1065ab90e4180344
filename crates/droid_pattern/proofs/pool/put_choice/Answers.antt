-- No run, one more, and all of them.
use Rattle.std.proofs.Common.{◌≡◌, ◌++◌, ◌+◌, ◌∷◌, [], length, map, take, take_all, sym, ap, ◌∙◌, arith}
use Rattle.std.proofs.lemmas.List.{length-map, take_more, map-append}
use Rattle.droid_pattern.specs.Cells.{number_bytes}
use Rattle.droid_pattern.proofs.CellLemmas.{runs_none, run_more, runs_whole}
use Rattle.droid_pattern.proofs.pool.put_choice.Goals as goal

pub loop-run-init : goal.loop-run-init
loop-run-init c = runs_none c.args.pool.now.items c.put_number.new.pool.items _ _ (omega (arith, c.in_ok-count.ensures)) c.in_ok-put_number.ensures

pub loop-run-preserved : goal.loop-run-preserved
loop-run-preserved c =
    let runs = c.args.alternatives.now in
    let i = c.loop-run.run-index in
    let run = c.run-item.result in
    let next : map (λ v. v.items) (take (i + 1) runs) ≡ map (λ v. v.items) (take i runs) ++ run.items ∷ [] =
    ap (map (λ v. v.items)) (take_more runs i run (omega arith)) ∙ map-append (λ v. v.items) (take i runs) _ ∙ ap (λ x. map (λ v. v.items) (take i runs) ++ x.items ∷ []) (sym c.run-item.is) in
    let added = rw c.deref.ensures.value at c.in_ok-extend_from_slice.ensures.items in
    rw next (
    run_more c.args.pool.now.items (number_bytes (length runs)) (map (λ v. v.items) (take i runs)) run.items c.loop-run.pool.items c.put_number-in-loop-run.new.pool.items c.extend_from_slice.new.self.items _
    (omega (arith, run.ok.0, c.in_ok-len.ensures, c.len.ensures)) c.loop-run.invariant c.in_ok-put_number-2.ensures added
    )

pub returns : goal.returns
returns c =
    let runs = c.args.alternatives.now in
    runs_whole c.args.pool.now.items (map (λ v. v.items) runs) (length runs) c.loop-run.pool.items (sym (length-map runs (λ v. v.items))) (rw (take_all c.loop-run.run-index runs (omega arith)) at c.loop-run.invariant)
