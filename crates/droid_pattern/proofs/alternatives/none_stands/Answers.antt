-- An alternative that doesn't stand there, and all of them.
use Rattle.std.proofs.Common.{◌≡◌, suc, ◌+◌, ◌-◌, take, drop, arith}
use Rattle.memchr.specs.Find.{OccursAt}
use Rattle.droid_pattern.specs.Cells.{front_number, runs_in}
use Rattle.droid_pattern.proofs.StepLemmas.{choice_less, leads_nowhere}
use Rattle.droid_pattern.proofs.alternatives.none_stands.Goals as goal

pub loop-preserved : goal.loop-preserved
loop-preserved c = λ q over.
    let bytes = c.args.bytes.now in
    let place = c.args.place in
    let count = front_number c.args.packed.now in
    let rest = c.loop.rest.now in
    let run = take (front_number rest) (drop 2 rest) in
    let after = drop (front_number rest) (drop 2 rest) in
    let left : count - c.loop.counter ≡ suc (count - (c.loop.counter + 1)) = omega arith in
    let fails : OccursAt bytes run place → ⊥ = rw c.cut_run.ensures.run at (c.stands_at.ensures c.if-stands_at.false) in
    let here = rw left at (c.loop.invariant q over) in
    rw c.cut_run.ensures.after (choice_less run (runs_in (count - (c.loop.counter + 1)) after) bytes place q fails here)

pub returns : goal.returns
returns c = λ all q over.
    let none : front_number c.args.packed.now - c.loop.counter ≡ 0 = omega arith in
    leads_nowhere c.args.bytes.now c.args.place q (rw none at (c.loop.invariant q over))
