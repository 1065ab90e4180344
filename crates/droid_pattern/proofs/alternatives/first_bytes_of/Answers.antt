-- One more alternative begins with one of the bytes.
use Rattle.std.proofs.Common.{◌≡◌, suc, ◌+◌, ◌-◌, take, drop, arith}
use Rattle.droid_pattern.specs.Cells.{front_number, runs_in}
use Rattle.droid_pattern.proofs.FirstByteLemmas.{front_of, one_more_begins}
use Rattle.droid_pattern.proofs.alternatives.first_bytes_of.Goals as goal

pub loop-preserved : goal.loop-preserved
loop-preserved c = λ all has begins.
    let count = front_number c.args.packed.now in
    let rest = c.loop.rest.now in
    let run = take (front_number rest) (drop 2 rest) in
    let after = drop (front_number rest) (drop 2 rest) in
    let left : count - c.loop.counter ≡ suc (count - (c.loop.counter + 1)) = omega arith in
    let (more, is) = front_of run c.in_ok-first-2.first.now (rw c.cut_run-in-loop.ensures.run at c.in_ok-first-2.ensures.value) in
    let now = one_more_begins all run more c.in_ok-first-2.first.now (runs_in (count - (c.loop.counter + 1)) after) is (has c.in_ok-first-2.first.now c.with-few.ensures.added) (rw c.cut_run-in-loop.ensures.after at begins) in
    c.loop.invariant all (λ b had. has b (c.with-few.ensures.kept b had)) (rw left now)
