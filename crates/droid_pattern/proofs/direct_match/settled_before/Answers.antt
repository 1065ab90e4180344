-- One more cell, a cell that fails, and all of them.
use Rattle.std.proofs.Common.{◌-◌, get_or, length, take, arith, length-take}
use Rattle.std.proofs.lemmas.List.{get_or_default}
use Rattle.droid_pattern.specs.declared.cell.Cell.TheVariants as cell
use Rattle.droid_pattern.proofs.PathLemmas.{rest_and_last, no_items}
use Rattle.droid_pattern.proofs.TailLemmas.{ended_more, ended_not, ended_all}
use Rattle.droid_pattern.proofs.direct_match.settled_before.Goals as goal

pub loop-rest-init : goal.loop-rest-init
loop-rest-init c = record { shrinks = omega arith; inside = c.requires; so_far = λ pool. (λ h. h, λ h. h) }

pub returns-then-not-passes : goal.returns-then-not-passes
returns-then-not-passes c = λ pool.
    let rest = c.loop-rest.rest.now in
    let here = get_or rest (length rest - 1) (cell.Byte 0) in
    let last = rest_and_last rest here (omega arith) (get_or_default rest (length rest - 1) (cell.Byte 0) here (omega arith)) in
    ended_not pool rest (take (length rest - 1) rest) here c.args.bytes.now c.loop-rest.place c.in_ok-passes.passes last c.if-not-passes.true (c.in_ok-passes.ensures.leads pool) (c.loop-rest.invariant.so_far pool)

pub loop-rest-preserved : goal.loop-rest-preserved
loop-rest-preserved c =
    let rest = c.loop-rest.rest.now in
    let here = get_or rest (length rest - 1) (cell.Byte 0) in
    let last = rest_and_last rest here (omega arith) (get_or_default rest (length rest - 1) (cell.Byte 0) here (omega arith)) in
    let some = c.in_ok-passes.ensures.some c.if-not-passes.false in
    record {
      shrinks = omega (arith, length-take (length rest - 1) rest, c.loop-rest.invariant.shrinks);
      inside = omega (arith, c.loop-rest.invariant.inside);
      so_far = λ pool. ended_more pool rest (take (length rest - 1) rest) here c.args.bytes.now c.loop-rest.place (c.loop-rest.place - 1) c.in_ok-passes.passes last (omega arith) c.if-not-passes.false
          (c.in_ok-passes.ensures.leads pool) (c.loop-rest.invariant.so_far pool);
    }

pub returns : goal.returns
returns c = λ pool.
    ended_all pool c.loop-rest.rest.now c.args.bytes.now c.loop-rest.place (no_items c.loop-rest.rest.now (omega arith)) c.loop-rest.invariant.inside (c.loop-rest.invariant.so_far pool)
