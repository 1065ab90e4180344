-- Before the first round and after one more.
use Rattle.std.proofs.Common.{refl, ◌∙◌, arith}
use Rattle.droid_pattern.proofs.MoveLemmas.{widen_none, widen_more}
use Rattle.droid_pattern.proofs.bit_sets.shift.widen.Goals as goal

pub loop-done-init : goal.loop-done-init
loop-done-init c = (refl, omega arith, widen_none c.args.words.now)

pub loop-done-preserved : goal.loop-done-preserved
loop-done-preserved c = (
  c.spread.ensures.len ∙ c.loop-done.invariant.0,
  omega (arith, c.min-count.ensures),
  widen_more c.args.words.now c.loop-done.words c.spread.new.words c.loop-done.done c.min-count.result c.loop-done.invariant.0 (omega (arith, c.min-count.ensures)) c.loop-done.invariant.2 c.spread.ensures.adds,
)
