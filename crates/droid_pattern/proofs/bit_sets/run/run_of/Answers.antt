-- The bits from the low one up to the high one.
use Rattle.std.proofs.Common.{arith, pow_mono}
use Rattle.droid_pattern.proofs.SetLemmas.{run_bits}
use Rattle.droid_pattern.proofs.bit_sets.run.run_of.Goals as goal

pub overflow_sub-result : goal.overflow_sub-result
overflow_sub-result c = omega (arith, c.lowest.ensures, c.lowest-2.ensures, pow_mono {i = c.args.low} {j = c.min-high.result} (omega arith))

pub returns : goal.returns
returns c = λ i small.
    let run = run_bits c.args.low c.min-high.result i c.if-high-low.false in
    rw (c.lowest.ensures, c.lowest-2.ensures) (
      λ h. ((run.0 h).0, omega (arith, (run.0 h).1, c.min-high.ensures)),
      λ h. run.1 (h.0, omega (arith, h.1, small, c.min-high.ensures)),
    )
