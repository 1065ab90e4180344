use Rattle.std.proofs.Common.{arith}
use Rattle.droid_terminal.proofs.Counting.{none_counted, counts_more}
use Rattle.droid_terminal.proofs.totals.count_formats.Goals as goal

pub loop-puid-init : goal.loop-puid-init
loop-puid-init c = record { counts = none_counted c.args.formats.now; few = omega arith }

pub loop-puid-preserved : goal.loop-puid-preserved
loop-puid-preserved c = record {
  counts = counts_more c.args.formats.now c.loop-puid.formats c.count_format.new.formats c.as_slice-puid-items.result.now c.loop-puid.puid-index c.puid-item.result c.loop-puid.invariant.counts c.in_ok-count_format.ensures.counts
      c.loop-puid-test.true c.puid-item.is;
  few = omega (arith, c.loop-puid.invariant.few, c.count_format.ensures.few);
}
