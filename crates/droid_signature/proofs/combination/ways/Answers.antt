-- One more.
use Rattle.std.proofs.Common.{arith}
use Rattle.droid_signature.proofs.Counting.{ways_more}
use Rattle.droid_signature.proofs.combination.ways.Goals as goal

pub loop-choices-preserved : goal.loop-choices-preserved
loop-choices-preserved c = ways_more c.args.all.now c.loop-choices.choices-index c.choices-item.result c.loop-choices.count c.len.result c.times-count.result (omega arith) c.choices-item.is c.loop-choices.invariant c.len.ensures c.times-count.ensures
