use Rattle.droid_compaction.proofs.SideBySide.{sums_are}
use Rattle.droid_compaction.proofs.sums.Sums.of.Goals as goal

pub returns : goal.returns
returns c = sums_are c.args.form c.args.bytes.now c.places_of-left.result c.digests_of.result c.digests_of.ensures
