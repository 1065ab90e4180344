-- There are fewer bytes each time.
use Rattle.std.proofs.Common.{length}
use Rattle.droid_signature_pattern.proofs.range_texts.+add_ranges.Given as goal

abbrev pub decreases-add_ranges : goal.decreases-add_ranges
decreases-add_ranges l = length l.low.now
