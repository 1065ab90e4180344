-- There are fewer bytes each time.
use Rattle.std.proofs.Common.{length}
use Rattle.droid_signature_pattern.proofs.range_texts.+add_upward.Given as goal

abbrev pub decreases-add_upward : goal.decreases-add_upward
decreases-add_upward l = length l.low.now
