-- There are fewer bytes each time.
use Rattle.std.proofs.Common.{length}
use Rattle.droid_signature_pattern.proofs.range_texts.+add_up_to.Given as goal

abbrev pub decreases-add_up_to : goal.decreases-add_up_to
decreases-add_up_to l = length l.high.now
