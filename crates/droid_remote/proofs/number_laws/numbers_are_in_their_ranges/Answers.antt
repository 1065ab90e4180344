use Rattle.droid_remote.proofs.Ranges.{digest_number-from, number_of-below, packed_of-below}
use Rattle.droid_remote.proofs.number_laws.numbers_are_in_their_ranges.Goals as goal

pub returns : goal.returns
returns c = record { below = number_of-below; packed = packed_of-below; digest = digest_number-from }
