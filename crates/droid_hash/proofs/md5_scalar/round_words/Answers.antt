use Rattle.std.proofs.Common.{refl, slice_index}
use Rattle.md5.proofs.Rounds.{add32_last}
use Rattle.droid_hash.proofs.md5_scalar.round_words.Goals as goal

pub returns : goal.returns
returns c = rw (c.rotate_left.ensures, add32_last (slice_index c.args.v 0) c.args.f c.args.k c.args.word) refl
