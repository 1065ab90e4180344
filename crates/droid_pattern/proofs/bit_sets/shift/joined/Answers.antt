-- Bits of two words.
use Rattle.std.proofs.Common.{rules}
use Rattle.droid_pattern.proofs.MoveLemmas.{moved_both}
use Rattle.droid_pattern.proofs.bit_sets.shift.joined.Goals as goal

pub returns : goal.returns
returns c = moved_both c.args.words.now c.args.place c.args.whole c.args.part c.requires.inside.0 c.requires.part.1 (search rules)
