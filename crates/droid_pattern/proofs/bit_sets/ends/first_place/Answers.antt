-- No word with a place, and the first one.
use Rattle.std.proofs.Common.{rules}
use Rattle.droid_pattern.proofs.SetLemmas.{no_place, lowest_place}
use Rattle.droid_pattern.proofs.bit_sets.ends.first_place.Goals as goal

pub returns-in_err-place : goal.returns-in_err-place
returns-in_err-place c = rw c.from_residual.ensures (no_place c.args.words.now c.in_err-place.ensures)

pub returns : goal.returns
returns c = lowest_place c.args.words.now c.in_ok-place.place c.in_ok-place.ensures.1 (search rules) c.in_ok-place.ensures.2
