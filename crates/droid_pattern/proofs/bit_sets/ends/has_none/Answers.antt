-- The first word that isn't 0, and none.
use Rattle.std.proofs.Common.{◌+◌, ◌*◌, w64, get_or, rules}
use Rattle.std.specs.Int.{trailing_zeros}
use Rattle.droid_pattern.proofs.SetLemmas.{no_place, lowest_place}
use Rattle.droid_pattern.proofs.bit_sets.ends.has_none.Goals as goal

pub returns-in-Some-clause-some : goal.returns-in-Some-clause-some
returns-in-Some-clause-some c = λ _. (
  64 * c.in-Some.field-0 + trailing_zeros w64 (get_or c.args.words.now c.in-Some.field-0 0),
  (lowest_place c.args.words.now c.in-Some.field-0 c.in-Some.ensures.1 (search rules) c.in-Some.ensures.2).0,
)

pub returns-in-None-clause-none : goal.returns-in-None-clause-none
returns-in-None-clause-none c = λ _. no_place c.args.words.now c.in-None.ensures
