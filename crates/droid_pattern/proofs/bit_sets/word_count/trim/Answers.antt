-- What is cut off has no place.
use Rattle.droid_pattern.proofs.SetLemmas.{trimmed}
use Rattle.droid_pattern.proofs.bit_sets.word_count.trim.Goals as goal

pub returns-clause-places : goal.returns-clause-places
returns-clause-places c = rw c.truncate.ensures.items (trimmed c.args.words.now.items c.used.result (rw c.deref.ensures.value at c.used.ensures.rest))
