-- Where the last word is there, and where it isn't.
use Rattle.droid_pattern.proofs.ResizeLemmas.{cleared, cleared_none}
use Rattle.droid_pattern.proofs.bit_sets.word_count.clear_past.Goals as goal

pub returns-then-last-words-clause-places : goal.returns-then-last-words-clause-places
returns-then-last-words-clause-places c = λ p. cleared c.args.words.now c.args.last c.run_of.result p c.requires c.if-last-words.true c.run_of.ensures

pub returns-else-last-words-clause-places : goal.returns-else-last-words-clause-places
returns-else-last-words-clause-places c = λ p. cleared_none c.args.words.now c.args.last p c.if-last-words.false
