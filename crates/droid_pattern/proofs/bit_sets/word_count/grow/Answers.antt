-- What is added has no place.
use Rattle.std.proofs.Common.{◌-◌, take_all, arith}
use Rattle.droid_pattern.proofs.SetLemmas.{grown_places}
use Rattle.droid_pattern.proofs.bit_sets.word_count.grow.Goals as goal

pub returns-in_ok-resize-clause-places : goal.returns-in_ok-resize-clause-places
returns-in_ok-resize-clause-places c = λ p.
    rw (c.in_ok-resize.ensures.items, take_all c.args.count c.args.words.now.items (omega arith)) (grown_places c.args.words.now.items (c.args.count - c.args.words.now.len) p)
