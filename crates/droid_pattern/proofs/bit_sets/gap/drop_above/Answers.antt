-- What is cut off lies past the last place.
use Rattle.std.proofs.Common.{◌∙◌}
use Rattle.droid_pattern.proofs.ResizeLemmas.{written_back, bounded}
use Rattle.droid_pattern.proofs.bit_sets.gap.drop_above.Goals as goal

pub returns-clause-places : goal.returns-clause-places
returns-clause-places c =
    let words = c.clear_past.new.words in
    let back = written_back words c.truncate.new.self.items c.truncate.new.self.len (c.clear_past.ensures.len ∙ c.deref_mut.ensures.len) in
    bounded c.args.words.now.items words c.trim.new.words.items c.args.last
    (rw (c.deref_mut.ensures.value, c.truncate.ensures.items) at c.clear_past.ensures.places)
    (rw back at c.trim.ensures.places)
