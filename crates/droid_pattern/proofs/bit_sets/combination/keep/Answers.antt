-- The words that both have.
use Rattle.std.proofs.Common.{◌∙◌, ap, length}
use Rattle.droid_pattern.proofs.ResizeLemmas.{written_back, kept_places}
use Rattle.droid_pattern.proofs.bit_sets.combination.keep.Goals as goal

pub returns : goal.returns
returns c =
    let words = c.keep_words.new.words in
    let back = written_back words c.truncate.new.self.items c.truncate.new.self.len (c.keep_words.ensures.len ∙ c.deref_mut.ensures.len) in
    let cut = c.deref_mut.ensures.value ∙ c.truncate.ensures.items in
    kept_places c.args.words.now.items c.args.others.now words c.trim.new.words.items
    (c.keep_words.ensures.len ∙ ap length cut)
    (rw cut at c.keep_words.ensures.both)
    (rw back at c.trim.ensures.places)
