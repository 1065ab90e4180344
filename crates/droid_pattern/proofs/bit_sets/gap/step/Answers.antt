-- No word, or the words, one more of them, after they were moved.
use Rattle.std.proofs.Common.{◌∙◌, rules}
use Rattle.droid_pattern.proofs.ResizeLemmas.{written_back, stepped, stepped_none}
use Rattle.droid_pattern.proofs.bit_sets.gap.step.Goals as goal

pub returns-then-is_empty : goal.returns-then-is_empty
returns-then-is_empty c = stepped_none c.args.words.now.items (search rules)

pub returns : goal.returns
returns c =
    let words = c.advance.new.words in
    let back = written_back words c.push.new.self.items c.push.new.self.len (c.advance.ensures.len ∙ c.deref_mut.ensures.len) in
    stepped c.args.words.now.items c.push.new.self.items words c.trim.new.words.items c.in_ok-push.ensures.items
    (rw c.deref_mut.ensures.value at c.advance.ensures.moves)
    (rw back at c.trim.ensures.places)
