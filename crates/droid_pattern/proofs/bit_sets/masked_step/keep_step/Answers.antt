-- In two passes, or in one over the words, one more of them.
use Rattle.std.proofs.Common.{◌∙◌}
use Rattle.droid_pattern.proofs.ResizeLemmas.{written_back}
use Rattle.droid_pattern.proofs.MaskedStepLemmas.{kept_steps}
use Rattle.droid_pattern.proofs.bit_sets.masked_step.keep_step.Goals as goal

pub returns : goal.returns
returns c =
    let words = c.step_kept.new.words in
    let back = written_back words c.push.new.self.items c.push.new.self.len (c.step_kept.ensures.len ∙ c.deref_mut.ensures.len) in
    kept_steps c.args.words.now.items c.push.new.self.items c.args.others.now words c.trim.new.words.items c.in_ok-push.ensures.items
    (rw c.deref_mut.ensures.value at c.step_kept.ensures.moves)
    (rw back at c.trim.ensures.places)
