use Rattle.std.proofs.Common.{ap, ◌∙◌, arith}
use Rattle.std.proofs.lemmas.Iterator.Splits.{YieldsList-from_str_split}
use Rattle.std.proofs.lemmas.Iterator.Consumers.{YieldsList-end}
use Rattle.std.specs.Str.Iter.{split_text, split_has_more, split_pattern}
use Rattle.droid_lines.specs.Exports.{list_word}
use Rattle.droid_lines.proofs.exports.texts_in.Goals as goal

pub returns : goal.returns
unfolding list_word
returns c =
    let given = c.split-text-items.ensures in
    let same = c.into_iter-text-iterator.ensures.into_iter_gives in
    let steps = YieldsList-from_str_split {s = c.into_iter-text-iterator.result} 44 c.args.value.now (omega arith) (ap split_text same ∙ given.text) (ap split_has_more same ∙ given.has_more) (ap split_pattern same ∙ given.pattern) in
    let end = YieldsList-end steps c.loop-text.yielded _ c.loop-text.yielded_by c.next.result c.next.new.self c.in-None.is c.next.ensures.steps in
    c.loop-text.invariant ∙ end.0
