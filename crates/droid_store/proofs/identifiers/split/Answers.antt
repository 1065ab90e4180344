use Rattle.std.proofs.Common.{ap, ◌∙◌, arith}
use Rattle.std.proofs.lemmas.Iterator.Splits.{YieldsList-from_str_split}
use Rattle.std.proofs.lemmas.Iterator.Consumers.{YieldsList-end}
use Rattle.std.specs.Str.Iter.{split_text, split_has_more, split_pattern}
use Rattle.droid_store.proofs.identifiers.split.Goals as goal

pub returns : goal.returns
returns c =
    let given = c.split-word-items.ensures in
    let same = c.into_iter-word-iterator.ensures.into_iter_gives in
    let steps = YieldsList-from_str_split {s = c.into_iter-word-iterator.result} 32 c.args.text.now (omega arith) (ap split_text same ∙ given.text) (ap split_has_more same ∙ given.has_more) (ap split_pattern same ∙ given.pattern) in
    let end = YieldsList-end steps c.loop-word.yielded _ c.loop-word.yielded_by c.next.result c.next.new.self c.in-None.is c.next.ensures.steps in
    c.loop-word.invariant ∙ end.0
