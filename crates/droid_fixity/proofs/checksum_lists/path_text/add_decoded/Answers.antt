use Rattle.std.proofs.Common.{◌∙◌, ◌++◌, ℕ, List, ap, rules, tests}
use Rattle.std.proofs.lemmas.Iterator.Consumers.{YieldsList-end}
use Rattle.std.proofs.lemmas.Iterator.Splits.{YieldsList-from_slice_split}
use Rattle.std.specs.Slice.Iter.{split_callee, split_done, split_rest}
use Rattle.droid_fixity.specs.Spellings.{decoded_parts}
use Rattle.droid_fixity.proofs.checksum_lists.path_text.add_decoded.Goals as goal

pub returns : goal.returns
returns c =
    let given = c.split-part-items.ensures in
    let same = c.into_iter-part-iterator.ensures.into_iter_gives in
    let steps = YieldsList-from_slice_split {s = c.into_iter-part-iterator.result} _ _ c.args.text.now (ap split_rest same ∙ given.rest) (ap split_done same ∙ given.done) (ap split_callee same ∙ given.closure) (λ x r q k. search (rules, tests)) in
    let end = YieldsList-end steps c.loop-part.yielded _ c.loop-part.yielded_by c.next.result c.next.new.self c.in-None.is c.next.ensures.steps in
    c.loop-part.invariant.so_far ∙ ap (λ (parts : List (List ℕ)). c.args.path.now.items ++ decoded_parts parts) end.0
