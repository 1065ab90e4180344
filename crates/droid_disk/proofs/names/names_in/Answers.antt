use Rattle.std.proofs.Common.{ap, ◌∙◌, filter, tests, rules}
use Rattle.std.proofs.lemmas.Iterator.Splits.{YieldsList-from_slice_split}
use Rattle.std.proofs.lemmas.Iterator.Consumers.{YieldsList-end}
use Rattle.std.specs.Slice.Iter.{split_rest, split_done, split_callee}
use Rattle.droid_disk.specs.Names.{is_entry}
use Rattle.droid_disk.proofs.FilteredParts.{filtered_more}
use Rattle.droid_disk.proofs.names.names_in.Goals as goal

pub loop-name-preserved : goal.loop-name-preserved
loop-name-preserved c = filtered_more is_entry c.loop-name.yielded c.in-Some.name c.loop-name.names.items c.add_entry.new.names.items c.loop-name.invariant c.in_ok-add_entry.ensures

pub returns : goal.returns
returns c =
    let given = c.split-name-items.ensures in
    let same = c.into_iter-name-iterator.ensures.into_iter_gives in
    let steps = YieldsList-from_slice_split {s = c.into_iter-name-iterator.result} _ _ c.args.bytes.now (ap split_rest same ∙ given.rest) (ap split_done same ∙ given.done) (ap split_callee same ∙ given.closure) (λ x r q k. search (rules, tests)) in
    let end = YieldsList-end steps c.loop-name.yielded _ c.loop-name.yielded_by c.next.result c.next.new.self c.in-None.is c.next.ensures.steps in
    c.loop-name.invariant ∙ ap (filter is_entry) end.0
