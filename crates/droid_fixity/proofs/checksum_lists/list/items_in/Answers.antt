use Rattle.std.proofs.Common.{◌∙◌, [], ap, sym, arith, rules, tests}
use Rattle.std.specs.List.{slice_split}
use Rattle.std.proofs.lemmas.Iterator.Consumers.{YieldsList-end, YieldsList-so_far, YieldsList-turn}
use Rattle.std.proofs.lemmas.Iterator.Splits.{YieldsList-from_slice_split}
use Rattle.std.proofs.lemmas.List.{length_push}
use Rattle.std.specs.Slice.Iter.{split_callee, split_done, split_rest}
use Rattle.droid_fixity.specs.Lines.{meaning}
use Rattle.droid_fixity.specs.Lists.{items_from}
use Rattle.droid_fixity.specs.Texts.{ends_line}
use Rattle.droid_fixity.proofs.Reading.{next_line, wrong_line}
use Rattle.droid_fixity.proofs.checksum_lists.list.items_in.Goals as goal

pub loop-line-preserved : goal.loop-line-preserved
loop-line-preserved c =
    let so_far = c.loop-line.invariant.so_far in
    let number = c.loop-line.invariant.number in
    let what = c.in_ok-meaning.ensures ∙ ap (meaning c.args.form) c.without_return.ensures in
    let pushed = length_push c.loop-line.yielded c.in-Some.line in
    record {
      so_far = next_line c.args.form c.loop-line.yielded c.in-Some.line c.loop-line.number c.loop-line.items.items c.take.new.items.items c.in_ok-meaning.meaning so_far number what c.in_default.ensures;
      number = omega (arith, number, pushed);
    }

pub returns-in-Err : goal.returns-in-Err
returns-in-Err c = λ some.
    let given = c.split-line-items.ensures in
    let same = c.into_iter-line-iterator.ensures.into_iter_gives in
    let steps = YieldsList-from_slice_split {s = c.into_iter-line-iterator.result} _ _ c.args.text.now (ap split_rest same ∙ given.rest) (ap split_done same ∙ given.done) (ap split_callee same ∙ given.closure) (λ x r q k. search (rules, tests)) in
    let front = YieldsList-so_far steps c.loop-line.yielded _ c.loop-line.yielded_by in
    let turn = YieldsList-turn steps c.loop-line.yielded _ c.loop-line.yielded_by c.next.result c.next.new.self c.in-Some.line c.in-Some.is c.next.ensures.steps in
    let what = c.in_ok-meaning.ensures ∙ ap (meaning c.args.form) c.without_return.ensures in
    wrong_line c.args.form (slice_split (ends_line c.args.form) c.args.text.now) c.loop-line.yielded c.in-Some.line c.loop-line.number c.loop-line.items.items c.in-Err.fault c.in_ok-meaning.meaning front turn.0 turn.1
    c.loop-line.invariant.so_far c.loop-line.invariant.number what (c.in-Err.ensures some)

pub returns : goal.returns
returns c =
    let given = c.split-line-items.ensures in
    let same = c.into_iter-line-iterator.ensures.into_iter_gives in
    let steps = YieldsList-from_slice_split {s = c.into_iter-line-iterator.result} _ _ c.args.text.now (ap split_rest same ∙ given.rest) (ap split_done same ∙ given.done) (ap split_callee same ∙ given.closure) (λ x r q k. search (rules, tests)) in
    let end = YieldsList-end steps c.loop-line.yielded _ c.loop-line.yielded_by c.next.result c.next.new.self c.in-None.is c.next.ensures.steps in
    sym (ap (items_from c.args.form 1 []) end.0) ∙ c.loop-line.invariant.so_far
