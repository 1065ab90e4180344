use Rattle.std.proofs.Common.{◌≡◌, ◌∷◌, [], map, length, Some, None, ap, sym, ◌∙◌, arith}
use Rattle.std.proofs.lemmas.List.{map-append}
use Rattle.std.proofs.lemmas.Iterator.Splits.{YieldsList-from_str_split}
use Rattle.std.proofs.lemmas.Iterator.Consumers.{YieldsList-turn, YieldsList-end}
use Rattle.std.specs.List.{slice_split}
use Rattle.std.specs.Str.Iter.{split_text, split_has_more, split_pattern}
use Rattle.droid_lines.specs.Exports.{every, criterion_word, criteria_words}
use Rattle.droid_lines.specs.Words.{is_byte}
use Rattle.droid_lines.proofs.Criteria.{every_more, every_none}
use Rattle.droid_lines.proofs.exports.parse_criteria.Goals as goal

pub returns-in_default : goal.returns-in_default
unfolding criteria_words
returns-in_default c =
    let given = c.split-word-items.ensures in
    let same = c.into_iter-word-iterator.ensures.into_iter_gives in
    let steps = YieldsList-from_str_split {s = c.into_iter-word-iterator.result} 32 c.args.text.now (omega arith) (ap split_text same ∙ given.text) (ap split_has_more same ∙ given.has_more) (ap split_pattern same ∙ given.pattern) in
    let turn = YieldsList-turn steps c.loop-word.yielded _ c.loop-word.yielded_by c.next.result c.next.new.self c.in-Some.word c.in-Some.is c.next.ensures.steps in
    let none : criterion_word c.in-Some.word.now ≡ None = sym c.in_ok-criterion.ensures ∙ c.in_default.is in
    sym (every_none criterion_word (slice_split (is_byte 32) c.args.text.now) (length c.loop-word.yielded) c.in-Some.word.now turn.0 (ap criterion_word (sym turn.1) ∙ none))

pub loop-word-preserved : goal.loop-word-preserved
loop-word-preserved c =
    let read : criterion_word c.in-Some.word.now ≡ Some c.in-Some-2.criterion = sym c.in_ok-criterion.ensures ∙ c.in-Some-2.is in
    ap (every criterion_word) (map-append (λ word. word.now) c.loop-word.yielded (c.in-Some.word ∷ []))
    ∙ (every_more criterion_word (map (λ word. word.now) c.loop-word.yielded) c.loop-word.criteria c.in-Some.word.now c.in-Some-2.criterion c.loop-word.invariant read
    ∙ ap Some (sym c.in_ok-push.ensures.ok))

pub returns : goal.returns
unfolding criteria_words
returns c =
    let given = c.split-word-items.ensures in
    let same = c.into_iter-word-iterator.ensures.into_iter_gives in
    let steps = YieldsList-from_str_split {s = c.into_iter-word-iterator.result} 32 c.args.text.now (omega arith) (ap split_text same ∙ given.text) (ap split_has_more same ∙ given.has_more) (ap split_pattern same ∙ given.pattern) in
    let end = YieldsList-end steps c.loop-word.yielded _ c.loop-word.yielded_by c.next.result c.next.new.self c.in-None.is c.next.ensures.steps in
    sym c.loop-word.invariant ∙ ap (every criterion_word) end.0
