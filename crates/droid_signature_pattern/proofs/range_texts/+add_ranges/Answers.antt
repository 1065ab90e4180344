-- Bounds with one first byte, and others.
use Rattle.std.proofs.Common.{◌≡◌, ◌∷◌, ◌++◌, ap, sym, ◌∙◌, arith}
use Rattle.droid_signature_file.specs.Expansions.{ranges}
use Rattle.droid_signature_pattern.specs.Written.{behind}
use Rattle.droid_signature_pattern.proofs.RangeTexts.{same_steps}
use Rattle.droid_signature_pattern.proofs.range_texts.+add_ranges.Goals as goal

pub returns-then-l-h : goal.returns-then-l-h
returns-then-l-h t c =
    let front = c.args.front.now in
    let high = c.in-Some-split_first.ensures.cases.0 in
    c.in_ok-add_apart.ensures
    ∙ ap (λ z. c.args.texts.now ++ behind front (ranges z (c.in-Some-split_first.h.now ∷ c.in-Some-split_first.higher.now))) (sym c.in-Some.ensures.cases.0)
    ∙ ap (λ z. c.args.texts.now ++ behind front (ranges c.args.low.now z)) (sym high)

pub returns : goal.returns
returns t c =
    let same : c.in-Some.l.now ≡ c.in-Some-split_first.h.now = omega arith in
    same_steps c.args.texts.now c.add_ranges.new.texts c.args.front.now c.as_slice.result.now c.args.low.now c.in-Some.lower.now c.args.high.now c.in-Some-split_first.higher.now c.in-Some.l.now c.in-Some-split_first.h.now
    c.in-Some.ensures.cases.0 c.in-Some-split_first.ensures.cases.0 same (c.as_slice.ensures.value ∙ c.in_ok-text.ensures) c.in_ok-add_ranges.ensures
