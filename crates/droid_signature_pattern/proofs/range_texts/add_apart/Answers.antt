-- What begins as the low bound, what is between, what begins as the high bound.
use Rattle.std.proofs.Common.{◌≡◌, ◌+◌, ◌++◌, length, ap, ◌∙◌, arith}
use Rattle.droid_signature_file.specs.Expansions.{range_before}
use Rattle.droid_signature_pattern.specs.Written.{behind}
use Rattle.droid_signature_pattern.proofs.RangeTexts.{apart_steps}
use Rattle.droid_signature_pattern.proofs.range_texts.add_apart.Goals as goal

pub returns : goal.returns
returns c =
    let l = c.args.l in
    let h = c.args.h in
    let count = length c.args.lower.now in
    let low : c.from.result ≡ l = omega arith in
    let high : c.from-2.result ≡ h = omega arith in
    let between = c.in_ok-add_between.ensures ∙ ap (λ n. c.add_upward.new.texts ++ behind c.args.front.now (range_before (n + 1) c.from-2.result count)) low
    ∙ ap (λ n. c.add_upward.new.texts ++ behind c.args.front.now (range_before (l + 1) n count)) high in
    apart_steps c.args.texts.now c.add_upward.new.texts c.add_between.new.texts c.add_up_to.new.texts c.args.front.now c.as_slice.result.now c.as_slice-2.result.now c.args.lower.now c.args.higher.now l h c.requires
    (c.as_slice.ensures.value ∙ c.in_ok-least.ensures) (c.as_slice-2.ensures.value ∙ c.in_ok-most.ensures) c.in_ok-add_upward.ensures between c.in_ok-add_up_to.ensures
