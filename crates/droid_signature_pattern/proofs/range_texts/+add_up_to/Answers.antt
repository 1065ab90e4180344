-- What is below the first byte, and what begins with it.
use Rattle.std.proofs.Common.{◌≡◌, ◌++◌, length, ap, ◌∙◌, arith}
use Rattle.droid_signature_file.specs.Expansions.{range_before}
use Rattle.droid_signature_pattern.specs.Written.{behind}
use Rattle.droid_signature_pattern.proofs.RangeTexts.{up_to_steps}
use Rattle.droid_signature_pattern.proofs.range_texts.+add_up_to.Goals as goal

pub returns : goal.returns
returns t c =
    let same : c.from.result ≡ c.in-Some.h.now = omega arith in
    up_to_steps c.args.texts.now c.add_between.new.texts c.add_up_to.new.texts c.args.front.now c.as_slice.result.now c.args.high.now c.in-Some.higher.now c.in-Some.h.now c.in-Some.ensures.cases.0
    (c.as_slice.ensures.value ∙ c.in_ok-text.ensures) (c.in_ok-add_between.ensures ∙ ap (λ n. c.args.texts.now ++ behind c.args.front.now (range_before 0 n (length c.in-Some.higher.now))) same) c.in_ok-add_up_to.ensures
