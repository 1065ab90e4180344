-- What begins with the first byte, and what is above it.
use Rattle.std.proofs.Common.{◌≡◌, ◌+◌, ◌++◌, length, ap, ◌∙◌, arith}
use Rattle.droid_signature_file.specs.Expansions.{range_before}
use Rattle.droid_signature_pattern.specs.Written.{behind}
use Rattle.droid_signature_pattern.proofs.RangeTexts.{upward_steps}
use Rattle.droid_signature_pattern.proofs.range_texts.+add_upward.Goals as goal

pub returns : goal.returns
returns t c =
    let same : c.from.result ≡ c.in-Some.l.now = omega arith in
    upward_steps c.args.texts.now c.add_upward.new.texts c.add_between.new.texts c.args.front.now c.as_slice.result.now c.args.low.now c.in-Some.lower.now c.in-Some.l.now c.in-Some.ensures.cases.0
    (c.as_slice.ensures.value ∙ c.in_ok-text.ensures) c.in_ok-add_upward.ensures (c.in_ok-add_between.ensures ∙ ap (λ n. c.add_upward.new.texts ++ behind c.args.front.now (range_before (n + 1) 256 (length c.in-Some.lower.now))) same)
