-- One more digit.
use Rattle.std.proofs.Common.{◌≡◌, ◌<◌, get_or, ap, arith}
use Rattle.std.proofs.lemmas.List.Elements.{All-more}
use Rattle.std.specs.Char.{digit_value}
use Rattle.droid_pattern.proofs.TextLemmas.{decimal_more, power_more}
use Rattle.droid_pattern.proofs.parser.number_of.Goals as goal

pub loop-digit-preserved : goal.loop-digit-preserved
loop-digit-preserved c =
    let digits = c.args.digits.now in
    let i = c.loop-digit.digit-index in
    let read : digit_value c.from.result ≡ digit_value (get_or digits i 0) = ap digit_value c.from.ensures in
    let value = c.in_ok-digit.ensures.value in
    record {
      few = c.loop-digit.invariant.few;
      below = power_more c.loop-digit.value c.in_ok-digit.digit i c.loop-digit.invariant.below (omega (arith, value.0, value.1));
      valued = omega (arith, decimal_more digits i c.loop-digit-test.true, c.loop-digit.invariant.valued, value.1, read);
      digits = All-more (λ d. digit_value d < 10) digits i 0 c.loop-digit-test.true c.loop-digit.invariant.digits (omega (arith, value.0, read));
    }
