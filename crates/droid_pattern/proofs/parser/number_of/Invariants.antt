-- The value of the digits so far.
use Rattle.std.proofs.Common.{◌≡◌, ◌<◌, ◌≤◌, ◌^◌, length, take, All}
use Rattle.std.specs.Char.{digit_value}
use Rattle.droid_pattern.specs.PatternText.{decimal_after}
use Rattle.droid_pattern.proofs.parser.number_of.Given as goal

abbrev pub invariant-loop-digit : goal.invariant-loop-digit
invariant-loop-digit l = record {
  few : length l.digits ≤ 5;
  below : l.value < 10 ^ l.digit-index;
  valued : l.value ≡ decimal_after 0 (take l.digit-index l.digits);
  digits : All (λ d. digit_value d < 10) (take l.digit-index l.digits);
}
