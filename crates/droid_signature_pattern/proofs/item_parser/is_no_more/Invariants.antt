-- The bytes so far are the same.
use Rattle.std.proofs.Common.{◌≡◌, take}
use Rattle.droid_signature_pattern.proofs.item_parser.is_no_more.Given as goal

abbrev pub invariant-loop-i : goal.invariant-loop-i
invariant-loop-i l = take l.i l.low ≡ take l.i l.high
