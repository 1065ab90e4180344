-- The second byte of a range isn't one.
use Rattle.std.proofs.Common.{arith}
use Rattle.droid_pattern.specs.Patterns.{Range}
use Rattle.droid_pattern.proofs.TextLemmas.{five_in_brackets}
use Rattle.droid_signature_pattern.proofs.item_parser.range_of.Goals as goal

pub returns-in_err-high-in-58 : goal.returns-in_err-high-in-58
returns-in_err-high-in-58 c =
    rw c.from_residual-in_err-high-in-58.ensures (λ low high h. five_in_brackets c.args.body.now (omega arith) c.in_err-high-in-58.ensures (Range low high) h)
