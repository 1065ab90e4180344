-- The second byte of a range isn't one.
use Rattle.std.proofs.Common.{arith}
use Rattle.droid_pattern.proofs.TextLemmas.{five_in_brackets}
use Rattle.droid_pattern.proofs.parser.class_of.Goals as goal

pub returns-in_err-high-in-58 : goal.returns-in_err-high-in-58
returns-in_err-high-in-58 c = rw c.from_residual-in_err-high-in-58.ensures (five_in_brackets c.args.body.now (omega arith) c.in_err-high-in-58.ensures)
