-- The first bytes that differ decide, and where none differ the bytes are the same.
use Rattle.std.proofs.Common.{arith}
use Rattle.droid_signature_pattern.proofs.BoundLemmas.{compared, each_byte}
use Rattle.droid_signature_pattern.proofs.item_parser.is_no_more.Goals as goal

pub returns-then-low-i : goal.returns-then-low-i
returns-then-low-i c =
    compared c.args.low.now c.args.high.now c.loop-i.i
    (each_byte c.args.low.now (λ k. let below = c.type_inv.low k in omega arith)) (each_byte c.args.high.now (λ k. let below = c.type_inv.high k in omega arith))
    c.requires c.loop-i-test.true c.loop-i.invariant c.if-low-i.true
