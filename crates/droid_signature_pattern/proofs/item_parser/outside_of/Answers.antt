-- What stands behind the exclamation mark is no range.
use Rattle.droid_signature_pattern.proofs.BoundLemmas.{outside_front}
use Rattle.droid_signature_pattern.proofs.item_parser.outside_of.Goals as goal

pub returns-in_err-low : goal.returns-in_err-low
returns-in_err-low c = rw c.from_residual-in_err-low.ensures (λ low high h.
    let (mark, range, some) = outside_front c.args.body.now c.in_ok-first.after.now c.in_ok-first.first.now c.in_ok-first.ensures.cases.0 low high h in
    c.in_err-low.ensures low high range)
