-- No colon, a bound that is not of bytes, and bounds that are none.
use Rattle.droid_pattern.proofs.TextLemmas.{same_bytes}
use Rattle.droid_signature_pattern.proofs.BoundLemmas.{no_colon, several_parts}
use Rattle.droid_signature_pattern.proofs.FaultLemmas.{passed_on}
use Rattle.droid_signature_pattern.proofs.item_parser.several_of.Goals as goal

pub returns-in_err-from-clause-bad : goal.returns-in_err-from-clause-bad
returns-in_err-from-clause-bad c = λ _ low high h. no_colon c.args.body.now (rw c.in_err-from.ensures.ok_part at c.split_at_mark.ensures) low high h

pub returns-in_err-low-clause-bad : goal.returns-in_err-low-clause-bad
returns-in_err-low-clause-bad c = λ was low high h.
    let cut = rw c.in_ok-from.ensures.ok_part at c.split_at_mark.ensures in
    let (bottom, top, bounds) = several_parts c.args.body.now c.in_ok-from.from.now c.in_ok-from.to.now cut.0 cut.1 low high h in
    c.in_err-low.ensures.bad (passed_on c.from_residual-in_err-low.result _ c.from_residual-in_err-low.ensures.1 was) low bottom

pub returns-in_err-high-clause-bad : goal.returns-in_err-high-clause-bad
returns-in_err-high-clause-bad c = λ was low high h.
    let cut = rw c.in_ok-from.ensures.ok_part at c.split_at_mark.ensures in
    let (bottom, top, bounds) = several_parts c.args.body.now c.in_ok-from.from.now c.in_ok-from.to.now cut.0 cut.1 low high h in
    c.in_err-high.ensures.bad (passed_on c.from_residual-in_err-high.result _ c.from_residual-in_err-high.ensures.1 was) high top

pub returns-then-not-are_bounds-clause-bad : goal.returns-then-not-are_bounds-clause-bad
returns-then-not-are_bounds-clause-bad c = λ _ low high h.
    let cut = rw c.in_ok-from.ensures.ok_part at c.split_at_mark.ensures in
    let (bottom, top, bounds) = several_parts c.args.body.now c.in_ok-from.from.now c.in_ok-from.to.now cut.0 cut.1 low high h in
    let lower = same_bytes low c.in_ok-low.low.items c.in_ok-from.from.now bottom.0 c.in_ok-low.ensures.spelled.0 in
    let upper = same_bytes high c.in_ok-high.high.items c.in_ok-from.to.now top.0 c.in_ok-high.ensures.spelled.0 in
    c.if-not-are_bounds.ensures (rw (c.as_slice.ensures.value, c.as_slice-2.ensures.value) (rw (lower, upper) at bounds))
