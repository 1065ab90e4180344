-- Where no gap stands in braces.
use Rattle.std.proofs.Common.{⊎_elim, arith}
use Rattle.droid_pattern.proofs.TextLemmas.{undashed, dashed, same_number, star_number, no_star}
use Rattle.droid_pattern.proofs.parser.gap_of.Goals as goal

pub returns-in_err-least : goal.returns-in_err-least
returns-in_err-least c = rw c.from_residual.ensures (undashed c.args.body.now c.in_default.ensures c.in_err-least.ensures)

pub returns-in_err-least-2 : goal.returns-in_err-least-2
returns-in_err-least-2 c = rw c.from_residual-in_err-least-2.ensures (λ e h.
    let d = dashed c.args.body.now _ _ c.in-Some.ensures.0 c.in-Some.ensures.1 e h in c.in_err-least-2.ensures d.least d.number)

pub returns-in_err-most : goal.returns-in_err-most
returns-in_err-most c = rw c.from_residual-in_err-most.ensures (λ e h.
    let d = dashed c.args.body.now _ _ c.in-Some.ensures.0 c.in-Some.ensures.1 e h in
    ⊎_elim (λ w. c.in_err-most.ensures w.0 w.1) (λ star. no_star c.in-Some.high.now c.as_slice.result.now c.if-eq.ensures c.as_slice.ensures star) d.after)

pub returns-in_err-more : goal.returns-in_err-more
returns-in_err-more c = rw c.from_residual-in_err-more.ensures (λ e h.
    let d = dashed c.args.body.now _ _ c.in-Some.ensures.0 c.in-Some.ensures.1 e h in
    let low = same_number c.in-Some.low.now d.least c.in_ok-least-2.least d.number c.in_ok-least-2.ensures in
    ⊎_elim
    (λ w. let high = same_number c.in-Some.high.now w.0 c.in_ok-most.most w.1 c.in_ok-most.ensures in
    c.in_err-more.ensures (omega (arith, w.2)))
    (λ star. star_number c.in_ok-most.most (rw star at c.in_ok-most.ensures)) d.after)
