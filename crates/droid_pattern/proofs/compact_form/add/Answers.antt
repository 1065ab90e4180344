-- The last cell takes in the next.
use Rattle.std.proofs.Common.{◌≡◌, ◌+◌, ◌-◌, length, refl, arith}
use Rattle.std.specs.Vec.{vec_len}
use Rattle.droid_pattern.specs.Cells.{elements_at}
use Rattle.droid_pattern.proofs.StarLemmas.{last_joined}
use Rattle.droid_pattern.proofs.compact_form.add.Goals as goal

pub returns-in-Some-joined : goal.returns-in-Some-joined
returns-in-Some-joined c =
    let cells = c.args.cells.now in
    let place = vec_len cells - 1 in
    let some = c.in-Some.ensures.variant.0 refl in
    let end : place + 1 ≡ length cells.items = omega (arith, cells.ok.0, some) in
    λ pool. last_joined (elements_at pool) cells.items place c.in-Some.last.now c.args.cell c.in-Some-joined.joined end c.in-Some.ensures.value (c.in-Some-joined.ensures pool)
