use Rattle.std.proofs.Common.{ℕ, ◌*◌, ◌<◌, ◌≤◌, [], length, refl, arith}
use Rattle.droid_terminal.proofs.Cutting.{front_is, nothing_fits}
use Rattle.droid_terminal.proofs.columns.front_within.Goals as goal

pub returns : goal.returns
returns c =
    let text = c.args.text.now in
    let most = c.min-most.result in
    front_is text [] c.args.columns most 0 (omega arith) (λ (n : ℕ) (small : n ≤ length text) (short : n ≤ c.args.columns * 4). omega arith) (omega arith) refl (nothing_fits c.args.columns)
    (λ (n : ℕ) (more : 0 < n) (within : n ≤ most). c.loop-less.invariant n (omega arith) within)
