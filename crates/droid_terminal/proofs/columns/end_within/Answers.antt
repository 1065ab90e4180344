use Rattle.std.proofs.Common.{ℕ, ◌+◌, ◌*◌, ◌<◌, ◌≤◌, [], length, sym, arith}
use Rattle.std.proofs.lemmas.List.{drop_all}
use Rattle.droid_terminal.proofs.Cutting.{end_is, nothing_fits}
use Rattle.droid_terminal.proofs.columns.end_within.Goals as goal

pub returns : goal.returns
returns c =
    let text = c.args.text.now in
    let low = c.saturating_sub-from.result in
    end_is text [] c.args.columns low (length text) (omega arith) (λ (n : ℕ) (short : length text ≤ n + c.args.columns * 4). omega arith)
    (sym (drop_all (length text) text (omega arith))) (nothing_fits c.args.columns)
    (λ (n : ℕ) (late : low ≤ n) (within : n < length text). c.loop-at.invariant n late (omega arith))
