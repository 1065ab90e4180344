use Rattle.std.proofs.Common.{ℕ, List, ◌≤◌, sym, subst}
use Rattle.droid_terminal.specs.Cuts.{columns_of}
use Rattle.droid_terminal.proofs.Joining.{joined_fits}
use Rattle.droid_terminal.proofs.line.line_of.Goals as goal

pub returns-clause-width : goal.returns-clause-width
returns-clause-width c =
    subst (λ (line : List ℕ). columns_of line ≤ c.args.columns) (sym c.in_ok-line.ensures)
    (joined_fits c.args.columns c.front_within-far.result.now c.end_within-end.result.now c.front_within-far.ensures.fits)
