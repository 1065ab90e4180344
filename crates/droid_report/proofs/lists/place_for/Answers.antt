use Rattle.std.proofs.Common.{◌∙◌, ℕ, nat_lt, ap}
use Rattle.std.specs.List.{position_or_len}
use Rattle.droid_report.specs.Lines.{line_of}
use Rattle.droid_report.specs.Lists.{rank_of}
use Rattle.droid_report.specs.Rows.{Line}
use Rattle.droid_report.specs.declared.row.Row.{Row}
use Rattle.droid_report.proofs.Lines.{position_map}
use Rattle.droid_report.proofs.lists.place_for.Goals as goal

pub returns-clause-place : goal.returns-clause-place
returns-clause-place c =
    c.first_above.ensures.place
    ∙ (ap (λ (key : ℕ). position_or_len (λ (other : Row). nat_lt key (rank_of c.args.rank (line_of other))) c.args.rows.now) c.rank_of-key.ensures
    ∙ position_map line_of (λ (other : Line). nat_lt (rank_of c.args.rank (line_of c.args.row.now)) (rank_of c.args.rank other)) c.args.rows.now)
