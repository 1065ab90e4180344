use Rattle.std.proofs.Common.{◌∙◌, List, [], Some, refl, sym, ap, subst}
use Rattle.droid_report.specs.Reports.{AreCounts}
use Rattle.droid_report.specs.Rows.{Line, last, with_columns}
use Rattle.droid_report.proofs.draft.Draft.begin.Goals as goal

pub returns-in-None : goal.returns-in-None
returns-in-None c = λ old is none. (
  record { header = Some c.args.header; records = 1; lines = [] },
  ap (with_columns c.args.header) (sym c.missing.ensures ∙ c.in-None.is),
  record {
    header = refl;
    records = refl;
    last_line = is.last_line ∙ ap last (is.fresh none);
    counts = subst (λ (lines : List Line). AreCounts lines c.args.self.now.counts) (is.fresh none) is.counts;
    fresh = λ e. refl;
  },
)
