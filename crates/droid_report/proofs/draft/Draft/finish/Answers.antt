use Rattle.std.proofs.Common.{◌∙◌, Option, refl, sym, ap}
use Rattle.droid_report.specs.Rows.{finished}
use Rattle.droid_export.specs.declared.header.Header.{Header}
use Rattle.droid_report.proofs.draft.Draft.finish.Goals as goal

pub returns-in-Some : goal.returns-in-Some
returns-in-Some c = λ old is. (
  record { hash = c.in-Some.header.hash; lines = old.lines },
  ap (λ (header : Option Header). finished header old.lines) (sym is.header ∙ c.in-Some.is),
  record { hash = refl; counts = is.counts },
)
