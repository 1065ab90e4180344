use Rattle.std.proofs.Common.{◌≡◌, ◌∙◌, ℕ, Bool, List, sym, ap, subst}
use Rattle.std.specs.Prelude.{if◌then◌else◌}
use Rattle.csv.specs.Records.{fields_of}
use Rattle.droid_export.specs.Headers.{whole_row, widened}
use Rattle.droid_report.specs.Calls.{Leaves}
use Rattle.droid_report.specs.Rows.{facts_of, with_row}
use Rattle.droid_report.proofs.draft.Draft.take_behind.Goals as goal

pub returns : goal.returns
returns c = λ old is some.
    let header = c.args.header in
    let row = fields_of c.args.row in
    let wide : fields_of c.widen.new.wide ≡ whole_row header row
    = c.in_ok-widen.ensures ∙ sym (ap (λ (whole : Bool). if whole then row else widened header row) (sym c.is_whole.ensures ∙ c.if-is_whole.false)) in
    subst (λ (fields : List (List ℕ)). Leaves c.take_row-2.result c.take_row-2.new.self (with_row old header.hash fields (facts_of fields))) wide (c.take_row-2.ensures old is some)
