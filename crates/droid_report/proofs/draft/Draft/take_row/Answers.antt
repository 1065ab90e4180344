use Rattle.std.proofs.Common.{◌≡◌, ◌∙◌, ◌+◌, ◌++◌, ◌∷◌, [], ℕ, not, Bool, Option, Some, option_map, sym, ap, subst}
use Rattle.csv.specs.Records.{fields_of}
use Rattle.droid_report.specs.Lines.{line_of}
use Rattle.droid_report.specs.Reports.{AreCounts}
use Rattle.droid_report.specs.Rows.{Line, has_id, last, with_row}
use Rattle.droid_report.specs.declared.row.Row.{Row}
use Rattle.droid_report.proofs.Lines.{last_pushed}
use Rattle.droid_report.proofs.draft.Draft.take_row.Goals as goal

pub returns-in_ok-add-in-Ok : goal.returns-in_ok-add-in-Ok
returns-in_ok-add-in-Ok c = λ old is some.
    let fields = fields_of c.args.row in
    let facts = c.in-Ok.facts in
    let line : Bool → Line = λ seen. record { fields = fields; facts = facts; is_first = not seen } in
    let seen = has_id (last old.lines) fields in
    let asked : c.has_id-is_first.result ≡ seen
    = c.has_id-is_first.ensures
    ∙ (ap (λ (o : Option Row). has_id (option_map line_of o) fields) c.as_ref.ensures.value ∙ ap (λ (o : Option Line). has_id o fields) is.last_line) in
    let same : line c.has_id-is_first.result ≡ line seen = ap line asked in (
      record { header = old.header; records = old.records + 1; lines = old.lines ++ line seen ∷ [] },
      ap (with_row old c.args.hash fields) (sym c.facts_of.ensures ∙ c.in-Ok.is),
      record {
        header = is.header;
        records = c.in-Some.ensures.1 ∙ ap (λ (n : ℕ). n + 1) is.records;
        last_line = ap Some same ∙ sym (last_pushed old.lines (line seen));
        counts = subst (λ (one : Line). AreCounts (old.lines ++ one ∷ []) c.add.new.self) same (c.in_ok-add-in-Ok.ensures old.lines is.counts);
        fresh = λ none. absurd (some none);
      },
    )
