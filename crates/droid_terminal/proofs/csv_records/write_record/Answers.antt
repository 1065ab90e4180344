use Rattle.std.proofs.Common.{◌≡◌, ◌≢◌, ◌++◌, ◌<◌, ℕ, List, [], ◌∷◌, length, map, ◌∙◌, refl, Option, Some, None, arith}
use Rattle.std.specs.Borrow.{Bor}
use Rattle.std.specs.Io.KnownBytes.{Appends}
use Rattle.csv.specs.Writing as csv
use Rattle.csv.specs.declared.writer.QuoteStyle.TheVariants as style
use Rattle.droid_export.specs.Csv.{line}
use Rattle.droid_export.specs.CsvBuffer.{always}
use Rattle.droid_export.proofs.CsvText.{line_same}
use Rattle.droid_terminal.proofs.csv_records.write_record.Goals as goal
use Rattle.droid_terminal.proofs.csv_records.write_record.Goals.{in-Ok, in-Err}

appended : (old new : Option (List ℕ)) (text bytes : List ℕ) → old ≡ Some text → Appends old new bytes → new ≡ Some (text ++ bytes)
appended old None text bytes is more = absurd (rw is at more)
appended old (Some now) text bytes is more = let grown : now ≡ text ++ bytes = rw is at more in rw grown refl

-- a record of two fields or more
row_is : (fields : List (Bor (List ℕ))) → 1 < length fields → csv.row_text always (map (λ field. field.now) fields) ≡ line (map (λ field. field.now) fields)
row_is [] some = absurd (omega (arith, some))
row_is (field ∷ []) some = absurd (omega (arith, some))
row_is (field ∷ next ∷ fields) some = line_same field.now next.now (map (λ field. field.now) fields)

pub returns : goal.returns
returns c = elim c.match-write_fields.branch [
  | in-Ok w ↦ rw w.result-is (λ text holds.
      let plain : (csv.writer_setup c.args.writer.now).style ≢ style.NonNumeric = rw holds.setup (λ e. cc e) in
      let more = w.in-Ok.ensures.bytes holds.fields holds.wrote plain in
      record {
        setup = w.in-Ok.ensures.setup ∙ holds.setup;
        fields = w.in-Ok.ensures.ended;
        wrote = w.in-Ok.ensures.clean;
        written = appended _ _ text _ holds.written (rw (holds.setup, row_is c.args.fields.now c.requires) at more);
      })
  | in-Err w ↦ rw w.result-is tt
]
