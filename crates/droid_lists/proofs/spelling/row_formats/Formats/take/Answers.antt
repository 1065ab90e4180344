use Rattle.std.proofs.Common.{◌∙◌, eq-eqb, refl, sym}
use Rattle.std.proofs.lemmas.Bool.{ne_eqb}
use Rattle.csv.specs.Records.{fields_of}
use Rattle.droid_lists.specs.RowReading.{at}
use Rattle.droid_lists.proofs.FormatTaken.{a_format, no_format, same_text}
use Rattle.droid_lists.proofs.spelling.row_formats.Formats.take.Goals as goal

pub returns-then-count-eq0 : goal.returns-then-count-eq0
returns-then-count-eq0 c =
    no_format c.args.self.now c.args.self.now c.args.own.now c.args.own.now c.args.count (fields_of c.args.row.now) (sym c.in-None.is ∙ c.wrong.ensures) (eq-eqb c.args.count 0 c.if-count-eq0.true) refl refl

pub returns-in_ok-add-in-Some-text_of-2 : goal.returns-in_ok-add-in-Some-text_of-2
returns-in_ok-add-in-Some-text_of-2 c =
    let same = same_text (at (fields_of c.args.row.now) 14) c.in-Some-text_of.puid.now (rw (c.in-Some-text_of.is, c.field.ensures) at c.text_of.ensures) in
    a_format c.args.self.now c.add-in-Some-text_of.new.self c.args.own.now c.add.new.self c.args.count (fields_of c.args.row.now) (sym c.in-None.is ∙ c.wrong.ensures) (ne_eqb c.args.count 0 c.if-count-eq0.false)
    (rw same at c.in_ok-add-in-Some-text_of-2.ensures) (rw same at c.in_ok-add-in-Some-text_of.ensures)
