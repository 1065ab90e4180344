use Rattle.std.proofs.Common.{◌∙◌, sym}
use Rattle.csv.specs.Records.{fields_of}
use Rattle.droid_lists.proofs.RowsTaken.{content_wrong, first_taken, place_wrong}
use Rattle.droid_lists.proofs.spelling.reading.wrong_first.Goals as goal

pub returns-in-Some : goal.returns-in-Some
returns-in-Some c =
    place_wrong c.args.entries.now c.args.formats.now c.args.formats.now c.args.own.now c.args.own.now c.args.hash (fields_of c.args.row.now) c.in-Some.column
    (sym c.in-Some.is ∙ c.in_ok-place.ensures)

pub returns-in-Some-wrong_content : goal.returns-in-Some-wrong_content
returns-in-Some-wrong_content c =
    content_wrong c.args.entries.now c.args.formats.now c.args.formats.now c.args.own.now c.args.own.now c.args.hash (fields_of c.args.row.now) c.in-Some-wrong_content.column
    (sym c.in-None.is ∙ c.in_ok-place.ensures) (sym c.in-Some-wrong_content.is ∙ c.wrong_content.ensures)

pub returns : goal.returns
returns c =
    first_taken c.in_ok-wrong.wrong c.args.entries.now c.args.formats.now c.take.new.self c.args.own.now c.take.new.own c.args.hash (fields_of c.args.row.now)
    (sym c.in-None.is ∙ c.in_ok-place.ensures) (sym c.in-None-wrong_content.is ∙ c.wrong_content.ensures) (rw c.formats_in.ensures at c.in_ok-wrong.ensures)
