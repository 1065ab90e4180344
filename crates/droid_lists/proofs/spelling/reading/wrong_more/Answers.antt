use Rattle.std.proofs.Common.{◌∙◌, sym}
use Rattle.csv.specs.Records.{fields_of}
use Rattle.droid_lists.proofs.RowsTaken.{more_taken}
use Rattle.droid_lists.proofs.spelling.reading.wrong_more.Goals as goal

pub returns : goal.returns
returns c =
    more_taken c.in_ok-wrong.wrong c.args.formats.now c.take.new.self c.args.own.now c.take.new.own (fields_of c.args.first.now) (fields_of c.args.row.now)
    (sym c.in-None.is ∙ c.wrong_shared.ensures) (rw c.formats_in.ensures at c.in_ok-wrong.ensures)
