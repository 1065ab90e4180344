use Rattle.std.proofs.Common.{refl}
use Rattle.csv.specs.Records.{fields_of}
use Rattle.droid_lists.proofs.RowsTaken.{row_right, row_unspelled, row_wrong}
use Rattle.droid_lists.proofs.spelling.reading.take_row.Goals as goal

pub returns-in-Err : goal.returns-in-Err
returns-in-Err c =
    row_unspelled c.args.formats.now c.args.formats.now c.args.own.now c.args.own.now (fields_of c.args.first.now) (fields_of c.read_row.new.row) c.args.text.now c.in-Err.column
    (rw c.in-Err.is at c.in_ok-read.ensures)

pub returns-in-Some : goal.returns-in-Some
returns-in-Some c =
    row_wrong c.args.formats.now c.wrong_more.new.formats c.args.own.now c.wrong_more.new.own (fields_of c.args.first.now) (fields_of c.read_row.new.row) c.args.text.now c.in-Ok.rest c.in-Some.column
    (rw c.in-Ok.is at c.in_ok-read.ensures) (rw c.in-Some.is at c.in_ok-wrong.ensures)

pub returns-in-None : goal.returns-in-None
returns-in-None c =
    row_right c.args.formats.now c.wrong_more.new.formats c.args.own.now c.wrong_more.new.own (fields_of c.args.first.now) (fields_of c.read_row.new.row) c.args.text.now c.in-Ok.rest c.in-Ok.rest
    (rw c.in-Ok.is at c.in_ok-read.ensures) (rw c.in-None.is at c.in_ok-wrong.ensures) refl
