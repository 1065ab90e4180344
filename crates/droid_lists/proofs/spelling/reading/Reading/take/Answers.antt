use Rattle.std.proofs.Common.{◌∷◌, inl, inr, refl, arith}
use Rattle.csv.specs.Records.{fields_of}
use Rattle.droid_lists.specs.ProfileTexts.{InFirst}
use Rattle.droid_lists.proofs.EntryTaken.{entry_read, more_wrong}
use Rattle.droid_lists.proofs.RowsRead.{row_broken, row_read, spelled_shorter}
use Rattle.droid_lists.proofs.spelling.reading.Reading.take.Goals as goal

pub returns-in-Err : goal.returns-in-Err
returns-in-Err c = λ all stands below.
    InFirst refl (inl (row_broken c.args.text.now (fields_of c.read_row.new.row) c.in-Err.column (rw c.in-Err.is at c.in_ok-read.ensures)))

pub returns-in-Some : goal.returns-in-Some
returns-in-Some c = λ all stands below.
    InFirst refl (inr (record {
      row = fields_of c.read_row.new.row;
      rest = c.in-Ok.rest.now;
      spelled = row_read c.args.text.now (fields_of c.read_row.new.row) c.in-Ok.rest (rw c.in-Ok.is at c.in_ok-read.ensures);
      other = (rw c.in-Some.is at c.in_ok-wrong.ensures) all stands.entries stands.formats c.new-own.ensures;
    }))

pub returns-in-Err-more : goal.returns-in-Err-more
returns-in-Err-more c = λ all stands below.
    let spelled = row_read c.args.text.now (fields_of c.read_row.new.row) c.in-Ok.rest (rw c.in-Ok.is at c.in_ok-read.ensures) in
    let right = (rw c.in-None.is at c.in_ok-wrong.ensures) all stands.entries stands.formats c.new-own.ensures in
    more_wrong c.args.hash all (fields_of c.read_row.new.row) c.args.text.now c.in-Ok.rest.now c.in-Err-more.wrong.rows c.in-Err-more.wrong.column spelled right.0
    ((rw c.in-Err-more.is at c.in_ok-more.ensures) all right.1 right.2)

pub returns : goal.returns
returns c = λ all stands below.
    let first = fields_of c.read_row.new.row in
    let spelled = row_read c.args.text.now first c.in-Ok.rest (rw c.in-Ok.is at c.in_ok-read.ensures) in
    let right = (rw c.in-None.is at c.in_ok-wrong.ensures) all stands.entries stands.formats c.new-own.ensures in
    let shorter = spelled_shorter c.args.text.now first c.in-Ok.rest.now spelled in
    let come = (rw c.in-Ok-more.is at c.in_ok-more.ensures) all right.1 right.2 in
    entry_read c.args.hash all c.args.self.now (record { entries = c.add.new.self; formats = c.take_more.new.formats }) c.take_more.new.formats c.take_more.new.own
    (record { number = c.saturating_add.result; row = c.read_row.new.row; puids = c.finish.result }) first c.args.text.now c.in-Ok.rest.now c.in-Ok-more.rest.now c.rows_in-count.result
    stands spelled right.0 come c.rows_in-count.ensures refl
    (record { row = refl; number = omega (arith, c.saturating_add.ensures, stands.entries.rows, below, shorter); puids = c.finish.ensures (first ∷ come.more) come.has })
    c.in_ok-add.ensures below
