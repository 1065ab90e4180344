use Rattle.std.proofs.Common.{◌∙◌, inl, inr, refl, sym}
use Rattle.csv.specs.Records.{fields_of}
use Rattle.droid_lists.specs.ProfileTexts.{names_of}
use Rattle.droid_lists.proofs.NamesRead.{are_names}
use Rattle.droid_lists.proofs.RowsRead.{row_broken, row_read}
use Rattle.droid_lists.proofs.spelling.profile_text.read_names.Goals as goal

pub returns-in-Err : goal.returns-in-Err
returns-in-Err c = inl (row_broken c.args.text.now (fields_of c.read_row.new.row) c.in-Err.column (rw c.in-Err.is at c.in_ok-read.ensures))

pub returns-in-Some : goal.returns-in-Some
returns-in-Some c =
    inr (record {
      row = fields_of c.read_row.new.row;
      rest = c.in-Ok.rest.now;
      spelled = row_read c.args.text.now (fields_of c.read_row.new.row) c.in-Ok.rest (rw c.in-Ok.is at c.in_ok-read.ensures);
      other = sym c.other_name.ensures ∙ c.in-Some.is;
    })

pub returns : goal.returns
returns c =
    let spelled = row_read c.args.text.now (fields_of c.read_row.new.row) c.in-Ok.rest (rw c.in-Ok.is at c.in_ok-read.ensures) in
    let names = are_names (fields_of c.read_row.new.row) (names_of c.args.hash) spelled.count refl (sym c.other_name.ensures ∙ c.in-None.is) in
    rw names at spelled.whole
