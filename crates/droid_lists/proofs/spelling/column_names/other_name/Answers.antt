use Rattle.std.proofs.Common.{◌∙◌, sym, arith}
use Rattle.std.proofs.lemmas.Slice.Eq.{bytes_eq-Decides}
use Rattle.csv.specs.Records.{fields_of}
use Rattle.droid_lists.specs.ProfileTexts.{names_of}
use Rattle.droid_lists.specs.RowReading.{at}
use Rattle.droid_lists.proofs.NamesRead.{all_names, right_name, wrong_name}
use Rattle.droid_lists.proofs.SharedColumns.{differs, equals}
use Rattle.droid_lists.proofs.spelling.column_names.other_name.Goals as goal

pub returns-then-ne : goal.returns-then-ne
returns-then-ne c =
    let test = differs _ c.ne.result c.ne.ensures c.if-ne.true in
    sym (
    c.loop-column.invariant
    ∙ wrong_name c.loop-column.column (fields_of c.args.row.now) (names_of c.args.hash) (omega (arith, c.loop-column-test.true))
    (rw (c.field.ensures, c.as_bytes.ensures.value, c.column_name.ensures) at test)
    )

pub loop-column-preserved : goal.loop-column-preserved
loop-column-preserved c =
    let test = rw (c.field.ensures, c.as_bytes.ensures.value, c.column_name.ensures) at (equals _ c.ne.result c.ne.ensures c.if-ne.false) in
    c.loop-column.invariant
    ∙ right_name c.loop-column.column (fields_of c.args.row.now) (names_of c.args.hash) (omega (arith, c.loop-column-test.true))
    ((bytes_eq-Decides (at (fields_of c.args.row.now) c.loop-column.column) (at (names_of c.args.hash) c.loop-column.column)).0 test)

pub returns : goal.returns
returns c =
    sym (c.loop-column.invariant ∙ all_names c.loop-column.column (fields_of c.args.row.now) (names_of c.args.hash) (omega (arith, c.loop-column-test.false)))
