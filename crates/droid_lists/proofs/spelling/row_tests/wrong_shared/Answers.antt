use Rattle.std.proofs.Common.{◌∙◌, sym, arith}
use Rattle.csv.specs.Records.{fields_of}
use Rattle.droid_lists.proofs.SharedColumns.{differs, equals, other_column, same_column}
use Rattle.droid_lists.proofs.spelling.row_tests.wrong_shared.Goals as goal

pub returns-then-ne : goal.returns-then-ne
returns-then-ne c =
    let test = differs _ c.ne.result c.ne.ensures c.if-ne.true in
    sym (
    c.loop-column.invariant
    ∙ other_column (fields_of c.args.first.now) (fields_of c.args.row.now) c.loop-column.column (omega (arith, c.loop-column-test.true))
    (rw (c.field.ensures, c.field-in-loop-column.ensures) at test)
    )

pub loop-column-preserved : goal.loop-column-preserved
loop-column-preserved c =
    let test = equals _ c.ne.result c.ne.ensures c.if-ne.false in
    c.loop-column.invariant
    ∙ same_column (fields_of c.args.first.now) (fields_of c.args.row.now) c.loop-column.column (omega (arith, c.loop-column-test.true))
    (rw (c.field.ensures, c.field-in-loop-column.ensures) at test)
