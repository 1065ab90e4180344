use Rattle.std.proofs.Common.{refl, arith}
use Rattle.csv.specs.Records.{fields_of}
use Rattle.droid_lists.proofs.RowReadings.{all_read, one_broken, one_read}
use Rattle.droid_lists.proofs.spelling.text_row.read_row.Goals as goal

pub loop-column-preserved : goal.loop-column-preserved
loop-column-preserved c =
    let comes = rw (c.mark_behind.ensures, c.in-Some.is) at c.in_ok-next.ensures.comes in (
      c.in_ok-next.ensures.whole,
      one_read c.loop-column.column c.args.text.now c.loop-column.rest.now c.in-Some.behind.now (fields_of c.loop-column.row) (fields_of c.push_field.new.row) c.in-Some.behind
          (omega (arith, c.loop-column-test.true)) c.loop-column.invariant.1 comes refl,
    )

pub returns-in-None : goal.returns-in-None
returns-in-None c =
    let comes = rw (c.mark_behind.ensures, c.in-None.is) at c.in_ok-next.ensures.comes in
    one_broken c.loop-column.column c.args.text.now c.loop-column.rest.now (fields_of c.loop-column.row) (fields_of c.push_field.new.row) (fields_of c.push_field.new.row)
    (omega (arith, c.loop-column-test.true)) c.loop-column.invariant.1 comes

pub returns : goal.returns
returns c =
    all_read c.loop-column.column c.args.text.now (fields_of c.loop-column.row) c.loop-column.rest c.loop-column-test.false c.loop-column.invariant.1
