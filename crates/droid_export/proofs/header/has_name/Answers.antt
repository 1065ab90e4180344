use Rattle.std.proofs.Common.{◌∙◌, sym, arith}
use Rattle.csv.specs.Records.{fields_of}
use Rattle.droid_export.proofs.NamesLeft.{name_found, name_passed}
use Rattle.droid_export.proofs.header.has_name.Goals as goal

pub returns-then-is_name : goal.returns-then-is_name
returns-then-is_name c =
    sym (name_found c.args.hash c.args.column (fields_of c.args.names.now) c.loop-place.place (omega (arith, c.loop-place-test.true, c.len-place-end.ensures)) (sym c.is_name.ensures ∙ c.if-is_name.true))
    ∙ c.loop-place.invariant

pub loop-place-preserved : goal.loop-place-preserved
loop-place-preserved c =
    sym (name_passed c.args.hash c.args.column (fields_of c.args.names.now) c.loop-place.place (omega (arith, c.loop-place-test.true, c.len-place-end.ensures)) (sym c.is_name.ensures ∙ c.if-is_name.false))
    ∙ c.loop-place.invariant
