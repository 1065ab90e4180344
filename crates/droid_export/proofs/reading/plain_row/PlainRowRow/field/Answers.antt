use Rattle.std.proofs.Common.{length, sym}
use Rattle.std.proofs.lemmas.Bool.{ltb-false, ltb-true}
use Rattle.droid_export.proofs.PlainRows.{field_found, no_field}
use Rattle.droid_export.proofs.reading.plain_row.PlainRowRow.field.Goals as goal

pub returns-in-Some : goal.returns-in-Some
returns-in-Some c =
    field_found c.args.self.now.fields c.args.place c.in-Some.field.now _
    (ltb-true c.args.place (length c.args.self.now.fields) (sym c.in-Some.ensures.lookup.0)) c.in-Some.ensures.lookup.1

pub returns-in-None : goal.returns-in-None
returns-in-None c = no_field c.args.self.now.fields c.args.place (ltb-false c.args.place (length c.args.self.now.fields) (sym c.in-None.ensures.lookup.0))
