use Rattle.droid_export.proofs.reading.rows.Rows.take.Goals as goal

pub returns-then-repeated : goal.returns-then-repeated
returns-then-repeated c = rw c.if-repeated.true (c.repeat.ensures c.args.entry)
