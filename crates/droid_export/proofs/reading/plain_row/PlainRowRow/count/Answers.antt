use Rattle.std.proofs.Common.{◌∙◌, length, sym, ap}
use Rattle.droid_export.proofs.PlainRows.{count_is}
use Rattle.droid_export.proofs.reading.plain_row.PlainRowRow.count.Goals as goal

pub returns : goal.returns
returns c = ap length c.as_slice.ensures ∙ sym (count_is c.args.self.now.fields)
