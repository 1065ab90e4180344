use Rattle.std.proofs.Common.{sym}
use Rattle.droid_cmd_submit.proofs.difference_line.RestDisplay.fmt.Goals as goal

pub returns-in-Other-clause-writes : goal.returns-in-Other-clause-writes
returns-in-Other-clause-writes g c plain ok = rw (c.in-Other.is, sym c.column_name-name.ensures) (c.write.ensures.writes plain ok)
