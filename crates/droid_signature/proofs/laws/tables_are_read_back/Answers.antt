-- Tables are read row by row.
use Rattle.droid_signature.proofs.StepsOfTables.{tables_read}
use Rattle.droid_signature.proofs.laws.tables_are_read_back.Goals as goal

pub returns : goal.returns
returns c = tables_read
