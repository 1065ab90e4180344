use Rattle.droid_core.proofs.LookUps.{records_found}
use Rattle.droid_core.proofs.laws.rows_are_the_records.Goals as goal

pub returns : goal.returns
returns c setting world rows number profile keeps there = records_found setting world rows number profile keeps there
