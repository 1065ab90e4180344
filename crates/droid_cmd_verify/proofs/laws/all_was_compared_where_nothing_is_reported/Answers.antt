use Rattle.droid_cmd_verify.proofs.Agreeing.{agree}
use Rattle.droid_cmd_verify.proofs.laws.all_was_compared_where_nothing_is_reported.Goals as goal

pub returns : goal.returns
returns g c = λ listed found checked changes old new compares are. agree listed found checked changes old new compares are
