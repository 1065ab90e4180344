use Rattle.droid_recovery.proofs.Starting.{starts}
use Rattle.droid_recovery.proofs.laws.new_holdings_are_recovered.Goals as goal

pub returns : goal.returns
returns c setting bare holdings is rows files room = starts setting bare holdings is rows files room
