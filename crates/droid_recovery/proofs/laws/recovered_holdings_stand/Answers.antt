use Rattle.droid_recovery.proofs.WholeWorlds.{in_whole_world}
use Rattle.droid_recovery.proofs.laws.recovered_holdings_stand.Goals as goal

pub returns : goal.returns
returns c setting bare holdings history recovers ended = in_whole_world setting bare holdings history recovers ended
