use Rattle.std.proofs.Common.{length}
use Rattle.droid_journal.proofs.Going.{Going}
use Rattle.droid_journal.proofs.replay.replay.Given as goal

abbrev pub invariant-loop-found : goal.invariant-loop-found
invariant-loop-found g l = Going g.M.Machine.stands g.M.Machine.gives l.key l.fn.from l.bytes l.fn.machine l.rest l.place l.machine

abbrev pub decreases-loop-found : goal.decreases-loop-found
decreases-loop-found g l = length l.rest
