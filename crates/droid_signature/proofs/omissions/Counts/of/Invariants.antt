-- The first of them are counted.
use Rattle.std.proofs.Common.{take}
use Rattle.droid_signature.specs.AllLeftOut.{AreCountsOf}
use Rattle.droid_signature.proofs.omissions.Counts.of.Given as goal

abbrev pub invariant-loop-it : goal.invariant-loop-it
invariant-loop-it l = AreCountsOf (take l.it-index l.left_out) l.counts
