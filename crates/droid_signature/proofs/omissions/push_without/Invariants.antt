-- The first formats are seen.
use Rattle.std.proofs.Common.{◌≡◌, ◌++◌, List, take}
use Rattle.droid_signature.specs.declared.left_out.LeftOut.{LeftOut}
use Rattle.droid_signature.specs.AllLeftOut.{AreCountsOf, without}
use Rattle.droid_signature.proofs.omissions.push_without.Given as goal

abbrev pub invariant-loop-place : goal.invariant-loop-place
invariant-loop-place l = (left : List LeftOut) → AreCountsOf left l.counts → l.all.items ≡ l.initial.all.items ++ without left (take l.place l.formats)
