use Rattle.std.proofs.Common.{take}
use Rattle.droid_lists.specs.Comparing.{HasPaths}
use Rattle.droid_lists.proofs.comparison.paths_of.Given as goal

abbrev pub invariant-loop-one : goal.invariant-loop-one
invariant-loop-one l = HasPaths l.paths (take l.one-index l.known)
