use Rattle.droid_lists.proofs.Compared.{KnownSoFar}
use Rattle.droid_lists.proofs.comparison.add_known.Given as goal

abbrev pub invariant-loop-place : goal.invariant-loop-place
invariant-loop-place l = KnownSoFar l.entries l.known l.initial.found.items l.found.items l.place
