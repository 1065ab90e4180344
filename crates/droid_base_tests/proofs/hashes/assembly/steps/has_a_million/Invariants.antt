-- no piece is pending
use Rattle.std.proofs.Common.{◌≡◌, None}
use Rattle.droid_base_tests.proofs.hashes.assembly.steps.has_a_million.Given as goal

abbrev pub invariant-loop-index : goal.invariant-loop-index
invariant-loop-index l = l.assembly.pending ≡ None
