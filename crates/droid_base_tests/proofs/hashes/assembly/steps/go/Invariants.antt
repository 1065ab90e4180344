-- no piece is pending
use Rattle.std.proofs.Common.{◌≡◌, None}
use Rattle.droid_base_tests.proofs.hashes.assembly.steps.go.Given as goal

abbrev pub invariant-loop-step : goal.invariant-loop-step
invariant-loop-step l = l.assembly.pending ≡ None
