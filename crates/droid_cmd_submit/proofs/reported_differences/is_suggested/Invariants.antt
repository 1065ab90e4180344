use Rattle.std.proofs.Common.{◌≡◌, take}
use Rattle.droid_cmd_submit.specs.DifferenceLines.{is_suggested}
use Rattle.droid_cmd_submit.proofs.reported_differences.is_suggested.Given as goal

abbrev pub invariant-loop-entry : goal.invariant-loop-entry
invariant-loop-entry l = l.suggested ≡ is_suggested (take l.entry-index l.skipped)
