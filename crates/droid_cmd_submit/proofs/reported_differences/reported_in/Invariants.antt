use Rattle.std.proofs.Common.{◌≡◌, map, take}
use Rattle.droid_cmd_submit.specs.DifferenceLines.{is_reported}
use Rattle.droid_cmd_submit.proofs.reported_differences.reported_in.Given as goal

abbrev pub invariant-loop-difference : goal.invariant-loop-difference
invariant-loop-difference l = l.reported.items ≡ map (is_reported l.skipped l.known) (take l.difference-index l.differences)
