use Rattle.std.proofs.Common.{◌≡◌, false}
use Rattle.droid_terminal.specs.SkippedPaths.{holds_front, is_held, some_below}
use Rattle.droid_terminal.proofs.skipped.skipped_paths.holds_above.Given as goal

abbrev pub invariant-loop-place : goal.invariant-loop-place
invariant-loop-place l = record {
  whole : is_held l.paths l.path ≡ false;
  none : some_below (holds_front (is_held l.paths) l.path) l.place ≡ false;
}
