use Rattle.std.proofs.Common.{◌≡◌, ℕ, List, take}
use Rattle.droid_terminal.specs.SkippedPaths.{has_path, is_held}
use Rattle.droid_terminal.proofs.skipped.skipped_paths.paths_of.Given as goal

abbrev pub invariant-loop-entry : goal.invariant-loop-entry
invariant-loop-entry l = (path : List ℕ) → is_held l.paths path ≡ has_path (take l.entry-index l.skipped) path
