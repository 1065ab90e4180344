-- the entries so far were taken
use Rattle.std.proofs.Common.{◌≡◌, ◌++◌, map, take}
use Rattle.droid_profile.specs.RowsPushed.{repeated_row}
use Rattle.droid_profile.proofs.walk.folders.push_repeated.Given as goal

abbrev pub invariant-loop-entry : goal.invariant-loop-entry
invariant-loop-entry l = l.rows.items ≡ l.fn.rows.items ++ map (repeated_row l.folder.path) (take l.entry-index l.repeated)
