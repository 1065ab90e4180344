use Rattle.std.proofs.Common.{◌≡◌, ◌++◌, map, take}
use Rattle.droid_lists.specs.Comparing.{more_by, path_in}
use Rattle.droid_lists.specs.EntryMaps.{kept_of}
use Rattle.droid_lists.proofs.comparison.add_more.Given as goal

abbrev pub invariant-loop-one : goal.invariant-loop-one
invariant-loop-one l = l.found.items ≡ l.initial.found.items ++ more_by (path_in l.paths) (map kept_of (take l.one-index l.listed))
