-- The names so far are those of the parts that were yielded.
use Rattle.std.proofs.Common.{◌≡◌, filter, map}
use Rattle.droid_disk.specs.Names.{is_entry}
use Rattle.droid_disk.proofs.names.names_in.Given as goal

abbrev pub invariant-loop-name : goal.invariant-loop-name
invariant-loop-name l = l.names.items ≡ filter is_entry (map (λ name. name.now) l.yielded)
