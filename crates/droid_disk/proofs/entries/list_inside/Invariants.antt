-- The entries so far are those of the names so far, with their metadata.
use Rattle.droid_disk.proofs.Looks.{Looking}
use Rattle.droid_disk.proofs.entries.list_inside.Given as goal

abbrev pub invariant-loop-name : goal.invariant-loop-name
invariant-loop-name g l = Looking g.D.Disk.says l.folder l.yielded l.entries.items l.initial.disk l.disk
