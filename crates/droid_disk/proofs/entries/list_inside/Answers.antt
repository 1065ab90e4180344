use Rattle.droid_disk.proofs.Looks.{one_more}
use Rattle.droid_disk.proofs.entries.list_inside.Goals as goal

pub loop-name-preserved : goal.loop-name-preserved
loop-name-preserved g c =
    one_more g.D.Disk.says c.args.folder.now c.loop-name.yielded c.in-Some.name c.loop-name.entries.items c.add.new.entries.items c.in_ok-entry.entry
    c.names.new.self c.loop-name.disk c.entry_of.new.disk c.loop-name.invariant c.in_ok-entry.ensures.name c.in_ok-entry.ensures.looks c.in_ok-add.ensures.added
