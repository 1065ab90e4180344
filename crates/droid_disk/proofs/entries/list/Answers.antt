use Rattle.droid_disk.proofs.Looks.{listed_then_left}
use Rattle.droid_disk.proofs.entries.list.Goals as goal

pub returns-clause-listed : goal.returns-clause-listed
returns-clause-listed g c =
    let inside = c.list_inside-listed in
    listed_then_left g.D.Disk.says c.args.path.now c.args.folder.now (λ listed. listed.items) c.args.disk.now inside.new.disk c.leave.new.self inside.result inside.ensures.listed c.leave.ensures.unseen
