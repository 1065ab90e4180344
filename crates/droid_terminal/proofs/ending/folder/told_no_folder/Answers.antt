use Rattle.droid_terminal.proofs.ending.folder.told_no_folder.Goals as goal

pub returns : goal.returns
returns g c = (c.seen_folder.result, c.told_of_folder.ensures)
