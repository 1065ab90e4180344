use Rattle.droid_disk.proofs.Tops.{trimmed}
use Rattle.droid_disk.proofs.folder.without_slashes.Goals as goal

pub returns : goal.returns
returns c = trimmed c.args.path.now c.trim_end_matches.result.now c.trim_end_matches.ensures.matches
