-- the batch fits what was read so far
use Rattle.droid_profile.specs.FilesRead.{ReadsOn}
use Rattle.droid_profile.specs.TurnsLeft.{batch_left}
use Rattle.droid_profile.proofs.lanes.reader.read_files.Given as goal

abbrev pub invariant-turns : goal.invariant-turns
invariant-turns g l = ReadsOn g.T.Tree.observes g.W.Watcher.hears l.registry l.options l.fn.batch.files.items l.batch l.fn.tree l.tree l.fn.watcher l.watcher

abbrev pub decreases-turns : goal.decreases-turns
decreases-turns g l = batch_left l.batch
