use Rattle.droid_core.specs.Kept.{files_of}
use Rattle.droid_core.proofs.Places.{of_read}
use Rattle.droid_core.proofs.unfinished.files.UnfinishedFiles.kept_bytes.Goals as goal

pub returns-clause-kept : goal.returns-clause-kept
returns-clause-kept c = rw (← c.self.view_is) (of_read (files_of c.self.inside) c.args.place c.index.result.now c.index.ensures _ c.kept_bytes.ensures.kept)

pub returns-clause-bound : goal.returns-clause-bound
returns-clause-bound c = rw (← c.self.view_is) (of_read (files_of c.self.inside) c.args.place c.index.result.now c.index.ensures _ c.kept_bytes.ensures.bound)

pub returns-clause-most_of_small : goal.returns-clause-most_of_small
returns-clause-most_of_small c = rw (← c.self.view_is) (of_read (files_of c.self.inside) c.args.place c.index.result.now c.index.ensures _ c.kept_bytes.ensures.most_of_small)
