use Rattle.droid_core.specs.Kept.{files_of}
use Rattle.droid_core.proofs.Places.{of_read}
use Rattle.droid_core.proofs.unfinished.files.UnfinishedFiles.held.Goals as goal

pub returns-clause-count : goal.returns-clause-count
returns-clause-count c = rw (← c.self.view_is) (of_read (files_of c.self.inside) c.args.place c.index.result.now c.index.ensures _ c.held.ensures.count)

pub returns-clause-stands : goal.returns-clause-stands
returns-clause-stands c = rw (← c.self.view_is) (of_read (files_of c.self.inside) c.args.place c.index.result.now c.index.ensures _ c.held.ensures.stands)
