use Rattle.droid_core.specs.Kept.{files_of}
use Rattle.droid_core.proofs.Places.{of_read}
use Rattle.droid_core.proofs.unfinished.files.UnfinishedFiles.missing.Goals as goal

pub returns-clause-least : goal.returns-clause-least
returns-clause-least c = rw (← c.self.view_is) (of_read (files_of c.self.inside) c.args.place c.index.result.now c.index.ensures _ c.missing.ensures.least)

pub returns-clause-within : goal.returns-clause-within
returns-clause-within c = rw (← c.self.view_is) (of_read (files_of c.self.inside) c.args.place c.index.result.now c.index.ensures _ c.missing.ensures.within)

pub returns-clause-complete : goal.returns-clause-complete
returns-clause-complete c = rw (← c.self.view_is) (of_read (files_of c.self.inside) c.args.place c.index.result.now c.index.ensures _ c.missing.ensures.complete)
