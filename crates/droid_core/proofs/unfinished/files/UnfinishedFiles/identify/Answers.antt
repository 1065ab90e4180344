use Rattle.droid_assembly.specs.State.{IsUnchanged}
use Rattle.droid_core.specs.Kept.{files_of}
use Rattle.droid_core.proofs.Keeping.{kept_changed}
use Rattle.droid_core.proofs.Places.{inside, of_read, alike, turned}
use Rattle.droid_core.proofs.unfinished.files.UnfinishedFiles.identify.Goals as goal

pub invariant_of-self : goal.invariant_of-self
invariant_of-self c =
    kept_changed c.self.inside c.self.invariant c.args.place c.index_mut.result.now c.identify_whole.new.file c.index_mut.ensures.value (inside c.self.inside c.args.self.now c.args.place c.self.view_is c.requires.within) c.identify_whole.ensures.unchanged.same_file.scan_limit

pub returns-clause-identifies : goal.returns-clause-identifies
returns-clause-identifies c = rw (← c.self.view_is) (of_read (files_of c.self.inside) c.args.place c.index_mut.result.now c.index_mut.ensures.value _ c.identify_whole.ensures.identifies)

pub returns-clause-unchanged : goal.returns-clause-unchanged
returns-clause-unchanged c =
    rw (← c.self.view_is) (turned (files_of c.self.inside) c.args.place c.index_mut.result.now c.identify_whole.new.file c.index_mut.ensures.value (IsUnchanged) c.identify_whole.ensures.unchanged)

pub returns-clause-others : goal.returns-clause-others
returns-clause-others c =
    rw (← c.self.view_is) (alike (files_of c.self.inside) c.args.place c.index_mut.result.now c.identify_whole.new.file c.self.invariant.distinct c.index_mut.ensures.value (inside c.self.inside c.args.self.now c.args.place c.self.view_is c.requires.within))
