use Rattle.std.proofs.Common.{◌≡◌, List, None, ap}
use Rattle.droid_assembly.specs.Pieces.{Piece}
use Rattle.droid_assembly.specs.State.{State, StandsFor, with_pending}
use Rattle.droid_core.specs.Kept.{files_of}
use Rattle.droid_core.proofs.Keeping.{kept_changed}
use Rattle.droid_core.proofs.Places.{inside, alike, turned}
use Rattle.droid_core.proofs.unfinished.files.UnfinishedFiles.take_back.Goals as goal

pub invariant_of-self : goal.invariant_of-self
invariant_of-self c =
    kept_changed c.self.inside c.self.invariant c.args.place c.index_mut.result.now c.take_back.new.self c.index_mut.ensures.value (inside c.self.inside c.args.self.now c.args.place c.self.view_is c.requires.within) (ap (λ (a : State). a.scan_limit) c.take_back.ensures.as_before)

pub returns-clause-as_before : goal.returns-clause-as_before
returns-clause-as_before c =
    rw (← c.self.view_is) (turned (files_of c.self.inside) c.args.place c.index_mut.result.now c.take_back.new.self c.index_mut.ensures.value (λ before after. after ≡ with_pending before None) c.take_back.ensures.as_before)

pub returns-clause-stands : goal.returns-clause-stands
returns-clause-stands c =
    rw (← c.self.view_is) (turned (files_of c.self.inside) c.args.place c.index_mut.result.now c.take_back.new.self c.index_mut.ensures.value (λ before after. (pieces : List Piece) → StandsFor before pieces → StandsFor after pieces) c.take_back.ensures.stands)

pub returns-clause-others : goal.returns-clause-others
returns-clause-others c =
    rw (← c.self.view_is) (alike (files_of c.self.inside) c.args.place c.index_mut.result.now c.take_back.new.self c.self.invariant.distinct c.index_mut.ensures.value (inside c.self.inside c.args.self.now c.args.place c.self.view_is c.requires.within))
