use Rattle.std.proofs.Common.{◌≡◌, List, [], ◌∷◌, ◌++◌, Some, None}
use Rattle.droid_assembly.specs.Pieces.{Piece}
use Rattle.droid_assembly.specs.State.{StandsFor, IsOfSameFile}
use Rattle.droid_core.specs.Kept.{files_of}
use Rattle.droid_core.proofs.Keeping.{kept_changed}
use Rattle.droid_core.proofs.Places.{inside, alike, turned}
use Rattle.droid_core.proofs.unfinished.files.UnfinishedFiles.settle.Goals as goal

pub invariant_of-self : goal.invariant_of-self
invariant_of-self c =
    kept_changed c.self.inside c.self.invariant c.args.place c.index_mut.result.now c.settle.new.self c.index_mut.ensures.value (inside c.self.inside c.args.self.now c.args.place c.self.view_is c.requires.within) c.settle.ensures.same_file.scan_limit

pub returns-clause-stands : goal.returns-clause-stands
returns-clause-stands c =
    rw (← c.self.view_is) (turned (files_of c.self.inside) c.args.place c.index_mut.result.now c.settle.new.self c.index_mut.ensures.value (λ before after. (pieces : List Piece) (piece : Piece) → StandsFor before pieces → before.pending ≡ Some piece → StandsFor after (pieces ++ piece ∷ [])) c.settle.ensures.stands)

pub returns-clause-same_file : goal.returns-clause-same_file
returns-clause-same_file c =
    rw (← c.self.view_is) (turned (files_of c.self.inside) c.args.place c.index_mut.result.now c.settle.new.self c.index_mut.ensures.value (IsOfSameFile) c.settle.ensures.same_file)

pub returns-clause-none_pending : goal.returns-clause-none_pending
returns-clause-none_pending c =
    rw (← c.self.view_is) (turned (files_of c.self.inside) c.args.place c.index_mut.result.now c.settle.new.self c.index_mut.ensures.value (λ before after. after.pending ≡ None) c.settle.ensures.none_pending)

pub returns-clause-others : goal.returns-clause-others
returns-clause-others c =
    rw (← c.self.view_is) (alike (files_of c.self.inside) c.args.place c.index_mut.result.now c.settle.new.self c.self.invariant.distinct c.index_mut.ensures.value (inside c.self.inside c.args.self.now c.args.place c.self.view_is c.requires.within))
