use Rattle.std.proofs.Common.{◌≡◌, List, Some}
use Rattle.droid_assembly.specs.Pieces.{Piece}
use Rattle.droid_assembly.specs.State.{StandsFor, with_pending}
use Rattle.droid_core.specs.Kept.{files_of}
use Rattle.droid_core.proofs.Keeping.{kept_changed, put_scan_limit}
use Rattle.droid_core.proofs.Places.{inside, of_read, alike, turned, turned_ok, same_err}
use Rattle.droid_core.proofs.unfinished.files.UnfinishedFiles.put.Goals as goal

pub invariant_of-self : goal.invariant_of-self
invariant_of-self c =
    kept_changed c.self.inside c.self.invariant c.args.place c.index_mut.result.now c.put.new.self c.index_mut.ensures.value (inside c.self.inside c.args.self.now c.args.place c.self.view_is c.requires.within) (put_scan_limit c.put.result c.index_mut.result.now.assembly c.put.new.self (Some (c.args.index, c.args.bytes)) c.put.ensures.pending c.put.ensures.err)

pub returns-clause-bad_piece : goal.returns-clause-bad_piece
returns-clause-bad_piece c = rw (← c.self.view_is) (of_read (files_of c.self.inside) c.args.place c.index_mut.result.now c.index_mut.ensures.value _ c.put.ensures.bad_piece)

pub returns-clause-piece_held : goal.returns-clause-piece_held
returns-clause-piece_held c = rw (← c.self.view_is) (of_read (files_of c.self.inside) c.args.place c.index_mut.result.now c.index_mut.ensures.value _ c.put.ensures.piece_held)

pub returns-clause-too_far_ahead : goal.returns-clause-too_far_ahead
returns-clause-too_far_ahead c = rw (← c.self.view_is) (of_read (files_of c.self.inside) c.args.place c.index_mut.result.now c.index_mut.ensures.value _ c.put.ensures.too_far_ahead)

pub returns-clause-ok : goal.returns-clause-ok
returns-clause-ok c = rw (← c.self.view_is) (of_read (files_of c.self.inside) c.args.place c.index_mut.result.now c.index_mut.ensures.value _ c.put.ensures.ok)

pub returns-clause-pending : goal.returns-clause-pending
returns-clause-pending c =
    rw (← c.self.view_is) (turned_ok c.put.result (files_of c.self.inside) c.args.place c.index_mut.result.now c.put.new.self c.index_mut.ensures.value (λ before after. after ≡ with_pending before (Some (c.args.index, c.args.bytes))) c.put.ensures.pending)

pub returns-clause-err : goal.returns-clause-err
returns-clause-err c =
    rw (← c.self.view_is) (same_err c.put.result (files_of c.self.inside) c.args.place c.index_mut.result.now c.put.new.self c.index_mut.ensures.value c.put.ensures.err)

pub returns-clause-stands : goal.returns-clause-stands
returns-clause-stands c =
    rw (← c.self.view_is) (turned (files_of c.self.inside) c.args.place c.index_mut.result.now c.put.new.self c.index_mut.ensures.value (λ before after. (pieces : List Piece) → StandsFor before pieces → StandsFor after pieces) c.put.ensures.stands)

pub returns-clause-others : goal.returns-clause-others
returns-clause-others c =
    rw (← c.self.view_is) (alike (files_of c.self.inside) c.args.place c.index_mut.result.now c.put.new.self c.self.invariant.distinct c.index_mut.ensures.value (inside c.self.inside c.args.self.now c.args.place c.self.view_is c.requires.within))
