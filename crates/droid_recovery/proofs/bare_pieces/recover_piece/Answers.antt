use Rattle.std.proofs.Common.{refl, ◌∙◌}
use Rattle.std.proofs.lemmas.Result.{err_from_is_err_and}
use Rattle.droid_recovery.proofs.BareRequests.{piece_recovered}
use Rattle.droid_recovery.proofs.NextEntries.{stamp_new, stamp_small}
use Rattle.droid_recovery.proofs.bare_pieces.recover_piece.Goals as goal

pub returns-in_err-see_new-clause-memory : goal.returns-in_err-see_new-clause-memory
returns-in_err-see_new-clause-memory c = λ setting bare history entry was is same_reply.
    let fault = err_from_is_err_and c.from_residual.result c.from_residual.ensures.1 in
    rw (fault.1, fault.2) (c.in_err-see_new.ensures.memory (stamp_new setting history entry is.may c.args.stamp is.stamped c.args.holdings.now.store was.replies) (stamp_small setting history entry is.may c.args.stamp is.stamped))

pub returns-in-Ok-commit_piece-clause-recovers : goal.returns-in-Ok-commit_piece-clause-recovers
returns-in-Ok-commit_piece-clause-recovers c = λ setting bare history entry was is same_reply.
    let stored = c.in-Ok-commit_piece.ensures.ok ∙ (rw (c.in-Ok.ensures.row, c.see_new.ensures.same) refl) in
    piece_recovered setting bare c.args.holdings.now history entry c.args.stamp c.args.reply.now was same_reply is c.commit_piece.new.self c.requires.spelled stored
