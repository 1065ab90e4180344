use Rattle.std.proofs.Common.{refl, ◌∙◌}
use Rattle.std.proofs.lemmas.Result.{err_from_is_err_and}
use Rattle.droid_recovery.proofs.BareRequests.{finish_recovered, found_there, has_assembly, may_take, found_reply}
use Rattle.droid_recovery.proofs.NextEntries.{stamp_new, stamp_small}
use Rattle.droid_recovery.proofs.finishes.recover_finish.Goals as goal

pub returns-in_err-see_new-clause-memory : goal.returns-in_err-see_new-clause-memory
returns-in_err-see_new-clause-memory c = λ setting bare history entry was is same_reply.
    let fault = err_from_is_err_and c.from_residual.result c.from_residual.ensures.1 in
    rw (fault.1, fault.2) (c.in_err-see_new.ensures.memory (stamp_new setting history entry is.may c.args.stamp is.stamped c.args.holdings.now.store was.replies) (stamp_small setting history entry is.may c.args.stamp is.stamped))

pub returns-in_default-clause-memory : goal.returns-in_default-clause-memory
returns-in_default-clause-memory c = λ setting bare history entry was is same_reply.
    absurd (has_assembly setting bare c.args.holdings.now history entry c.args.stamp c.args.reply.now was same_reply c.args.profile c.args.file is (c.in_default.ensures.none.0 refl))

pub returns-in_err-keep_reply-clause-memory : goal.returns-in_err-keep_reply-clause-memory
returns-in_err-keep_reply-clause-memory c = λ setting bare history entry was is same_reply.
    let fault = err_from_is_err_and c.from_residual-in_err-keep_reply.result c.from_residual-in_err-keep_reply.ensures.1 in
    rw (fault.1, fault.2)
    (c.in_err-keep_reply.ensures.memory
    (found_there setting bare c.args.holdings.now history entry c.args.stamp c.args.reply.now was same_reply c.args.profile c.args.file is)
    (found_reply setting bare c.args.holdings.now history entry c.args.stamp c.args.reply.now was same_reply c.args.profile c.args.file is)
    (rw c.see_new.ensures.same (may_take setting bare c.args.holdings.now history entry c.args.stamp c.args.reply.now was same_reply c.args.profile c.args.file is)))

pub returns-clause-recovers : goal.returns-clause-recovers
returns-clause-recovers c = λ setting bare history entry was is same_reply.
    let stored =
    c.in_ok-keep_reply.ensures.kept
    (found_there setting bare c.args.holdings.now history entry c.args.stamp c.args.reply.now was same_reply c.args.profile c.args.file is)
    (found_reply setting bare c.args.holdings.now history entry c.args.stamp c.args.reply.now was same_reply c.args.profile c.args.file is)
    ∙ (rw (c.in-Ok.ensures.row, c.see_new.ensures.same) refl) in
    finish_recovered setting bare c.args.holdings.now history entry c.args.stamp c.args.reply.now was same_reply c.args.profile c.args.file is
    c.keep_reply.new.store c.remove.new.self c.in-Some.place c.requires.spelled stored c.in-Some.ensures.place
    (record { gone = c.remove.ensures.gone; others = c.remove.ensures.others; count = c.remove.ensures.count; limit = c.remove.ensures.limit })
