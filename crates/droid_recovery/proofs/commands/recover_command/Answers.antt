use Rattle.std.proofs.Common.{sym, ◌∙◌}
use Rattle.droid_recovery.proofs.CameAgain.{answered_again, none_there, some_isnt}
use Rattle.droid_recovery.proofs.NextEntries.{stamp_new, stamp_small, still_on, whole_on}
use Rattle.droid_core.specs.Changes.{answered}
use Rattle.droid_recovery.proofs.commands.recover_command.Goals as goal

pub returns-in-Ok-None-clause-recovers : goal.returns-in-Ok-None-clause-recovers
returns-in-Ok-None-clause-recovers c = λ setting bare history entry was is asked.
    rw c.reply_from.ensures
    (whole_on setting bare (record c.args.holdings.now { store = c.kept_row.new.store }) c.apply.new.holdings history entry c.args.stamp c.args.request (answered c.apply.result) is asked
    (rw c.kept_row.ensures.same was) c.apply.ensures.spelled c.apply.ensures.answers)

pub returns-in-Ok-None-clause-still : goal.returns-in-Ok-None-clause-still
returns-in-Ok-None-clause-still c = λ setting bare history was refused.
    still_on setting bare (record c.args.holdings.now { store = c.kept_row.new.store }) c.apply.new.holdings history c.args.stamp c.args.request (answered c.apply.result)
    (rw c.kept_row.ensures.same was) (rw c.reply_from.ensures at refused) c.apply.ensures.answers c.apply.ensures.query

pub returns-in-Ok-None-clause-again : goal.returns-in-Ok-None-clause-again
returns-in-Ok-None-clause-again c = λ setting bare history entry was small there same.
    absurd (none_there setting bare c.args.holdings.now history entry c.args.stamp was there c.in-Ok-None.field-0 c.in-Ok-None.ensures.found c.in-Ok-None.field-0-is)

pub returns-in-Ok-Some-clause-recovers : goal.returns-in-Ok-Some-clause-recovers
returns-in-Ok-Some-clause-recovers c = λ setting bare history entry was is asked.
    absurd (some_isnt c.in-Ok-Some.row _ (sym c.in-Ok-Some.field-0-is ∙ c.in-Ok-Some.ensures.found) (stamp_new setting history entry is.may c.args.stamp is.stamped c.args.holdings.now.store was.replies))

pub returns-in-Ok-Some-clause-again : goal.returns-in-Ok-Some-clause-again
returns-in-Ok-Some-clause-again c = λ setting bare history entry was small there same. (
  answered_again setting bare c.args.holdings.now history entry c.args.stamp was there c.in-Ok-Some.row c.answer_again.result (sym c.in-Ok-Some.field-0-is ∙ c.in-Ok-Some.ensures.found) same c.answer_again.ensures.kept,
  rw c.kept_row.ensures.same was,
)

pub returns-clause-recovers : goal.returns-clause-recovers
returns-clause-recovers c = λ setting bare history entry was is asked.
    absurd (
    let reported = c.in-Err-Unfit.ensures.memory (stamp_small setting history entry is.may c.args.stamp is.stamped) in
    let unfit = c.in-Err-Unfit.field-0-is in
    cc)
