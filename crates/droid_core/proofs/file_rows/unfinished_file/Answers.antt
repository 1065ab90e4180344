use Rattle.std.proofs.Common.{sym}
use Rattle.std.proofs.lemmas.Result.{err_from_is_err_and}
use Rattle.droid_core.proofs.CannotBe.{no_assembly, one_pending}
use Rattle.droid_core.proofs.FileVerdicts.{already_finished, found_unfinished, nowhere_unfinished}
use Rattle.droid_core.proofs.file_rows.unfinished_file.Goals as goal

pub returns-in_err-row-clause-found : goal.returns-in_err-row-clause-found
returns-in_err-row-clause-found c = λ setting world keeps has.
    let fault = err_from_is_err_and c.from_residual.result c.from_residual.ensures.1 in
    rw (fault.1, fault.2) (nowhere_unfinished world c.args.files.now c.args.profile c.args.file _ (c.in_err-row.ensures.found setting world keeps))

pub returns-then-not-is_unfinished-clause-found : goal.returns-then-not-is_unfinished-clause-found
returns-then-not-is_unfinished-clause-found c = λ setting world keeps has.
    already_finished world c.args.profile c.args.file c.in_ok-row.row (c.in_ok-row.ensures.found setting world keeps) c.args.files.now (sym c.if-not-is_unfinished.ensures)

pub returns-in_err-place-clause-found : goal.returns-in_err-place-clause-found
returns-in_err-place-clause-found c = λ setting world keeps has.
    absurd (no_assembly world c.args.profile c.args.file c.in_ok-row.row (c.in_ok-row.ensures.found setting world keeps) c.args.files.now has (sym c.if-not-is_unfinished.ensures) c.in_err-place.ensures.none)

pub returns-in_err-none_is_pending-clause-found : goal.returns-in_err-none_is_pending-clause-found
returns-in_err-none_is_pending-clause-found c = λ setting world keeps has.
    absurd (one_pending world c.args.profile c.args.file c.in_ok-row.row (c.in_ok-row.ensures.found setting world keeps) c.args.files.now has (sym c.if-not-is_unfinished.ensures)
    c.in_ok-place.place c.in_ok-place.ensures.place c.in_err-none_is_pending.ensures.pending)

pub returns-clause-found : goal.returns-clause-found
returns-clause-found c = λ setting world keeps has.
    found_unfinished world c.args.profile c.args.file c.in_ok-row.row (c.in_ok-row.ensures.found setting world keeps) c.args.files.now has (sym c.if-not-is_unfinished.ensures) c.in_ok-place.place c.in_ok-place.ensures.place
