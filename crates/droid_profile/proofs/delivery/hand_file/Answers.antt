use Rattle.std.proofs.Common.{subst}
use Rattle.std.proofs.lemmas.Result.{err_from_is_err_and}
use Rattle.droid_profile.specs.Kids.{heard_of_file}
use Rattle.droid_profile.specs.FilesRead.{IsSettled}
use Rattle.droid_profile.specs.declared.lanes.file_row.FileRow.{FileRow}
use Rattle.droid_profile.specs.RowsTaken.{records_by}
use Rattle.droid_profile.proofs.FileHanded.{front_of_memory, front_whole}
use Rattle.droid_profile.proofs.delivery.hand_file.Goals as goal

pub returns-in_err-found-in-Whole-clause-ended : goal.returns-in_err-found-in-Whole-clause-ended
returns-in_err-found-in-Whole-clause-ended g c =
    let hears = g.W.Watcher.hears in
    let takes = g.R.Recipient.takes in
    let fails = g.R.Recipient.fails in
    let file : FileRow = c.args.file.now in
    let fault = err_from_is_err_and c.from_residual.result c.from_residual.ensures.1 in
    rw (fault.1, fault.2) (λ registry options was reading settled.
    front_of_memory hears takes fails (heard_of_file registry options was.record.path was.entry reading reading.ending) (records_by registry options was reading reading.ending) c.args.watcher.now c.args.recipient.now)

pub returns-in_err-give-in-Whole-clause-ended : goal.returns-in_err-give-in-Whole-clause-ended
returns-in_err-give-in-Whole-clause-ended g c =
    let hears = g.W.Watcher.hears in
    let takes = g.R.Recipient.takes in
    let fails = g.R.Recipient.fails in
    let file : FileRow = c.args.file.now in
    let fault = err_from_is_err_and c.from_residual-in_err-give-in-Whole.result c.from_residual-in_err-give-in-Whole.ensures.1 in
    let failed = c.in_err-give-in-Whole.ensures.failed in
    rw (fault.1, fault.2) (λ registry options was reading settled.
    let whole = subst (IsSettled registry options was file reading) c.in-Whole.is settled in
    front_whole hears takes fails registry options was reading reading.ending file.record failed.0 c.in_err-give-in-Whole.field-0.0 c.args.watcher.now c.args.recipient.now c.give.new.recipient whole.0 whole.1 failed.1 failed.2)
