use Rattle.std.proofs.Common.{◌≡◌, [], None, refl}
use Rattle.droid_lists.specs.declared.spelling.text_fault.TextFault.TheVariants.{Memory}
use Rattle.droid_remote.specs.Calls.{Wherever}
use Rattle.droid_remote.proofs.Handing.{if_err_same}
use Rattle.droid_cmd_submit.specs.ProfileComparisons.{EndsChecking, NotFit, NotRead}
use Rattle.droid_cmd_submit.proofs.checked_submission.check_profile.Goals as goal

pub returns-in_err-csv-clause-ended : goal.returns-in_err-csv-clause-ended
returns-in_err-csv-clause-ended g c =
    let old = c.args.upload.now.client in
    if_err_same c.from_residual.result c.in_err-csv.field-0.0
    (λ fault. old.stopped ≡ None → old.in_flight.waiting.items ≡ [] → Wherever old.in_flight (λ known facts.
    EndsChecking g.C.Connection.does old.client old.name c.args.submitted.profile known c.args.hash fault facts old.in_flight c.read_export.new.sender.in_flight)) c.from_residual.ensures.1
    (λ going none known facts stands. NotRead (c.in_err-csv.ensures.ended going none known facts stands))

pub returns-then-not-upload-clause-ended : goal.returns-then-not-upload-clause-ended
returns-then-not-upload-clause-ended g c = λ going none known facts stands. NotFit c.in_ok-csv.csv.items Memory (c.in_ok-csv.ensures.reads none known facts stands) refl tt

pub returns-in-Err-clause-ended : goal.returns-in-Err-clause-ended
returns-in-Err-clause-ended g c = λ going none known facts stands. NotFit c.in_ok-csv.csv.items c.in-Err.fault (c.in_ok-csv.ensures.reads none known facts stands) refl c.in-Err.ensures.wrong
