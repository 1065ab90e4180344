use Rattle.std.proofs.Common.{refl}
use Rattle.droid_cmd_submit.specs.CheckedSubmissions.{NotCompared, NotCounted, NotSubmitted}
use Rattle.droid_cmd_submit.proofs.checked_submission.submit_and_check.Goals as goal

pub returns-in-Err-clause-ended : goal.returns-in-Err-clause-ended
returns-in-Err-clause-ended g c = NotCounted c.in-Err.fault refl refl c.in-Err.ensures.too_many

pub returns-in-Err-submit-clause-ended : goal.returns-in-Err-submit-clause-ended
returns-in-Err-submit-clause-ended g c =
    let old = c.args.upload.now in
    NotSubmitted c.in-Err-submit.fault refl (record old { tree = c.count.new.tree; watcher = record old.watcher { watcher = c.hear_count.new.self } })
    (record { counted = c.in-Ok.counted; counts = c.in-Ok.ensures.counted; within = c.in-Ok.ensures.within; expected = c.hear_count.ensures; only = refl }) c.in-Err-submit.ensures.ended

pub returns-in-Ok-check_profile-clause-checked : goal.returns-in-Ok-check_profile-clause-checked
returns-in-Ok-check_profile-clause-checked g c =
    let old = c.args.upload.now in
    let submits = c.in-Ok-submit.ensures.submitted in
    record {
      begun = record old { tree = c.count.new.tree; watcher = record old.watcher { watcher = c.hear_count.new.self } };
      reached = c.submit.new.upload;
      submitted = c.in-Ok-submit.submitted;
      counted = record { counted = c.in-Ok.counted; counts = c.in-Ok.ensures.counted; within = c.in-Ok.ensures.within; expected = c.hear_count.ensures; only = refl };
      submits = submits;
      only_client = c.check_profile.ensures.only_client;
      kept = c.in-Ok-check_profile.ensures.kept;
      reads = c.in-Ok-check_profile.ensures.reads submits.none;
      bounded = c.in-Ok-check_profile.ensures.bound;
      compares = c.in-Ok-check_profile.ensures.compares;
    }

pub returns-in-Err-check_profile-clause-ended : goal.returns-in-Err-check_profile-clause-ended
returns-in-Err-check_profile-clause-ended g c =
    let old = c.args.upload.now in
    let submits = c.in-Ok-submit.ensures.submitted in
    NotCompared c.in-Err-check_profile.fault c.in-Ok-submit.submitted refl (record old { tree = c.count.new.tree; watcher = record old.watcher { watcher = c.hear_count.new.self } }) c.submit.new.upload
    (record { counted = c.in-Ok.counted; counts = c.in-Ok.ensures.counted; within = c.in-Ok.ensures.within; expected = c.hear_count.ensures; only = refl }) submits
    c.check_profile.ensures.only_client (c.in-Err-check_profile.ensures.ended submits.going submits.none)
