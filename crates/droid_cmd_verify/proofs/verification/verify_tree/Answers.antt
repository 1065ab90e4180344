use Rattle.std.proofs.Common.{refl}
use Rattle.droid_cmd_verify.specs.Verifications.{Read, Unread}
use Rattle.droid_cmd_verify.proofs.Writing.{unwritten_goes_on}
use Rattle.droid_cmd_verify.proofs.verification.verify_tree.Goals as goal

pub returns-in-Ok : goal.returns-in-Ok
returns-in-Ok g c = record {
  verified = Read c.in-Ok.checked (rw c.is_some.ensures at c.in-Ok.ensures.checked) (rw (c.as_slice-formats.ensures.value, c.as_slice-unreadable.ensures.value) at c.finish.ensures.finished);
  stopped = c.finish.ensures.stopped;
}

pub returns : goal.returns
returns g c = record {
  verified = Unread c.in-Err.fault (rw c.is_some.ensures at c.in-Err.ensures.ended) (rw c.unchecked.ensures at c.without_report.ensures) refl;
  stopped = λ start counts. rw (c.without_report.ensures, c.unchecked.ensures) (unwritten_goes_on c.in-Err.fault start _ _ counts);
}
