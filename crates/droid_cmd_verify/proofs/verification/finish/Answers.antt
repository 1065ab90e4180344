use Rattle.std.proofs.Common.{refl}
use Rattle.droid_cmd_verify.specs.Verifications.{Reported, Unreported}
use Rattle.droid_cmd_verify.proofs.verification.finish.Goals as goal

pub returns-in-Ok : goal.returns-in-Ok
returns-in-Ok g c = record {
  finished = Reported c.in-Ok.outcome c.in-Ok.ensures c.write_outcome-ending.ensures.written refl;
  stopped = c.write_outcome-ending.ensures.stopped;
}

pub returns-in-Err : goal.returns-in-Err
returns-in-Err g c = record {
  finished = Unreported c.without_report.ensures refl;
  stopped = λ start counts. rw c.without_report.ensures (0, counts);
}
