use Rattle.std.proofs.Common.{refl}
use Rattle.droid_cmd_verify.proofs.Writing.{all_written, goes_on}
use Rattle.droid_cmd_verify.proofs.outcome.write_outcome.Goals as goal

pub returns-in-Ok : goal.returns-in-Ok
returns-in-Ok g c = record {
  written = rw c.ending_by.ensures (all_written c.args.outcome.now.differs _ _ c.args.outcome.now refl (rw c.as_slice.ensures.value at c.in-Ok.ensures.ok));
  stopped = λ start counts. rw c.ending_by.ensures (goes_on c.args.outcome.now.differs start _ _ _ (c.in-Ok.ensures.counts start (rw c.new.ensures.retries counts)));
}

pub returns-in-Err : goal.returns-in-Err
returns-in-Err g c = record {
  written = (c.in-Err.field-0.written, rw (c.as_slice.ensures.value, c.new.ensures.written) at c.in-Err.ensures.err);
  stopped = λ start counts. c.in-Err.ensures.counts start (rw c.new.ensures.retries counts);
}
