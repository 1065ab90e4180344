-- What was read, and then what is left, is what all the bytes give.
use Rattle.std.proofs.Common.{◌≡◌, ◌-◌}
use Rattle.droid_frame.specs.FilterValues.{criterion_at}
use Rattle.droid_frame.specs.SequenceFields.{sequence_at}
use Rattle.droid_frame.proofs.SequenceLoops.{with_front}
use Rattle.droid_frame.proofs.reading.filters.criteria_at.Given as goal

abbrev pub invariant-loop : goal.invariant-loop
invariant-loop l = with_front l.criteria (sequence_at criterion_at (l.count - l.counter) l.rest) ≡ sequence_at criterion_at l.count l.bytes
