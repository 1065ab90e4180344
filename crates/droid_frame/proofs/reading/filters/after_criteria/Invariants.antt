-- What is left gives the bytes that all the criteria leave.
use Rattle.std.proofs.Common.{◌≡◌, ◌-◌}
use Rattle.droid_frame.specs.FilterValues.{criterion_at}
use Rattle.droid_frame.specs.SequenceFields.{sequence_at}
use Rattle.droid_frame.proofs.SequenceLoops.{rest_of}
use Rattle.droid_frame.proofs.reading.filters.after_criteria.Given as goal

abbrev pub invariant-loop : goal.invariant-loop
invariant-loop l = rest_of (sequence_at criterion_at (l.count - l.counter) l.rest) ≡ rest_of (sequence_at criterion_at l.count l.bytes)
