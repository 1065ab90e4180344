-- What is left gives the bytes that all the texts leave.
use Rattle.std.proofs.Common.{◌≡◌, ◌-◌}
use Rattle.droid_frame.specs.SequenceFields.{sequence_at}
use Rattle.droid_frame.specs.TextListFields.{sized_text_at}
use Rattle.droid_frame.proofs.SequenceLoops.{rest_of}
use Rattle.droid_frame.proofs.reading.fields.text_lists.after_texts.Given as goal

abbrev pub invariant-loop : goal.invariant-loop
invariant-loop l = rest_of (sequence_at (sized_text_at l.least l.most) (l.count - l.counter) l.rest) ≡ rest_of (sequence_at (sized_text_at l.least l.most) l.count l.bytes)
