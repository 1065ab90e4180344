-- What was read, and then what is left, is what all the bytes give.
use Rattle.std.proofs.Common.{◌≡◌, ◌-◌}
use Rattle.droid_frame.specs.SequenceFields.{sequence_at}
use Rattle.droid_frame.specs.TextListFields.{sized_text_at}
use Rattle.droid_frame.proofs.SequenceLoops.{with_front}
use Rattle.droid_frame.proofs.reading.fields.text_lists.texts_at.Given as goal

abbrev pub invariant-loop : goal.invariant-loop
invariant-loop l = with_front l.texts (sequence_at (sized_text_at l.least l.most) (l.count - l.counter) l.rest) ≡ sequence_at (sized_text_at l.least l.most) l.count l.bytes
