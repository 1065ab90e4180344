use Rattle.std.proofs.Common.{◌≡◌, drop, false}
use Rattle.droid_lists.specs.RowReading.{field_by, with_front}
use Rattle.droid_lists.proofs.spelling.text_field.marked_field.Given as goal

-- the field of all is that of what is left, behind what was read
abbrev pub invariant-loop-place : goal.invariant-loop-place
invariant-loop-place l = field_by l.mark false l.text ≡ with_front l.value.items (field_by l.mark l.quote (drop l.place l.text))
