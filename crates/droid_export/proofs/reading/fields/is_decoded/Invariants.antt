-- What was decoded so far, if all are digits.
use Rattle.std.proofs.Common.{◌≡◌, length}
use Rattle.droid_export.proofs.Digits.{Decodes}
use Rattle.droid_export.proofs.reading.fields.is_decoded.Given as goal

abbrev pub invariant-loop-place : goal.invariant-loop-place
invariant-loop-place l = (length l.bytes ≡ length l.initial.bytes) × Decodes l.most l.text l.bytes l.place
