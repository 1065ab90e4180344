use Rattle.std.proofs.Common.{◌≡◌, length}
use Rattle.droid_export.proofs.PlainRows.{Reads}
use Rattle.droid_export.proofs.reading.plain_row.PlainRow.first.Given as goal

-- what stands in front of the rest is read as the fields so far
abbrev pub invariant-loop-place : goal.invariant-loop-place
invariant-loop-place l = (length l.fields ≡ 18) × Reads l.fn.text l.fields l.place l.rest
