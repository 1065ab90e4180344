use Rattle.std.proofs.Common.{◌≡◌, take}
use Rattle.droid_report.specs.Fields.{digits_of}
use Rattle.droid_report.proofs.fields.digits_of.Given as goal

-- the digits of the bytes so far
abbrev pub invariant-loop-b : goal.invariant-loop-b
invariant-loop-b l = l.number ≡ digits_of (take l.b-index l.text)
