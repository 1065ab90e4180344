use Rattle.std.proofs.Common.{◌≡◌, drop}
use Rattle.csv.specs.Records.{fields_of}
use Rattle.droid_export.specs.Headers.{has_name}
use Rattle.droid_export.proofs.header.has_name.Given as goal

-- what is left has the name if all have it
abbrev pub invariant-loop-place : goal.invariant-loop-place
invariant-loop-place l = has_name l.hash (drop l.place (fields_of l.names)) l.column ≡ has_name l.hash (fields_of l.names) l.column
