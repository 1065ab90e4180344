use Rattle.std.proofs.Common.{◌≡◌, length, map, take}
use Rattle.csv.specs.Records.{fields_of}
use Rattle.droid_export.specs.Headers.{has_name}
use Rattle.droid_export.specs.Table.{columns}
use Rattle.droid_export.proofs.header.columns_named.Given as goal

-- the first columns were looked for
abbrev pub invariant-loop-place : goal.invariant-loop-place
invariant-loop-place l =
    (length l.has ≡ 18) × (take l.place l.has ≡ map (has_name l.hash (fields_of l.names)) (take l.place columns))
