use Rattle.std.proofs.Common.{◌≡◌, [], map, take}
use Rattle.csv.specs.Records.{fields_of, partial_of}
use Rattle.droid_export.specs.Headers.{cell}
use Rattle.droid_export.specs.Table.{columns}
use Rattle.droid_export.proofs.header.Header.widen.Given as goal

-- the fields of the first columns
abbrev pub invariant-loop-column : goal.invariant-loop-column
invariant-loop-column l =
    (partial_of l.wide ≡ []) × (fields_of l.wide ≡ map (cell l.fn.self (fields_of l.fn.row)) (take l.column-index columns))
