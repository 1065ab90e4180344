use Rattle.std.proofs.Common.{◌≡◌, drop}
use Rattle.csv.specs.Records.{fields_of}
use Rattle.droid_lists.specs.RowTests.{first_wrong, shared_tests}
use Rattle.droid_lists.proofs.spelling.row_tests.wrong_shared.Given as goal

-- the columns so far are the same
abbrev pub invariant-loop-column : goal.invariant-loop-column
invariant-loop-column l = first_wrong (shared_tests (fields_of l.first) (fields_of l.row)) ≡ first_wrong (drop l.column (shared_tests (fields_of l.first) (fields_of l.row)))
