use Rattle.std.proofs.Common.{◌≡◌, ◌-◌}
use Rattle.csv.specs.Records.{fields_of}
use Rattle.droid_lists.specs.ProfileTexts.{names_of, other_from, other_name}
use Rattle.droid_lists.proofs.spelling.column_names.other_name.Given as goal

-- the names up to this column are right
abbrev pub invariant-loop-column : goal.invariant-loop-column
invariant-loop-column l = other_name l.hash (fields_of l.row) ≡ other_from (18 - l.column) l.column (fields_of l.row) (names_of l.hash)
