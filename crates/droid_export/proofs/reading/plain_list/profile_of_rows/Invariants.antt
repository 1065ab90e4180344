use Rattle.std.proofs.Common.{◌≡◌, length}
use Rattle.std.specs.Option.{option_map}
use Rattle.droid_export.specs.ReadingCalls.{rows_of}
use Rattle.droid_export.specs.PlainRows.{fields_in}
use Rattle.droid_export.proofs.PlainLists.{Comes}
use Rattle.droid_export.proofs.reading.plain_list.profile_of_rows.Given as goal

-- the rows so far come to these
abbrev pub invariant-loop-last : goal.invariant-loop-last
invariant-loop-last l =
    (l.kept.kept ≡ l.fn.formats) × Comes l.fn.digest l.fn.formats l.fn.text l.rest l.records (rows_of l.rows) (option_map (λ row. fields_in row.fields) l.last) l.kept.rows.items

-- each row is a part of what is left
abbrev pub decreases-loop-last : goal.decreases-loop-last
decreases-loop-last l = length l.rest
