use Rattle.std.proofs.Common.{List, [], ◌∷◌, ◌++◌}
use Rattle.csv.specs.Records.{fields_of}
use Rattle.droid_lists.specs.EntryReading.{HaveCome}
use Rattle.droid_lists.specs.FormatMaps.{HasOwn, IsKnown}
use Rattle.droid_lists.specs.ProfileRows.{Entry, all_rows}
use Rattle.droid_lists.proofs.spelling.reading.take_more.Given as goal

-- so many rows have come
abbrev pub invariant-loop-place : goal.invariant-loop-place
invariant-loop-place l =
    (all : List Entry) → IsKnown l.initial.formats (all_rows all ++ fields_of l.first ∷ []) → HasOwn l.initial.own (fields_of l.first ∷ [])
    → HaveCome all l.formats l.own (fields_of l.first) l.text l.rest l.place
