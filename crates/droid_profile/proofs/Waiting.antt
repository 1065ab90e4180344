-- How many entries wait, and how many were reported.
use Rattle.std.proofs.Common.{◌≡◌, ℕ, ◌+◌, ◌≤◌, ◌&&◌, Bool, true, false, List, [], ◌∷◌, ◌++◌, length, length-append, Option, Some, None, slice_get, refl, ap, arith}
use Rattle.std.specs.List.{count_by, flat_map, list_all, AllByRecursion}
use Rattle.std.proofs.lemmas.List.Sums.{count_by-le-length}
use Rattle.droid_pronom.specs.Registry.{Contents}
use Rattle.droid_tree.specs.Heard.{Heard, Left, Held, TookBytes, TookFolder, TookFile}
use Rattle.droid_tree.specs.Paths.{below}
use Rattle.droid_tree.specs.declared.folder_entry.FolderEntry.{FolderEntry}
use Rattle.droid_profile.specs.Calls.{Call, heard_of_calls}
use Rattle.droid_profile.specs.EarlyEnds.{AreFirst, is_counted, is_of_record}
use Rattle.droid_profile.specs.Kids.{Kid, Subfolder, ClosedFolder, AFile, AnotherKind, NoText, RefusedEntry, heard_of_file, heard_of_kid, is_done, numbers_in}
use Rattle.droid_profile.specs.Readings.{Reading, Ending, AtEnd, TooShort, TooLong, NoneCame, OtherFile, NotYet, has_ended}
use Rattle.droid_profile.specs.Visits.{Visit, heard_of_listing, heard_of_repeated, heard_of_visit, is_complete, numbers_of}
use Rattle.droid_profile.specs.declared.options.Options.{Options}
use Rattle.droid_profile.specs.declared.lanes.file_row.FileRow.{FileRow}
use Rattle.droid_profile.specs.RowsTaken.{Readings, heard_at, heard_of_row, is_counted_row, reading_of, records_at, records_by, records_of_row}
use Rattle.droid_profile.specs.declared.walk.row.Row.{Row}
use Rattle.droid_profile.specs.declared.walk.row.Row.TheVariants as rows
use Rattle.droid_profile.proofs.StepsMade.{counts_append}
use Rattle.droid_profile.proofs.Handing.{all_counted}
use Rattle.droid_profile.proofs.ReportKinds.{OfBytes, of_calls}

-- ---- reports of records

module _ (registry : Contents) (options : Options) (readings : Readings) (files : List FileRow) where
  file_counted : (file : FileRow) (reading : Reading) (ending : Ending) → count_by is_of_record (heard_of_file registry options file.record.path file.entry reading ending) ≡ length (records_by registry options file reading ending)
  file_counted file reading (AtEnd wanted bytes) = refl
  file_counted file reading (TooShort wanted bytes) = refl
  file_counted file reading (TooLong wanted bytes) = refl
  file_counted file reading (NoneCame wanted) = refl
  file_counted file reading (OtherFile wanted) = refl
  file_counted file reading NotYet = refl

  at_counted : (file : Option FileRow) → count_by is_of_record (heard_at registry options readings file) ≡ length (records_at registry options readings file)
  at_counted None = refl
  at_counted (Some file) = file_counted file (reading_of readings file) (reading_of readings file).ending

  -- each row gives as many reports of records as records
  pub row_counted : (row : Row) → count_by is_of_record (heard_of_row registry options readings files row) ≡ length (records_of_row registry options readings files row)
  row_counted (rows.Left path why) = refl
  row_counted (rows.Folder shown) = refl
  row_counted (rows.File place) = at_counted (slice_get files place)

  pub rows_counted : (taken : List Row) → count_by is_of_record (flat_map (heard_of_row registry options readings files) taken) ≡ length (flat_map (records_of_row registry options readings files) taken)
  rows_counted taken = all_counted (heard_of_row registry options readings files) (records_of_row registry options readings files) row_counted taken

  -- ---- reports that wait

  file_waits : (file : FileRow) (reading : Reading) (ending : Ending) → length (heard_of_file registry options file.record.path file.entry reading ending) ≤ 1
  file_waits file reading (AtEnd wanted bytes) = omega arith
  file_waits file reading (TooShort wanted bytes) = omega arith
  file_waits file reading (TooLong wanted bytes) = omega arith
  file_waits file reading (NoneCame wanted) = omega arith
  file_waits file reading (OtherFile wanted) = omega arith
  file_waits file reading NotYet = omega arith

  at_waits : (file : Option FileRow) → count_by is_counted (heard_at registry options readings file) ≤ 1
  at_waits None = omega arith
  at_waits (Some file) =
      let ending = (reading_of readings file).ending in
      let heard = heard_of_file registry options file.record.path file.entry (reading_of readings file) ending in
      omega (arith, count_by-le-length is_counted heard, file_waits file (reading_of readings file) ending)

  row_waits : (row : Row) → count_by is_counted (heard_of_row registry options readings files row) ≤ count_by is_counted_row (row ∷ [])
  row_waits (rows.Left path why) = omega arith
  row_waits (rows.Folder shown) = omega arith
  row_waits (rows.File place) = omega (arith, at_waits (slice_get files place))

  -- no more reports wait than rows, without those of repeated names
  pub rows_wait : (taken : List Row) → count_by is_counted (flat_map (heard_of_row registry options readings files) taken) ≤ count_by is_counted_row taken
  rows_wait [] = omega arith
  rows_wait (row ∷ taken) =
      omega (
        arith,
        counts_append is_counted (heard_of_row registry options readings files row) (flat_map (heard_of_row registry options readings files) taken),
        counts_append is_counted_row (row ∷ []) taken,
        row_waits row,
        rows_wait taken,
      )

-- those after the first ones are no more
pub rest_waits : (first all : List Heard) (are : AreFirst first all) → count_by is_counted are.rest ≤ count_by is_counted all
rest_waits first all are = omega (arith, ap (count_by is_counted) are.are, counts_append is_counted first are.rest)

-- ---- reports of bytes

no_record : (report : Heard) → OfBytes report → is_of_record report ≡ false
no_record (TookBytes path count) of = refl
no_record (Left path why) of = refl
no_record (Held path count) of = refl
no_record (TookFolder path) of = let it : false ≡ true = of.0 in absurd cc
no_record (TookFile path found) of = let it : false ≡ true = of.0 in absurd cc

none_of_records : (heard : List Heard) → AllByRecursion OfBytes heard → count_by is_of_record heard ≡ 0
none_of_records [] all = refl
none_of_records (report ∷ heard) all = rw (no_record report all.0) (none_of_records heard all.1)

-- reads report no record
pub bytes_uncounted : (calls : List Call) → count_by is_of_record (heard_of_calls calls) ≡ 0
bytes_uncounted calls = none_of_records (heard_of_calls calls) (of_calls calls)

-- ---- what has a number is reported, if nothing is still to come of it

module _ (registry : Contents) (options : Options) where
  file_reported : (path : List ℕ) (entry : FolderEntry) (reading : Reading) (ending : Ending) → has_ended ending ≡ true → 1 ≤ length (heard_of_file registry options path entry reading ending)
  file_reported path entry reading (AtEnd wanted bytes) ended = omega arith
  file_reported path entry reading (TooShort wanted bytes) ended = omega arith
  file_reported path entry reading (TooLong wanted bytes) ended = omega arith
  file_reported path entry reading (NoneCame wanted) ended = omega arith
  file_reported path entry reading (OtherFile wanted) ended = omega arith
  file_reported path entry reading NotYet ended = absurd cc

  kid_reported : (path : List ℕ) (kid : Kid) → is_done kid ≡ true → length (numbers_in kid) ≤ length (heard_of_kid registry options path kid)
  kid_reported path (Subfolder entry number) done = omega arith
  kid_reported path (ClosedFolder entry) done = omega arith
  kid_reported path (AFile entry number reading) done = file_reported (below path entry.name) entry reading reading.ending done
  kid_reported path (AnotherKind entry) done = omega arith
  kid_reported path (NoText entry) done = omega arith
  kid_reported path (RefusedEntry entry refusal) done = omega arith

  both_true : (a b : Bool) → (a && b) ≡ true → (a ≡ true) × (b ≡ true)
  both_true true true is = (refl, refl)
  both_true true false is = absurd cc
  both_true false b is = absurd cc

  kids_reported : (path : List ℕ) (kids : List Kid) → list_all is_done kids ≡ true → length (flat_map numbers_in kids) ≤ length (flat_map (heard_of_kid registry options path) kids)
  kids_reported path [] done = omega arith
  kids_reported path (kid ∷ kids) done =
      let both = both_true (is_done kid) (list_all is_done kids) done in
      omega (
        arith,
        length-append (numbers_in kid) (flat_map numbers_in kids),
        length-append (heard_of_kid registry options path kid) (flat_map (heard_of_kid registry options path) kids),
        kid_reported path kid both.0,
        kids_reported path kids both.1,
      )

  visit_reported : (visit : Visit) → is_complete visit ≡ true → length (numbers_of visit) ≤ length (heard_of_visit registry options visit)
  visit_reported visit done =
      let path = visit.folder.path in
      let kids = flat_map (heard_of_kid registry options path) visit.kids in
      omega (arith, length-append (heard_of_listing path visit.observed) (heard_of_repeated path visit.repeated ++ kids), length-append (heard_of_repeated path visit.repeated) kids, kids_reported path visit.kids done)

  pub visits_reported : (visits : List Visit) → list_all is_complete visits ≡ true → length (flat_map numbers_of visits) ≤ length (flat_map (heard_of_visit registry options) visits)
  visits_reported [] done = omega arith
  visits_reported (visit ∷ visits) done =
      let both = both_true (is_complete visit) (list_all is_complete visits) done in
      omega (
        arith,
        length-append (numbers_of visit) (flat_map numbers_of visits),
        length-append (heard_of_visit registry options visit) (flat_map (heard_of_visit registry options) visits),
        visit_reported visit both.0,
        visits_reported visits both.1,
      )
