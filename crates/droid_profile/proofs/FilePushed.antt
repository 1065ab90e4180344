-- What one file more of the batch changes.
use Rattle.std.proofs.Common.{◌≡◌, ℕ, ◌+◌, ◌≤◌, ◌==◌, if◌then◌else◌, true, List, [], ◌∷◌, ◌++◌, length, slice_get, Some, length-append, refl, sym, ap, subst, ◌∙◌, arith}
use Rattle.std.specs.List.{flat_map, AllByRecursion}
use Rattle.droid_frame.specs.declared.record.Record.{Record}
use Rattle.droid_pronom.specs.Registry.{Contents}
use Rattle.droid_tree.specs.Heard.{Heard}
use Rattle.droid_tree.specs.Observation.{Observation}
use Rattle.droid_tree.specs.declared.folder_entry.FolderEntry.{FolderEntry}
use Rattle.droid_tree.specs.declared.pending_folder.PendingFolder.{PendingFolder}
use Rattle.droid_profile.specs.Kids.{AFile, found_of, heard_of_file, heard_of_kid, is_done, reads_of_kid}
use Rattle.droid_profile.specs.ProfileRecords.{records_of_file, records_of_kid}
use Rattle.droid_profile.specs.Readings.{Reading, Ending, AtEnd, TooShort, TooLong, NoneCame, OtherFile, NotYet, IsReading, bytes_of, has_ended, reads_in}
use Rattle.droid_profile.specs.declared.options.Options.{Options}
use Rattle.droid_profile.proofs.VisitSteps.{given_more}
use Rattle.droid_profile.specs.BatchFits.{whole_record}
use Rattle.droid_profile.specs.FileStates.{AreFresh}
use Rattle.droid_profile.specs.declared.lanes.file_row.FileRow.{FileRow}
use Rattle.droid_profile.specs.declared.lanes.file_row.FileState.TheVariants.{Waits}
use Rattle.droid_profile.specs.RowsTaken.{HaveEnded, IsReady, MayBeRead, Readings, heard_at, heard_of_row, reading_of, reads_of_files, reads_of_row, records_at, records_by, records_of_row}
use Rattle.droid_profile.specs.StepsTaken.{unread_record}
use Rattle.droid_profile.specs.declared.walk.row.Row.{Row}
use Rattle.droid_profile.specs.declared.walk.row.Row.TheVariants as rows
use Rattle.droid_profile.proofs.RowLists.{AtPlace, InFront, IsLast, all_front, all_last, all_weaker, at_place, holds_at, in_front, last_place, same_flat_map}

-- ---- the files have numbers of their own

module _ (files : List FileRow) (file : FileRow) (last : ℕ) (fresh : AreFresh files) (below : AllByRecursion (λ (f : FileRow). f.record.id ≤ last) files) (next : file.record.id ≡ last + 1) where
  waits_at : (place : ℕ) (row : FileRow) → file.state ≡ Waits → AtPlace files file place row → row.state ≡ Waits
  waits_at place row waits (InFront there) = fresh.waiting place row there
  waits_at place row waits (IsLast at is) = ap (λ (f : FileRow). f.state) is ∙ waits

  named_at : (place : ℕ) (row : FileRow) → file.record.name ≡ file.entry.name → AtPlace files file place row → row.record.name ≡ row.entry.name
  named_at place row named (InFront there) = fresh.named place row there
  named_at place row named (IsLast at is) = ap (λ (f : FileRow). f.record.name) is ∙ (named ∙ ap (λ (f : FileRow). f.entry.name) (sym is))

  -- a file of the front has a lower number
  lower : (place : ℕ) (row other : FileRow) → slice_get files place ≡ Some row → other ≡ file → row.record.id ≡ other.record.id → ⊥
  lower place row other there is same = omega (arith, holds_at (λ (f : FileRow). f.record.id ≤ last) files place row below there, next, same, ap (λ (f : FileRow). f.record.id) is)

  distinct_at : (one other : ℕ) (a b : FileRow) → AtPlace files file one a → AtPlace files file other b → a.record.id ≡ b.record.id → one ≡ other
  distinct_at one other a b (InFront at_a) (InFront at_b) same = fresh.distinct one other a b at_a at_b same
  distinct_at one other a b (InFront at_a) (IsLast at is) same = absurd (lower one a b at_a is same)
  distinct_at one other a b (IsLast at is) (InFront at_b) same = absurd (lower other b a at_b is (sym same))
  distinct_at one other a b (IsLast at is) (IsLast also is_too) same = at ∙ sym also

  pub fresh_more : file.state ≡ Waits → file.record.name ≡ file.entry.name → AreFresh (files ++ file ∷ [])
  fresh_more waits named = record {
    waiting = λ place row there. waits_at place row waits (at_place files file place row there);
    named = λ place row there. named_at place row named (at_place files file place row there);
    distinct = λ one other a b at_a at_b same. distinct_at one other a b (at_place files file one a at_a) (at_place files file other b at_b) same;
  }

-- ---- rows can be handed out as before

ready_later : (count : ℕ) (row : Row) → IsReady count row → IsReady (count + 1) row
ready_later count (rows.Left path why) ready = tt
ready_later count (rows.Folder shown) ready = ready
ready_later count (rows.File place) ready = omega (arith, ready)

pub ready_more : (files : List FileRow) (file : FileRow) (before : List Row) → AllByRecursion (IsReady (length files)) before → AllByRecursion (IsReady (length (files ++ file ∷ []))) before
ready_more files file before ready = subst (λ (n : ℕ). AllByRecursion (IsReady n) before) (sym (length-append files (file ∷ []))) (all_weaker (IsReady (length files)) (IsReady (length files + 1)) before (ready_later (length files)) ready)

module _ (registry : Contents) (options : Options) (readings : Readings) (files : List FileRow) (file : FileRow) where
  -- ---- what comes of the rows before

  heard_still : (row : Row) → IsReady (length files) row → heard_of_row registry options readings (files ++ file ∷ []) row ≡ heard_of_row registry options readings files row
  heard_still (rows.Left path why) ready = refl
  heard_still (rows.Folder shown) ready = refl
  heard_still (rows.File place) ready = ap (heard_at registry options readings) (in_front files (file ∷ []) place ready)

  records_still : (row : Row) → IsReady (length files) row → records_of_row registry options readings (files ++ file ∷ []) row ≡ records_of_row registry options readings files row
  records_still (rows.Left path why) ready = refl
  records_still (rows.Folder shown) ready = refl
  records_still (rows.File place) ready = ap (records_at registry options readings) (in_front files (file ∷ []) place ready)

  -- ---- what comes of the file

  module _ (folder : PendingFolder) (entry : FolderEntry) (number : ℕ) (its : file.record ≡ unread_record folder entry number) (same : file.entry ≡ entry) where
    abbrev plain : Record
    plain = unread_record folder entry number

    heard_of_it : heard_at registry options readings (Some file) ≡ heard_of_kid registry options folder.path (AFile entry number (readings number))
    heard_of_it =
        ap (λ (r : Record). heard_of_file registry options r.path file.entry (readings r.id) (readings r.id).ending) its
        ∙ ap (λ (e : FolderEntry). heard_of_file registry options plain.path e (readings number) (readings number).ending) same

    as_record : (reading : Reading) (ending : Ending) → records_by registry options file reading ending ≡ records_of_file registry options folder entry number reading ending
    as_record reading (AtEnd wanted bytes) =
        ap (λ (r : Record). whole_record options r (found_of registry options file.entry (bytes_of reading)) (bytes_of reading) ∷ []) its
        ∙ ap (λ (e : FolderEntry). whole_record options plain (found_of registry options e (bytes_of reading)) (bytes_of reading) ∷ []) same
    as_record reading (TooShort wanted bytes) = refl
    as_record reading (TooLong wanted bytes) = refl
    as_record reading (NoneCame wanted) = refl
    as_record reading (OtherFile wanted) = refl
    as_record reading NotYet = refl

    records_of_it : records_at registry options readings (Some file) ≡ records_of_kid registry options folder (AFile entry number (readings number))
    records_of_it =
        ap (λ (r : Record). records_by registry options file (readings r.id) (readings r.id).ending) its
        ∙ as_record (readings number) (readings number).ending

    reads_of_it : (n : ℕ) → reads_of_row n readings file ≡ reads_of_kid n folder.path (AFile entry number (readings number))
    reads_of_it n =
        ap (λ (r : Record). if r.id == n then reads_in r.path file.entry (readings r.id) else []) its
        ∙ ap (λ (e : FolderEntry). if number == n then reads_in plain.path e (readings number) else []) same

    pub reads_one_more : (n : ℕ) → reads_of_files n readings (files ++ file ∷ []) ≡ reads_of_files n readings files ++ reads_of_kid n folder.path (AFile entry number (readings number))
    reads_one_more n = given_more (reads_of_row n readings) files file ∙ ap (λ (l : List Observation). reads_of_files n readings files ++ l) (reads_of_it n)

    pub ended_one_more : HaveEnded readings (files ++ file ∷ []) → HaveEnded readings files × (is_done (AFile entry number (readings number)) ≡ true)
    ended_one_more ended = (
      all_front (λ (f : FileRow). has_ended (reading_of readings f).ending ≡ true) files file ended,
      subst (λ (r : Record). has_ended (readings r.id).ending ≡ true) its (all_last (λ (f : FileRow). has_ended (reading_of readings f).ending ≡ true) files file ended),
    )

    pub may_be_read : MayBeRead readings (files ++ file ∷ []) → MayBeRead readings files × IsReading entry.len (readings number)
    may_be_read may = (
      all_front (λ (f : FileRow). IsReading f.entry.len (reading_of readings f)) files file may,
      subst (λ (e : FolderEntry). IsReading e.len (readings number)) same
          (subst (λ (r : Record). IsReading file.entry.len (readings r.id)) its (all_last (λ (f : FileRow). IsReading f.entry.len (reading_of readings f)) files file may)),
    )

    module _ (before : List Row) (ready : AllByRecursion (IsReady (length files)) before) where
      pub heard_one_more : flat_map (heard_of_row registry options readings (files ++ file ∷ [])) (before ++ rows.File (length files) ∷ [])
          ≡ flat_map (heard_of_row registry options readings files) before ++ heard_of_kid registry options folder.path (AFile entry number (readings number))
      heard_one_more =
          given_more (heard_of_row registry options readings (files ++ file ∷ [])) before (rows.File (length files))
          ∙ (ap (λ (l : List Heard). l ++ heard_at registry options readings (slice_get (files ++ file ∷ []) (length files)))
          (same_flat_map (heard_of_row registry options readings (files ++ file ∷ [])) (heard_of_row registry options readings files) (IsReady (length files)) before heard_still ready)
          ∙ ap (λ (l : List Heard). flat_map (heard_of_row registry options readings files) before ++ l) (ap (heard_at registry options readings) (last_place files file) ∙ heard_of_it))

      pub records_one_more : flat_map (records_of_row registry options readings (files ++ file ∷ [])) (before ++ rows.File (length files) ∷ [])
          ≡ flat_map (records_of_row registry options readings files) before ++ records_of_kid registry options folder (AFile entry number (readings number))
      records_one_more =
          given_more (records_of_row registry options readings (files ++ file ∷ [])) before (rows.File (length files))
          ∙ (ap (λ (l : List Record). l ++ records_at registry options readings (slice_get (files ++ file ∷ []) (length files)))
          (same_flat_map (records_of_row registry options readings (files ++ file ∷ [])) (records_of_row registry options readings files) (IsReady (length files)) before records_still ready)
          ∙ ap (λ (l : List Record). flat_map (records_of_row registry options readings files) before ++ l) (ap (records_at registry options readings) (last_place files file) ∙ records_of_it))
