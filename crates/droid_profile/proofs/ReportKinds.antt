-- Which reports are of entries, and which of bytes.
use Rattle.std.proofs.Common.{append-nil, sym, ap₂, ◌∙◌, ◌≡◌, true, false, List, [], ◌∷◌, ◌++◌, ℕ, filter, map, Option, Some, None, slice_get, refl, ap}
use Rattle.std.specs.List.{flat_map, AllByRecursion}
use Rattle.std.proofs.lemmas.List.Concat.{flat_map-append}
use Rattle.std.proofs.lemmas.List.Elements.{filter-append}
use Rattle.droid_pronom.specs.Registry.{Contents}
use Rattle.droid_tree.specs.Heard.{Heard}
use Rattle.droid_tree.specs.Observation.{Observation, Listed, Unlisted, Opened, Unopened, Read, Unread, Exchanged}
use Rattle.droid_tree.specs.declared.folder_entry.FolderEntry.{FolderEntry}
use Rattle.droid_profile.specs.Calls.{Call, OfFolder, OfFile, heard_of_call, heard_of_calls, heard_of_observation, observation_of}
use Rattle.droid_profile.specs.Kids.{heard_of_file}
use Rattle.droid_profile.specs.Profiles.{is_of_bytes, is_of_entry}
use Rattle.droid_profile.specs.Readings.{Reading, Ending, AtEnd, TooShort, TooLong, NoneCame, OtherFile, NotYet}
use Rattle.droid_profile.specs.declared.options.Options.{Options}
use Rattle.droid_profile.proofs.VisitSteps.{all_append}
use Rattle.droid_profile.specs.declared.lanes.file_row.FileRow.{FileRow}
use Rattle.droid_profile.specs.RowsTaken.{Readings, heard_at, heard_of_row, reading_of}
use Rattle.droid_profile.specs.declared.walk.row.Row.{Row}
use Rattle.droid_profile.specs.declared.walk.row.Row.TheVariants as rows

pub all_front : {A : Type 0} (P : A → Type 0) (xs ys : List A) → AllByRecursion P (xs ++ ys) → AllByRecursion P xs
all_front P [] ys all = tt
all_front P (x ∷ xs) ys all = (all.0, all_front P xs ys all.1)

-- this report is of an entry
abbrev pub OfEntry : Heard → Type 0
OfEntry report = (is_of_entry report ≡ true) × (is_of_bytes report ≡ false)

-- this report is of bytes
abbrev pub OfBytes : Heard → Type 0
OfBytes report = (is_of_bytes report ≡ true) × (is_of_entry report ≡ false)

-- ---- filters

pub entries_kept : (heard : List Heard) → AllByRecursion OfEntry heard → filter is_of_entry heard ≡ heard
entries_kept [] all = refl
entries_kept (report ∷ heard) all = rw all.0.0 (ap (λ (l : List Heard). report ∷ l) (entries_kept heard all.1))

pub no_bytes : (heard : List Heard) → AllByRecursion OfEntry heard → filter is_of_bytes heard ≡ []
no_bytes [] all = refl
no_bytes (report ∷ heard) all = rw all.0.1 (no_bytes heard all.1)

pub bytes_kept : (heard : List Heard) → AllByRecursion OfBytes heard → filter is_of_bytes heard ≡ heard
bytes_kept [] all = refl
bytes_kept (report ∷ heard) all = rw all.0.0 (ap (λ (l : List Heard). report ∷ l) (bytes_kept heard all.1))

pub no_entries : (heard : List Heard) → AllByRecursion OfBytes heard → filter is_of_entry heard ≡ []
no_entries [] all = refl
no_entries (report ∷ heard) all = rw all.0.1 (no_entries heard all.1)

-- ---- calls

of_observation : (observation : Observation) → AllByRecursion OfBytes (heard_of_observation observation)
of_observation (Read path entry from wanted bytes) = ((refl, refl), tt)
of_observation (Unread path entry from wanted) = tt
of_observation (Exchanged path entry from wanted) = tt
of_observation (Listed path entries) = tt
of_observation (Unlisted path) = tt
of_observation (Opened path) = tt
of_observation (Unopened path) = tt

of_call : (call : Call) → AllByRecursion OfBytes (heard_of_call call)
of_call (OfFolder observation) = tt
of_call (OfFile number observation) = of_observation observation

pub of_calls : (calls : List Call) → AllByRecursion OfBytes (heard_of_calls calls)
of_calls [] = tt
of_calls (call ∷ calls) = all_append OfBytes (heard_of_call call) (heard_of_calls calls) (of_call call) (of_calls calls)

-- calls for folders
pub folders_observed : (more : List Observation) → map observation_of (map OfFolder more) ≡ more
folders_observed [] = refl
folders_observed (observation ∷ more) = ap (λ (l : List Observation). observation ∷ l) (folders_observed more)

pub folders_unheard : (more : List Observation) → heard_of_calls (map OfFolder more) ≡ []
folders_unheard [] = refl
folders_unheard (observation ∷ more) = folders_unheard more

-- ---- rows

of_file : (registry : Contents) (options : Options) (path : List ℕ) (entry : FolderEntry) (reading : Reading) (ending : Ending) → AllByRecursion OfEntry (heard_of_file registry options path entry reading ending)
of_file registry options path entry reading (AtEnd wanted bytes) = ((refl, refl), tt)
of_file registry options path entry reading (TooShort wanted bytes) = ((refl, refl), tt)
of_file registry options path entry reading (TooLong wanted bytes) = ((refl, refl), tt)
of_file registry options path entry reading (NoneCame wanted) = ((refl, refl), tt)
of_file registry options path entry reading (OtherFile wanted) = ((refl, refl), tt)
of_file registry options path entry reading NotYet = tt

of_file_at : (registry : Contents) (options : Options) (readings : Readings) (file : Option FileRow) → AllByRecursion OfEntry (heard_at registry options readings file)
of_file_at registry options readings None = tt
of_file_at registry options readings (Some file) = of_file registry options file.record.path file.entry (reading_of readings file) (reading_of readings file).ending

of_row : (registry : Contents) (options : Options) (readings : Readings) (files : List FileRow) (row : Row) → AllByRecursion OfEntry (heard_of_row registry options readings files row)
of_row registry options readings files (rows.Left path why) = ((refl, refl), tt)
of_row registry options readings files (rows.Folder shown) = ((refl, refl), tt)
of_row registry options readings files (rows.File place) = of_file_at registry options readings (slice_get files place)

pub of_rows : (registry : Contents) (options : Options) (readings : Readings) (files : List FileRow) (taken : List Row) → AllByRecursion OfEntry (flat_map (heard_of_row registry options readings files) taken)
of_rows registry options readings files [] = tt
of_rows registry options readings files (row ∷ taken) =
    all_append OfEntry (heard_of_row registry options readings files row) (flat_map (heard_of_row registry options readings files) taken) (of_row registry options readings files row) (of_rows registry options readings files taken)

-- ---- reports of a batch

-- reports of bytes are none of entries
pub entries_before_bytes : (heard : List Heard) (reads : List Call) → filter is_of_entry (heard ++ heard_of_calls reads) ≡ filter is_of_entry heard
entries_before_bytes heard reads =
    filter-append is_of_entry heard (heard_of_calls reads)
    ∙ (ap (λ (l : List Heard). filter is_of_entry heard ++ l) (no_entries (heard_of_calls reads) (of_calls reads)) ∙ append-nil (filter is_of_entry heard))

pub bytes_of_calls : (heard : List Heard) (calls reads : List Call) → filter is_of_bytes heard ≡ heard_of_calls calls → filter is_of_bytes (heard ++ heard_of_calls reads) ≡ heard_of_calls (calls ++ reads)
bytes_of_calls heard calls reads are =
    filter-append is_of_bytes heard (heard_of_calls reads)
    ∙ (ap₂ (λ (a b : List Heard). a ++ b) are (bytes_kept (heard_of_calls reads) (of_calls reads)) ∙ sym (flat_map-append heard_of_call calls reads))

-- then reports of entries
pub entries_then : (heard entries : List Heard) (reads : List Call) → AllByRecursion OfEntry entries → filter is_of_entry ((heard ++ heard_of_calls reads) ++ entries) ≡ filter is_of_entry heard ++ entries
entries_then heard entries reads all =
    filter-append is_of_entry (heard ++ heard_of_calls reads) entries
    ∙ ap₂ (λ (a b : List Heard). a ++ b) (entries_before_bytes heard reads) (entries_kept entries all)

pub bytes_then : (heard entries : List Heard) (calls reads : List Call) → AllByRecursion OfEntry entries → filter is_of_bytes heard ≡ heard_of_calls calls → filter is_of_bytes ((heard ++ heard_of_calls reads) ++ entries) ≡ heard_of_calls (calls ++ reads)
bytes_then heard entries calls reads all are =
    filter-append is_of_bytes (heard ++ heard_of_calls reads) entries
    ∙ (ap₂ (λ (a b : List Heard). a ++ b) (bytes_of_calls heard calls reads are) (no_bytes entries all) ∙ append-nil (heard_of_calls (calls ++ reads)))
