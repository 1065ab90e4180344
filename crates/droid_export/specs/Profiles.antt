-- Which items the records of a profile's CSV are (docs/CSV.md).
use Rattle.std.specs.Prelude.{ℕ, ◌+◌, ◌-◌, ◌==◌, Bool, true, false, List, [], ◌∷◌, ◌++◌, length, Option, Some, None}
use Rattle.std.specs.Prelude.{Result, Ok, Err, if◌then◌else◌}
use Rattle.std.specs.List.{list_all}
use Rattle.std.specs.Str.{bytes_eq}
use Rattle.droid_frame.specs.declared.hash_kind.HashKind.{HashKind}
use Rattle.droid_export.specs.Fields.{kind_of}
use Rattle.droid_export.specs.Headers.{header_of, missing, whole_row}
use Rattle.droid_export.specs.Table as table
use Rattle.droid_export.specs.Table.{field_or, said}
use Rattle.droid_export.specs.declared.column.Column.{Column}
use Rattle.droid_export.specs.declared.column.Column.TheVariants as columns
use Rattle.droid_export.specs.declared.header.Header.{Header}
use Rattle.droid_frame.specs.Items.{same_truth}
use Rattle.droid_frame.specs.declared.item.Item.{Item}
use Rattle.droid_export.specs.ReadFields.{above_of, hash_of, id_of, length_of, moment_of, parent_of, path_of}
use Rattle.droid_export.specs.ReadFields.{rows_of}
use Rattle.droid_export.specs.FolderNumbers.{contradiction}
use Rattle.droid_export.specs.declared.reading.fault.ListFault.{ListFault}
use Rattle.droid_export.specs.declared.reading.fault.ListFault.TheVariants as faults
use Rattle.droid_export.specs.declared.reading.fault.RowFault.{RowFault}
use Rattle.droid_export.specs.declared.reading.fault.RowFault.TheVariants as row_faults
use Rattle.droid_export.specs.declared.reading.row.Entry.{Entry}
use Rattle.droid_export.specs.declared.reading.row.Parts.{Parts}
use Rattle.droid_export.specs.declared.reading.row.Spot.{Spot}
use Rattle.droid_export.specs.declared.reading.tag.Tag.{Tag}

-- ---- rows

-- a step that may find a wrong column, which is then the first
infixl 10 ◌>>=◌
abbrev pub ◌>>=◌ : {A B : Type 0} → Result A Column → (A → Result B Column) → Result B Column
(Err column) >>= f = Err column
(Ok x) >>= f = f x

-- this column is wrong where nothing could be read
abbrev pub or_wrong : {A : Type 0} → Column → Option A → Result A Column
or_wrong column None = Err column
or_wrong column (Some x) = Ok x

-- where an item is, by its ID, that of the folder above it, and the path above its own: an item at the top has no
-- folder above it, and any other has one
abbrev pub spot_by : ℕ → ℕ → List ℕ → Result Spot Column
spot_by id parent above =
    if same_truth (parent == 0) (length above == 0) then Ok (record { id = id; parent = parent; above = length above })
    else Err columns.ParentId

-- where a row says that its item is: ID, PARENT_ID, FILE_PATH and NAME
unfoldable pub spot_of : List (List ℕ) → Result Spot Column
spot_of row = do
  id ← or_wrong columns.Id (id_of (said row columns.Id))
  parent ← or_wrong columns.ParentId (parent_of (said row columns.ParentId))
  path ← or_wrong columns.FilePath (path_of (said row columns.FilePath))
  above ← or_wrong columns.Name (above_of path (said row columns.Name))
  spot_by id parent above

-- what a row says beside its path: its spot, TYPE, SIZE, LAST_MODIFIED, the hash and FORMAT_COUNT
unfoldable pub parts_of : HashKind → List (List ℕ) → Result Parts Column
parts_of digest row = do
  spot ← spot_of row
  kind ← or_wrong columns.Kind (kind_of (said row columns.Kind))
  size ← or_wrong columns.Size (length_of kind (said row columns.Size))
  modified ← or_wrong columns.LastModified (moment_of (said row columns.LastModified))
  hash ← or_wrong columns.Hash (hash_of digest kind (said row columns.Hash))
  rows ← or_wrong columns.FormatCount (rows_of kind (said row columns.FormatCount))
  Ok (record { spot = spot; kind = kind; length = size; modified = modified; hash = hash; rows = rows })

-- an item of this path and these parts, with what else its row says
abbrev pub entry_by : List ℕ → Result Parts Column → Result Entry RowFault
entry_by path (Err column) = Err (row_faults.Column column)
entry_by path (Ok parts) = Ok (record {
  item = record { path = path; kind = parts.kind; length = parts.length; modified = parts.modified; hash = parts.hash };
  spot = parts.spot;
  rows = parts.rows;
})

-- the item of a row with what else it says, or what is wrong with it; a row has a field for each column
abbrev pub entry_of : HashKind → List (List ℕ) → Result Entry RowFault
entry_of digest row =
    if length row == length table.columns then entry_by (said row columns.FilePath) (parts_of digest row)
    else Err row_faults.Fields

-- ---- records

-- the columns that all rows of a file share: all but PUID, MIME_TYPE, FORMAT_NAME and FORMAT_VERSION, which come last
abbrev pub shared_columns : List ℕ
shared_columns = 0 ∷ 1 ∷ 2 ∷ 3 ∷ 4 ∷ 5 ∷ 6 ∷ 7 ∷ 8 ∷ 9 ∷ 10 ∷ 11 ∷ 12 ∷ 13 ∷ []

-- whether two rows have the same bytes in a column
abbrev pub same_column : List (List ℕ) → List (List ℕ) → ℕ → Bool
same_column last row column = bytes_eq (field_or last column) (field_or row column)

-- whether two rows have the same bytes in each column that all rows of a file share
abbrev pub are_same : List (List ℕ) → List (List ℕ) → Bool
are_same last row = list_all (same_column last row) shared_columns

-- Whether a row repeats the row before it, if there was one. A file with several formats has a row for each.
abbrev pub repeats : Option (List (List ℕ)) → List (List ℕ) → Bool
repeats None row = false
repeats (Some last) row = are_same last row

-- The rows so far.
pub record Rows : Type 0 where
  pub items : List Item
  -- what the first row of each item says beside it
  pub tags : List Tag
  -- how many rows of the last item are still to come
  pub left : ℕ

-- before the first row
abbrev pub no_rows : Rows
no_rows = record { items = []; tags = []; left = 0 }

-- what is kept of an entry, to be compared with other rows
abbrev pub tag_of : ℕ → Entry → Tag
tag_of number entry =
    record { number = number; id = entry.spot.id; parent = entry.spot.parent; above = entry.spot.above }

-- the rows with one more, of this number: of the last item, or of a new one
abbrev pub with_entry : ℕ → Rows → Entry → Bool → Result Rows ListFault
with_entry number rows entry true =
    if rows.left == 0 then Err (faults.Contradiction number columns.FormatCount)
    else Ok (record { items = rows.items; tags = rows.tags; left = rows.left - 1 })
with_entry number rows entry false =
    if rows.left == 0
    then Ok (record {
      items = rows.items ++ entry.item ∷ [];
      tags = rows.tags ++ tag_of number entry ∷ [];
      left = entry.rows - 1;
    })
    else Err (faults.Contradiction (number - 1) columns.FormatCount)

-- these items, unless rows contradict each other
abbrev pub unless_found : List Item → Option ListFault → Result (List Item) ListFault
unless_found items None = Ok items
unless_found items (Some fault) = Err fault

-- the items, unless rows are missing at the end, or rows contradict each other
abbrev pub judged : ℕ → Rows → Result (List Item) ListFault
judged records rows =
    if rows.left == 0 then unless_found rows.items (contradiction rows.items rows.tags)
    else Err (faults.Contradiction records columns.FormatCount)

-- ---- headers

-- the columns that a list is read by, and where the formats of its files are asked for
abbrev pub needed : Bool → List Column
needed formats =
    columns.Id ∷ columns.ParentId ∷ columns.FilePath ∷ columns.Name ∷ columns.Size ∷ columns.Kind ∷ columns.LastModified
    ∷ columns.Hash ∷ columns.FormatCount ∷ (if formats then columns.Puid ∷ [] else [])

-- whether the header was read, and before it whether formats are asked for
pub data Stage : Type 0 where
  Before : Bool → Stage
  Behind : Header → Stage

-- what was read so far: the header, if there was one, the number of records, the rows, and the last row, if there was
-- one
pub record Draft : Type 0 where
  pub stage : Stage
  pub records : ℕ
  pub rows : Rows
  pub last : Option (List (List ℕ))

-- the draft after the header, which has the columns that are needed
abbrev pub with_columns : Header → Option Column → Result Draft ListFault
with_columns header (Some column) = Err (faults.Missing column)
with_columns header None = Ok (record { stage = Behind header; records = 1; rows = no_rows; last = None })

-- the draft after a record that may be a header
abbrev pub with_header : Bool → Option Header → Result Draft ListFault
with_header formats None = Err faults.Header
with_header formats (Some header) = with_columns header (missing (needed formats) header)

-- the fault of a list with these hashes by that of its row
abbrev pub fault_at : ℕ → HashKind → RowFault → ListFault
fault_at number hash row_faults.Fields = faults.Fields number
fault_at number hash (row_faults.Column column) = faults.Column number column hash

-- the draft with these rows, or the fault
abbrev pub after_rows : Draft → List (List ℕ) → Result Rows ListFault → Result Draft ListFault
after_rows draft row (Err fault) = Err fault
after_rows draft row (Ok rows) =
    Ok (record { stage = draft.stage; records = draft.records + 1; rows = rows; last = Some row })

-- the draft after a row that was read
abbrev pub with_row : Draft → HashKind → List (List ℕ) → Result Entry RowFault → Result Draft ListFault
with_row draft hash row (Err fault) = Err (fault_at (draft.records + 1) hash fault)
with_row draft hash row (Ok entry) =
    after_rows draft row (with_entry (draft.records + 1) draft.rows entry (repeats draft.last row))

-- the draft after a row with all columns
abbrev pub with_whole : Draft → HashKind → List (List ℕ) → Result Draft ListFault
with_whole draft hash row = with_row draft hash row (entry_of hash row)

-- the draft after a record: the header first, then the rows
abbrev pub taken_by : Draft → Stage → List (List ℕ) → Result Draft ListFault
taken_by draft (Before formats) fields = with_header formats (header_of fields)
taken_by draft (Behind header) fields = with_whole draft header.hash (whole_row header fields)

-- the draft after one more record
abbrev pub taken : Draft → List (List ℕ) → Result Draft ListFault
taken draft fields = taken_by draft draft.stage fields

-- the items of a list, which has a header and rows that agree with each other
abbrev pub finished : Stage → ℕ → Rows → Result (List Item) ListFault
finished (Before formats) records rows = Err faults.Header
finished (Behind header) records rows = judged records rows

-- what follows, unless there was a fault
abbrev pub after : Result Draft ListFault → (Draft → Result (List Item) ListFault) → Result (List Item) ListFault
after (Ok draft) more = more draft
after (Err fault) more = Err fault

-- what comes of the records after those that are in the draft: the items, or the first fault
abbrev pub items_from : Draft → List (List (List ℕ)) → Result (List Item) ListFault
items_from draft [] = finished draft.stage draft.records draft.rows
items_from draft (fields ∷ records) = after (taken draft fields) (λ next. items_from next records)

-- before the first record
abbrev pub nothing_read : Bool → Draft
nothing_read formats = record { stage = Before formats; records = 0; rows = no_rows; last = None }

-- the items of a profile's records, of whose files the formats may be asked for; or the first fault
abbrev pub profile_of : Bool → List (List (List ℕ)) → Result (List Item) ListFault
profile_of formats records = items_from (nothing_read formats) records
