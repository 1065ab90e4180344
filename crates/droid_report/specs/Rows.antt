-- The rows of a profile's CSV as a report reads them (docs/CSV.md): after `read_profile`, which judges all columns that
-- `verify` reads.
use Rattle.std.specs.Prelude.{ℕ, ◌+◌, not, Bool, false, List, [], ◌∷◌, ◌++◌, Option, Some, None}
use Rattle.std.specs.Prelude.{Result, Ok, Err, if◌then◌else◌}
use Rattle.std.specs.List.{find}
use Rattle.std.specs.Str.{bytes_eq, is_utf8}
use Rattle.droid_frame.specs.declared.hash_kind.HashKind.{HashKind}
use Rattle.droid_frame.specs.declared.item.Item.{Item}
use Rattle.droid_frame.specs.declared.method.Method.{Method}
use Rattle.droid_export.specs.Headers.{header_of, missing, whole_row}
use Rattle.droid_export.specs.Profiles as verified
use Rattle.droid_export.specs.Profiles.{◌>>=◌, or_wrong}
use Rattle.droid_export.specs.Table.{field_or, place_of, said}
use Rattle.droid_export.specs.declared.column.Column.{Column}
use Rattle.droid_export.specs.declared.column.Column.TheVariants as columns
use Rattle.droid_export.specs.declared.header.Header.{Header}
use Rattle.droid_export.specs.declared.reading.fault.ListFault.{ListFault}
use Rattle.droid_export.specs.declared.reading.fault.ListFault.TheVariants as faults
use Rattle.droid_report.specs.Fields.{depth_of, digits_of, kind_in, method_of, number_in, truth_of, year_of}
use Rattle.droid_report.specs.declared.facts.Facts.{Facts}

-- ---- rows

-- whether the field at a place is UTF-8
abbrev pub is_text : List (List ℕ) → ℕ → Bool
is_text row place = is_utf8 (field_or row place)

-- whether a column is UTF-8
abbrev pub is_printable : List (List ℕ) → Column → Bool
is_printable row column = is_text row (place_of column)

-- the text of a column, or nothing where it is no text
abbrev pub text_at : List (List ℕ) → ℕ → List ℕ
text_at row place = if is_text row place then field_or row place else []

-- the texts that a report alone reads
abbrev pub texts : List Column
texts = columns.FilePath ∷ columns.Puid ∷ columns.FormatName ∷ columns.FormatVersion ∷ []

-- the first of them that is not UTF-8
abbrev pub no_text : List (List ℕ) → Option Column
no_text row = find (λ column. not (is_printable row column)) texts

-- what a row says beside its texts, with its method, and whether it is a mismatch
abbrev pub facts_by : List (List ℕ) → Method → Bool → Facts
facts_by row method is_mismatch = record {
  kind = kind_in (said row columns.Kind);
  size = number_in (said row columns.Size);
  method = method;
  is_mismatch = is_mismatch;
  formats = number_in (said row columns.FormatCount);
  year = year_of (said row columns.LastModified);
  moment = digits_of (said row columns.LastModified);
  depth = depth_of (said row columns.FilePath);
}

-- these facts, unless a column is wrong
abbrev pub unless_wrong : Option Column → Facts → Result Facts Column
unless_wrong (Some column) facts = Err column
unless_wrong None facts = Ok facts

-- what a row says beside its texts, or the first wrong column of those that a report alone reads
unfoldable pub facts_of : List (List ℕ) → Result Facts Column
facts_of row = do
  method ← or_wrong columns.Method (method_of (said row columns.Method))
  is_mismatch ← or_wrong columns.ExtensionMismatch (truth_of (said row columns.ExtensionMismatch))
  unless_wrong (no_text row) (facts_by row method is_mismatch)

-- A row that was read. A file with several formats has a row for each; those after its first have its ID.
pub record Line : Type 0 where
  pub fields : List (List ℕ)
  pub facts : Facts
  pub is_first : Bool

-- whether a row has the ID of the last of these
abbrev pub has_id : Option Line → List (List ℕ) → Bool
has_id None row = false
has_id (Some line) row = bytes_eq (said line.fields columns.Id) (said row columns.Id)

-- the last row, if there is one
abbrev pub last : List Line → Option Line
last [] = None
last (line ∷ []) = Some line
last (line ∷ next ∷ lines) = last (next ∷ lines)

-- ---- records

-- the columns that a report is made of beside those that `verify` reads
abbrev pub needed : List Column
needed =
    columns.Method ∷ columns.ExtensionMismatch ∷ columns.Puid ∷ columns.FormatName ∷ columns.FormatVersion ∷ []

-- what was read so far: the header, if there was one, how many records, and the rows
pub record Draft : Type 0 where
  pub header : Option Header
  pub records : ℕ
  pub lines : List Line

-- before the first record
abbrev pub nothing_read : Draft
nothing_read = record { header = None; records = 0; lines = [] }

-- the draft after the header, which has the columns that are needed
abbrev pub with_columns : Header → Option Column → Result Draft ListFault
with_columns header (Some column) = Err (faults.Missing column)
with_columns header None = Ok (record { header = Some header; records = 1; lines = [] })

-- the draft after a record that may be a header
abbrev pub with_header : Option Header → Result Draft ListFault
with_header None = Err faults.Header
with_header (Some header) = with_columns header (missing needed header)

-- after a record behind the header: the row is the first of its file unless the one before it has its ID
abbrev pub with_row : Draft → HashKind → List (List ℕ) → Result Facts Column → Result Draft ListFault
with_row draft hash row (Err column) = Err (faults.Column (draft.records + 1) column hash)
with_row draft hash row (Ok facts) =
    Ok (record {
      header = draft.header;
      records = draft.records + 1;
      lines =
          draft.lines ++ record { fields = row; facts = facts; is_first = not (has_id (last draft.lines) row) } ∷ [];
    })

-- the header first, then the rows
abbrev pub taken_by : Option Header → Draft → List (List ℕ) → Result Draft ListFault
taken_by None draft row = with_header (header_of row)
taken_by (Some header) draft row = with_row draft header.hash (whole_row header row) (facts_of (whole_row header row))

-- after one record more
abbrev pub taken : Draft → List (List ℕ) → Result Draft ListFault
taken draft row = taken_by draft.header draft row

-- a profile: which hash its rows have, and the rows
pub record Profile : Type 0 where
  pub hash : HashKind
  pub lines : List Line

-- the profile, if there was a header
abbrev pub finished : Option Header → List Line → Result Profile ListFault
finished None lines = Err faults.Header
finished (Some header) lines = Ok (record { hash = header.hash; lines = lines })

-- goes on with what was read, or ends with the first fault
abbrev pub after : Result Draft ListFault → (Draft → Result Profile ListFault) → Result Profile ListFault
after (Ok draft) more = more draft
after (Err fault) more = Err fault

-- the profile after the rest of the records
abbrev pub profile_from : Draft → List (List (List ℕ)) → Result Profile ListFault
profile_from draft [] = finished draft.header draft.lines
profile_from draft (row ∷ rows) = after (taken draft row) (λ next. profile_from next rows)

-- the rows of records, or the first fault in the columns that a report alone reads
abbrev pub lines_of : List (List (List ℕ)) → Result Profile ListFault
lines_of records = profile_from nothing_read records

-- the folders and files of records as `verify` reads them, or the first fault
abbrev pub items_of : List (List (List ℕ)) → Result (List Item) ListFault
items_of records = verified.profile_of false records

-- a profile, unless `verify` refuses its records: then that is the fault
abbrev pub unless_refused : Result (List Item) ListFault → Result Profile ListFault → Result Profile ListFault
unless_refused (Ok items) profile = profile
unless_refused (Err fault) profile = Err fault

-- the rows of a profile's records, or the first fault
abbrev pub profile_of : List (List (List ℕ)) → Result Profile ListFault
profile_of records = unless_refused (items_of records) (lines_of records)
