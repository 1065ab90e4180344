-- For clauses and proofs: what the calls that read a profile promise, in the code's own types.
use Rattle.std.specs.Prelude.{◌≡◌, ◌≢◌, ℕ, ◌++◌, Bool, List, Vec, Option, Some, None, Result, Ok, Err}
use Rattle.std.specs.Option.{option_map}
use Rattle.std.specs.declared.alloc.Global.{Global}
use Rattle.csv.specs.Records.{fields_of}
use Rattle.droid_frame.specs.declared.item.Item.{Item}
use Rattle.droid_export.specs.declared.header.Header.{Header}
use Rattle.droid_export.specs.FormatRows.{format_rows, rows_if}
use Rattle.droid_export.specs.Profiles.{Draft, Rows, Stage, Before, Behind, profile_of}
use Rattle.droid_export.specs.declared.reading.draft.Draft as inside
use Rattle.droid_export.specs.declared.reading.format_row.FormatRow.{FormatRow}
use Rattle.droid_export.specs.declared.reading.format_row.RowFormats as inside_formats
use Rattle.droid_export.specs.declared.reading.profile.Profile.{Profile}
use Rattle.droid_export.specs.declared.reading.rows.Rows as inside_rows
use Rattle.droid_export.specs.declared.reading.fault.ListFault.{ListFault}
use Rattle.droid_export.specs.declared.reading.fault.ListFault.TheVariants as faults

-- the contents of the code's rows and draft
abbrev pub rows_of : inside_rows.Rows → Rows
rows_of rows = record { items = rows.items.items; tags = rows.tags.items; left = rows.left }

-- the stage of the code's draft
abbrev pub stage_of : Bool → Option Header → Stage
stage_of formats None = Before formats
stage_of formats (Some header) = Behind header

-- the contents of the code's draft
abbrev pub draft_of : inside.Draft → Draft
draft_of draft = record {
  stage = stage_of draft.formats.kept draft.header;
  records = draft.records;
  rows = rows_of draft.rows;
  last = option_map fields_of draft.last;
}

-- a call gave the items or the fault that were expected, unless memory ran out
abbrev pub Gives : Result (Vec Item Global) ListFault → Result (List Item) ListFault → Type 0
Gives (Ok items) expected = expected ≡ Ok items.items
Gives (Err fault) expected = fault ≢ faults.Memory → expected ≡ Err fault

-- the items of what a call gave
abbrev pub items_in : Result Profile ListFault → Result (Vec Item Global) ListFault
items_in (Ok profile) = Ok profile.items
items_in (Err fault) = Err fault

-- a call that changes rows, or a draft, left what was expected (`new`), or gave the fault that was, unless memory ran
-- out
abbrev pub Leaves : {A : Type 0} → Result (Unit {0}) ListFault → A → Result A ListFault → Type 0
Leaves (Ok done) new expected = expected ≡ Ok new
Leaves (Err fault) new expected = fault ≢ faults.Memory → expected ≡ Err fault

-- these rows of files came behind those that were there
pub record AddsRows (old new : inside_formats.RowFormats) (rows : List FormatRow) : Type 0 where
  pub kept : new.kept ≡ old.kept
  pub added : new.rows.items ≡ old.rows.items ++ rows

-- what a profile's records say: the items, and if they are asked for the formats of the files
pub record IsProfileOf (formats : Bool) (records : List (List (List ℕ))) (profile : Profile) : Type 0 where
  pub items : profile_of formats records ≡ Ok profile.items.items
  pub its_formats : profile.formats.items ≡ rows_if formats (format_rows records)

-- a call gave that, or the first fault, unless memory ran out
abbrev pub GivesProfile : Bool → List (List (List ℕ)) → Result Profile ListFault → Type 0
GivesProfile formats records (Ok profile) = IsProfileOf formats records profile
GivesProfile formats records (Err fault) = fault ≢ faults.Memory → profile_of formats records ≡ Err fault
