-- What the calls that read a profile promise, in the code's own types. `read_report` promises `GivesReport`; the others
-- are for inner clauses and proofs.
use Rattle.std.specs.Prelude.{◌≡◌, ◌≢◌, ℕ, List, [], None, Result, Ok, Err}
use Rattle.std.specs.Option.{option_map}
use Rattle.droid_frame.specs.declared.item.Item.{Item}
use Rattle.droid_export.specs.declared.reading.fault.ListFault.{ListFault}
use Rattle.droid_export.specs.declared.reading.fault.ListFault.TheVariants as faults
use Rattle.droid_report.specs.Lines.{line_of}
use Rattle.droid_report.specs.Reports.{AreCounts, AreProfile, HavePaths, HaveTwice, IsReport, Refuses}
use Rattle.droid_report.specs.Rows.{Draft, Profile, items_of, last}
use Rattle.droid_report.specs.declared.draft.Draft as inside
use Rattle.droid_report.specs.declared.fault.ProfileFault.{ProfileFault}
use Rattle.droid_report.specs.declared.fault.ProfileFault.TheVariants.{Csv, Twice}
use Rattle.droid_report.specs.declared.report.Report.{Report}

-- the code's draft has what was read so far
pub record IsDraft (draft : inside.Draft) (read : Draft) : Type 0 where
  pub header : draft.header ≡ read.header
  pub records : draft.records ≡ read.records
  pub last_line : option_map line_of draft.last ≡ last read.lines
  pub counts : AreCounts read.lines draft.counts
  pub fresh : read.header ≡ None → read.lines ≡ []

-- A call that ends a reading returned the report of the expected profile, or the expected fault; or memory ran out.
abbrev pub Gives : Result Report ListFault → Result Profile ListFault → Type 0
Gives (Ok report) expected = (profile : Profile) × (expected ≡ Ok profile) × IsReport profile report
Gives (Err fault) expected = fault ≢ faults.Memory → expected ≡ Err fault

-- A call that takes a record left the expected draft, or returned the expected fault; or memory ran out.
abbrev pub Leaves : Result (Unit {0}) ListFault → inside.Draft → Result Draft ListFault → Type 0
Leaves (Ok done) new expected = (read : Draft) × (expected ≡ Ok read) × IsDraft new read
Leaves (Err fault) new expected = fault ≢ faults.Memory → expected ≡ Err fault

-- records were read as `verify` reads them, and no path stands twice; or the fault
abbrev pub Verifies : List (List (List ℕ)) → Result (Unit {0}) ProfileFault → Type 0
Verifies records (Ok done) = (items : List Item) × (items_of records ≡ Ok items) × HavePaths items
Verifies records (Err (Csv fault)) = fault ≢ faults.Memory → items_of records ≡ Err fault
Verifies records (Err (Twice same)) = HaveTwice records same.path

-- a call gave the report of records, or why there is none
abbrev pub GivesReport : List (List (List ℕ)) → Result Report ProfileFault → Type 0
GivesReport records (Ok report) = (profile : Profile) × AreProfile records profile × IsReport profile report
GivesReport records (Err fault) = Refuses records fault
