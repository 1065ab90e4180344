-- How a report ends, and a page (this project's own).
use Rattle.std.specs.Prelude.{◌≡◌, ℕ, List, [], ◌++◌, Some, None, codes, decimal}
use Rattle.std.specs.declared.io.ErrorKind.{ErrorKind}
use Rattle.std.specs.declared.io.ErrorKind.TheVariants as kinds
use Rattle.droid_report.specs.declared.fault.ProfileFault.{ProfileFault}
use Rattle.droid_report.specs.declared.fault.ProfileFault.TheVariants.{Csv, Twice}
use Rattle.droid_export.specs.Table.{name_of, names_of}
use Rattle.droid_export.specs.declared.reading.fault.ListFault.{ListFault}
use Rattle.droid_export.specs.declared.reading.fault.ListFault.TheVariants as faults
use Rattle.droid_disk.specs.declared.output.OutputFault.{OutputFault}
use Rattle.droid_disk.specs.declared.output.OutputFault.TheVariants as outputs
use Rattle.droid_terminal.specs.Endings as endings
use Rattle.droid_terminal.specs.Endings.{Said, Told, by, detailed, of_path}
use Rattle.droid_terminal.specs.FaultTable as table
use Rattle.droid_terminal.specs.Paths.{shown_text}
use Rattle.droid_terminal.specs.SeenAgain.{IsNoOutput}
use Rattle.droid_cmd_profile.specs.declared.pages.page_fault.PageFault.{PageFault}
use Rattle.droid_cmd_profile.specs.declared.pages.page_fault.PageFault.TheVariants.{NoOutput, Memory, Refused}
use Rattle.droid_cmd_profile.specs.declared.pages.page_fault.PageFault.TheVariants.{Unwritten}
use Rattle.droid_cmd_profile.specs.declared.pages.report_ending.ReportEnding.{ReportEnding}
use Rattle.droid_cmd_profile.specs.declared.pages.report_ending.ReportEnding.TheVariants.{Whole, Unread, SameFile}
use Rattle.droid_cmd_profile.specs.declared.pages.report_ending.ReportEnding.TheVariants.{NoProfile, NoPage}

-- the ending where a file could not be created or replaced
abbrev pub TellsOutput : OutputFault → List ℕ → Told → Type 0
TellsOutput outputs.Memory path it = it ≡ by table.memory []
TellsOutput outputs.Refused path it = IsNoOutput path it

-- the fault of the page of a CSV that the command itself made
abbrev pub csv_fault : ListFault → PageFault
csv_fault faults.Memory = Memory
csv_fault fault = Refused

-- the fault of the page by what reading its CSV refused: it has no path twice either
abbrev pub page_fault : ProfileFault → PageFault
page_fault (Csv fault) = csv_fault fault
page_fault (Twice same) = Refused

-- how a command ends that could not write the page of a CSV
abbrev pub TellsPage : PageFault → List ℕ → List ℕ → Told → Type 0
TellsPage (NoOutput fault) csv page it = TellsOutput fault page it
TellsPage Memory csv page it = it ≡ by table.memory []
TellsPage Refused csv page it = it ≡ by table.own_csv_refused (of_path csv)
TellsPage (Unwritten fault) csv page it = it ≡ by table.unwritten (of_path page)

-- the ending where the CSV that a report is made of could not be read
abbrev pub told_unread : ErrorKind → List ℕ → Told
told_unread kinds.NotFound csv = by table.profile_missing (of_path csv)
told_unread kind csv = detailed table.profile_unread (of_path csv) None

-- a row whose sentence names a record or a line
abbrev pub at_number : Said → List ℕ → ℕ → Told
at_number row path number = detailed row (of_path path) (Some (decimal number))

-- one that also names a column of the record
abbrev pub at_column : Said → List ℕ → ℕ → List ℕ → Told
at_column row csv number name = detailed row (of_path csv) (Some (decimal number ++ (codes ": " ++ name)))

-- the ending by a profile's CSV that is malformed or contradicts itself
abbrev pub told_no_csv : ListFault → List ℕ → Told
told_no_csv faults.Memory csv = by table.memory []
told_no_csv faults.Header csv = by table.list_other (of_path csv)
told_no_csv (faults.Missing column) csv = detailed table.list_lacks (of_path csv) (Some (names_of column))
told_no_csv (faults.Fields number) csv = at_number table.list_fields csv number
told_no_csv (faults.Column number column hash) csv = at_column table.list_wrong csv number (name_of hash column)
told_no_csv (faults.Contradiction number column) csv = at_column table.list_contradicts csv number (names_of column)

-- how `report` ends if its CSV is none of a profile
abbrev pub told_no_profile : ProfileFault → List ℕ → Told
told_no_profile (Csv fault) csv = told_no_csv fault csv
told_no_profile (Twice same) csv = detailed table.list_twice (of_path csv) (Some (shown_text same.path))

-- the ending of a report by the table
abbrev pub Tells : ReportEnding → List ℕ → List ℕ → Told → Type 0
Tells Whole csv page it = it ≡ endings.Whole
Tells (Unread kind) csv page it = it ≡ told_unread kind csv
Tells SameFile csv page it = it ≡ by table.csv_itself (of_path page)
Tells (NoProfile fault) csv page it = it ≡ told_no_profile fault csv
Tells (NoPage fault) csv page it = TellsPage fault csv page it
