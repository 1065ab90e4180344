-- How the profile of a folder ends (this project's own).
use Rattle.std.specs.Prelude.{◌≡◌, ℕ, Bool, true, false, List, [], Option, Some, None, option_map, Result, Ok, Err}
use Rattle.droid_arguments.specs.declared.profile.ProfileOptions.{ProfileOptions}
use Rattle.droid_profile.specs.declared.csv_fault.CsvFault.{CsvFault}
use Rattle.droid_profile.specs.declared.csv_fault.CsvFault.TheVariants as faults
use Rattle.droid_terminal.specs.Endings as endings
use Rattle.droid_terminal.specs.Endings.{Told, by, of_path, output_name}
use Rattle.droid_terminal.specs.FaultTable as table
use Rattle.droid_terminal.specs.SeenAgain.{IsNoFolder}
use Rattle.droid_cmd_profile.specs.Endings.{TellsOutput, TellsPage}
use Rattle.droid_cmd_profile.specs.declared.pages.page_fault.PageFault.{PageFault}
use Rattle.droid_cmd_profile.specs.declared.profile_ending.ProfileEnding.{ProfileEnding}
use Rattle.droid_cmd_profile.specs.declared.profile_ending.ProfileEnding.TheVariants.{Whole, Partly, NoFolder, SameFile}
use Rattle.droid_cmd_profile.specs.declared.profile_ending.ProfileEnding.TheVariants.{NoOutput, Fault, Unlisted, NoPage}
use Rattle.droid_cmd_profile.specs.declared.profile_outputs.OutputFile.{OutputFile}
use Rattle.droid_cmd_profile.specs.declared.profile_outputs.OutputFile.TheVariants as files
use Rattle.droid_cmd_profile.specs.declared.skipped_file.SkippedFault.{SkippedFault}
use Rattle.droid_cmd_profile.specs.declared.skipped_file.SkippedFault.TheVariants as skipping

-- the ending, by what the walk returned, and by the fault of the file for what was skipped
abbrev pub ending_of : Result Bool CsvFault → Option SkippedFault → ProfileEnding
ending_of (Err fault) unlisted = Fault fault
ending_of (Ok whole) (Some fault) = Unlisted fault
ending_of (Ok true) None = Whole
ending_of (Ok false) None = Partly

-- the ending where the CSV was also kept: a lack of memory for that comes before any other
abbrev pub lacking_memory : ProfileEnding → Bool → ProfileEnding
lacking_memory ending true = Fault faults.Memory
lacking_memory ending false = ending

-- the ending after the page
abbrev pub with_page : {V : Type 0} → ProfileEnding → Result V PageFault → ProfileEnding
with_page ending (Ok value) = ending
with_page ending (Err fault) = NoPage fault

-- whether everything was written that comes before the page
abbrev pub is_written : ProfileEnding → Bool
is_written Whole = true
is_written Partly = true
is_written NoFolder = false
is_written (SameFile file) = false
is_written (NoOutput file fault) = false
is_written (Fault fault) = false
is_written (Unlisted fault) = false
is_written (NoPage fault) = false

-- the path of a file that a profile writes
abbrev pub path_of : ProfileOptions → OutputFile → List ℕ
path_of options files.Csv = output_name (option_map (λ path. path.now) options.output)
path_of options files.Manifest = output_name (option_map (λ path. path.now) options.manifest)
path_of options files.Skipped = output_name (option_map (λ path. path.now) options.skipped)
path_of options files.Page = output_name (option_map (λ path. path.now) options.report)

-- the ending where a file could not be written
abbrev pub told_unwritten : ProfileOptions → OutputFile → Told
told_unwritten options file = by table.unwritten (of_path (path_of options file))

-- how the command ends if the walk ended early, or the profile could not be written
abbrev pub told_unprofiled : CsvFault → ProfileOptions → Told
told_unprofiled faults.Memory options = by table.memory []
told_unprofiled faults.Numbers options = by table.too_many (of_path options.folder.now)
told_unprofiled faults.Csv options = told_unwritten options files.Csv
told_unprofiled faults.Manifest options = told_unwritten options files.Manifest

-- how the command ends if what was skipped could not be written
abbrev pub told_unlisted : SkippedFault → ProfileOptions → Told
told_unlisted skipping.Memory options = by table.memory []
told_unlisted (skipping.Write why) options = told_unwritten options files.Skipped

-- the ending by the table
abbrev pub Tells : ProfileEnding → ProfileOptions → Told → Type 0
Tells Whole options it = it ≡ endings.Whole
Tells Partly options it = it ≡ endings.Partly
Tells NoFolder options it = IsNoFolder options.folder.now it
Tells (SameFile file) options it = it ≡ by table.same_output (of_path (path_of options file))
Tells (NoOutput file fault) options it = TellsOutput fault (path_of options file) it
Tells (Fault fault) options it = it ≡ told_unprofiled fault options
Tells (Unlisted fault) options it = it ≡ told_unlisted fault options
Tells (NoPage fault) options it = TellsPage fault (path_of options files.Csv) (path_of options files.Page) it
