-- The ending of a submission by the table of faults (this project's own).
use Rattle.std.specs.Prelude.{◌≡◌, ℕ, List, [], ◌++◌, Option, Some, None, option_map, codes, decimal}
use Rattle.std.specs.declared.io.ErrorKind.{ErrorKind}
use Rattle.std.specs.declared.io.ErrorKind.TheVariants as kinds
use Rattle.droid_arguments.specs.declared.submit.SubmitOptions.{SubmitOptions}
use Rattle.droid_lists.specs.ProfileTexts.{name_of}
use Rattle.droid_tree.specs.declared.fault.WalkFault.{WalkFault}
use Rattle.droid_tree.specs.declared.fault.WalkFault.TheVariants as walks
use Rattle.droid_terminal.specs.Endings as endings
use Rattle.droid_terminal.specs.Endings.{Said, Told, by, detailed, of_path, of_port, of_unheard}
use Rattle.droid_terminal.specs.FaultTable as table
use Rattle.droid_terminal.specs.SeenAgain.{IsNoFolder}
use Rattle.droid_cmd_profile.specs.Endings.{TellsOutput, TellsPage}
use Rattle.droid_cmd_submit.specs.BegunOptions.{begun_words}
use Rattle.droid_cmd_submit.specs.ToldTransfers.{told_transfer, told_unsubmitted}
use Rattle.droid_cmd_submit.specs.declared.submission_ending.OutputFile.{OutputFile}
use Rattle.droid_cmd_submit.specs.declared.submission_ending.OutputFile.TheVariants as files
use Rattle.droid_cmd_submit.specs.declared.submission_ending.SubmissionEnding.{SubmissionEnding}
use Rattle.droid_cmd_submit.specs.declared.submission_ending.SubmissionEnding.TheVariants.{Whole, Partly, NoFolder}
use Rattle.droid_cmd_submit.specs.declared.submission_ending.SubmissionEnding.TheVariants.{NoMemory, InFolder, SameFile}
use Rattle.droid_cmd_submit.specs.declared.submission_ending.SubmissionEnding.TheVariants.{NoOutput, Unwritten}
use Rattle.droid_cmd_submit.specs.declared.submission_ending.SubmissionEnding.TheVariants.{NoConnection, Uncounted}
use Rattle.droid_cmd_submit.specs.declared.submission_ending.SubmissionEnding.TheVariants.{Unsubmitted, OtherOptions}
use Rattle.droid_cmd_submit.specs.declared.submission_ending.SubmissionEnding.TheVariants.{NoExport, TooLong, Disturbed}
use Rattle.droid_cmd_submit.specs.declared.submission_ending.SubmissionEnding.TheVariants.{WrongExport, NoPage}

-- a file's path as it is printed
abbrev pub export_name : Option (List ℕ) → List ℕ
export_name (Some path) = path
export_name None = codes "the export"

-- the path of a file that a submission writes
abbrev pub path_of : SubmitOptions → OutputFile → List ℕ
path_of options files.Export = export_name (option_map (λ path. path.now) options.export)
path_of options files.Skipped = export_name (option_map (λ path. path.now) options.skipped)
path_of options files.Page = export_name (option_map (λ path. path.now) options.report)

-- where no connection was ever made
abbrev pub told_no_connection : ErrorKind → ℕ → Told
told_no_connection kinds.ConnectionRefused port = by table.nobody_listens (of_unheard port)
told_no_connection kind port = detailed table.unconnected (of_port port) None

-- where the folder could not be counted
abbrev pub walk_row : WalkFault → Said
walk_row walks.Memory = table.memory
walk_row walks.Reply = table.walk_mistake
walk_row walks.Folders = table.new_folders
walk_row walks.Entries = table.entries
walk_row walks.Bytes = table.bytes

-- where the CSV that came is that of no profile
abbrev pub told_wrong_export : ℕ → ℕ → SubmitOptions → Told
told_wrong_export number column options =
    detailed table.wrong_export (of_port options.to.port)
    (Some (decimal number ++ (codes " is wrong in " ++ name_of options.hash column)))

-- the ending by the table
abbrev pub Tells : SubmissionEnding → SubmitOptions → Told → Type 0
Tells Whole options it = it ≡ endings.Whole
Tells Partly options it = it ≡ endings.Partly
Tells NoFolder options it = IsNoFolder options.folder.now it
Tells NoMemory options it = it ≡ by table.memory []
Tells (InFolder file) options it = it ≡ by table.lies_in_the_folder (of_path (path_of options file))
Tells (SameFile file) options it = it ≡ by table.same_output (of_path (path_of options file))
Tells (NoOutput file fault) options it = TellsOutput fault (path_of options file) it
Tells (Unwritten file) options it = it ≡ by table.output_unwritten (of_path (path_of options file))
Tells (NoConnection cause) options it = it ≡ told_no_connection cause options.to.port
Tells (Uncounted fault) options it = it ≡ by (walk_row fault) (of_path options.folder.now)
Tells (Unsubmitted fault) options it = it ≡ told_unsubmitted fault options
Tells (OtherOptions begun) options it =
    it ≡ detailed table.other_options (of_port options.to.port) (Some (begun_words begun))
Tells (NoExport fault) options it = it ≡ told_transfer fault options.to
Tells (TooLong total) options it = it ≡ detailed table.long_export (of_port options.to.port) (Some (decimal total))
Tells Disturbed options it = it ≡ by table.disturbed (of_port options.to.port)
Tells (WrongExport number column) options it = it ≡ told_wrong_export number column options
Tells (NoPage fault) options it = TellsPage fault (path_of options files.Export) (path_of options files.Page) it
