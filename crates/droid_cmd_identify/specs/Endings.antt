-- How `identify` ends (this project's own).
use Rattle.std.specs.Prelude.{ℕ, Bool, true, false, List, [], codes}
use Rattle.droid_arguments.specs.declared.identify.IdentifyForm.{IdentifyForm}
use Rattle.droid_arguments.specs.declared.identify.IdentifyForm.TheVariants as forms
use Rattle.droid_terminal.specs.Endings as table_endings
use Rattle.droid_terminal.specs.Endings.{Told, by, of_path}
use Rattle.droid_terminal.specs.FaultTable as table
use Rattle.droid_cmd_identify.specs.declared.identify_ending.IdentifyEnding.{IdentifyEnding}
use Rattle.droid_cmd_identify.specs.declared.identify_ending.IdentifyEnding.TheVariants as endings

-- where all files were looked at, and one has no format: that counts where the PUIDs alone are printed
abbrev pub unidentified_by : IdentifyForm → IdentifyEnding
unidentified_by forms.Puids = endings.Unidentified
unidentified_by forms.Csv = endings.Whole
unidentified_by forms.Lines = endings.Whole
unidentified_by forms.Json = endings.Whole
unidentified_by forms.Siegfried = endings.Whole

-- the ending, by whether something could not be read, and whether a file has no format
abbrev pub ending_of : IdentifyForm → (unread unidentified : Bool) → IdentifyEnding
ending_of form true unidentified = endings.Partly
ending_of form false false = endings.Whole
ending_of form false true = unidentified_by form

-- the ending by the table, given the PUID of the format of which is asked why a file does not have it
abbrev pub told_of : IdentifyEnding → List ℕ → Told
told_of endings.Whole puid = table_endings.Whole
told_of endings.Unidentified puid = table_endings.Whole
told_of endings.Partly puid = table_endings.Partly
told_of endings.NoFormat puid = by table.no_such_format (of_path puid)
told_of endings.Write puid = by table.unwritten (of_path (codes "standard output"))
told_of endings.Memory puid = by table.memory []

-- the exit status
abbrev pub status_of : IdentifyEnding → ℕ
status_of endings.Whole = 0
status_of endings.Unidentified = 1
status_of endings.NoFormat = 3
status_of endings.Write = 4
status_of endings.Memory = 4
status_of endings.Partly = 5
