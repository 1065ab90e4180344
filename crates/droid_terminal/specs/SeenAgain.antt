-- The endings for which the program looks at a path again: what a file system says of it is not known, but each
-- sentence is that of something that was seen (this project's own).
use Rattle.std.specs.Prelude.{◌≡◌, ◌==◌, ℕ, List, [], length, Option, Some, None, MatchBool}
use Rattle.std.specs.declared.io.ErrorKind.{ErrorKind}
use Rattle.std.specs.declared.io.ErrorKind.TheVariants as kinds
use Rattle.droid_terminal.specs.Endings.{Said, Told, by, detailed, of_path}
use Rattle.droid_terminal.specs.FaultTable as table
use Rattle.droid_terminal.specs.declared.ending.folder.SeenFolder.{SeenFolder}
use Rattle.droid_terminal.specs.declared.ending.folder.SeenFolder.TheVariants as folders
use Rattle.droid_terminal.specs.declared.ending.output.SeenOutput.{SeenOutput}
use Rattle.droid_terminal.specs.declared.ending.output.SeenOutput.TheVariants as outputs

-- the ending for what was seen at the path of a folder that cannot be listed
abbrev pub told_of_folder : SeenFolder → List ℕ → Told
told_of_folder (folders.Unlisted kind) path = detailed table.folder_unlisted (of_path path) None
told_of_folder folders.Listed path = by table.folder_unlisted_once (of_path path)
told_of_folder folders.Other path = by table.not_a_folder (of_path path)
told_of_folder folders.Missing path = by table.no_folder (of_path path)
told_of_folder (folders.Unseen kind) path = detailed table.folder_unseen (of_path path) None

-- the ending is that of something that may be seen there
abbrev pub IsNoFolder : List ℕ → Told → Type 0
IsNoFolder path it = (seen : SeenFolder) × (it ≡ told_of_folder seen path)

-- the row where a file cannot be created or replaced, by the fault of its folder, if that has one
abbrev pub folder_row : Option ErrorKind → Said
folder_row None = table.output_refused
folder_row (Some kinds.NotFound) = table.output_without_folder
folder_row (Some kinds.NotADirectory) = table.output_below_a_file
folder_row (Some kinds.PermissionDenied) = table.output_denied
folder_row (Some kind) = table.output_folder_unusable

-- the row by what may be seen at the path of a file
abbrev pub output_row : SeenOutput → Said
output_row outputs.NoFile = table.output_is_no_file
output_row (outputs.InFolder fault) = folder_row fault

-- an empty path, or the row of something that may be seen there
abbrev pub IsNoOutput : List ℕ → Told → Type 0
IsNoOutput path it =
    MatchBool (length path == 0) (it ≡ by table.output_unnamed [])
    ((seen : SeenOutput) × (it ≡ by (output_row seen) (of_path path)))
