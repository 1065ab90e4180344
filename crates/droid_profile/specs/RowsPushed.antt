-- The rows that are taken of entries.
use Rattle.std.specs.Prelude.{ℕ, List}
use Rattle.droid_tree.specs.Paths.{below}
use Rattle.droid_tree.specs.declared.folder_entry.FolderEntry.{FolderEntry}
use Rattle.droid_tree.specs.declared.skip_reason.Skipped.{Skipped}
use Rattle.droid_tree.specs.declared.skip_reason.Skipped.TheVariants as reasons
use Rattle.droid_profile.specs.declared.walk.row.Row.{Row}
use Rattle.droid_profile.specs.declared.walk.row.Row.TheVariants as rows

-- an entry of the folder at this path was skipped
abbrev pub left_row : List ℕ → FolderEntry → Skipped → Row
left_row path entry why = rows.Left (below path entry.name) why

-- it has the name of another one
abbrev pub repeated_row : List ℕ → FolderEntry → Row
repeated_row path entry = left_row path entry reasons.SameName
