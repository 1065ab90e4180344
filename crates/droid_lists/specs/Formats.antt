-- Which formats the rows of a profile give its files, and which files have others (this project's own; docs/CSV.md).
use Rattle.std.specs.Prelude.{◌≡◌, ℕ, ◌==◌, ◌&&◌, Bool, not, List, [], ◌∷◌, ◌++◌, length, filter, map, codes}
use Rattle.std.specs.Prelude.{if◌then◌else◌}
use Rattle.std.specs.List.{flat_map, list_all, list_any}
use Rattle.std.specs.Str.{bytes_eq}
use Rattle.droid_lists.specs.declared.format_lists.file_formats.FileFormats.{FileFormats}
use Rattle.droid_lists.specs.declared.format_lists.format_change.FormatChange.{FormatChange}
use Rattle.droid_export.specs.declared.reading.format_row.FormatRow.{FormatRow}

-- ---- rows

-- the formats that rows give a path
abbrev pub formats_at : List FormatRow → List ℕ → List (List ℕ)
formats_at rows path = map (λ row. row.puid) (filter (λ row. bytes_eq row.path path) rows)

-- ---- formats that differ

-- the formats of a file: an empty one, if it has none
abbrev pub or_none : List (List ℕ) → List (List ℕ)
or_none puids = if length puids == 0 then [] ∷ [] else puids

-- a file with these formats
abbrev pub file_of : List ℕ → List (List ℕ) → FileFormats
file_of path puids = record { path = path; puids = or_none puids }

-- whether a format is among these
abbrev pub is_among : List (List ℕ) → List ℕ → Bool
is_among puids puid = list_any (λ one. bytes_eq one puid) puids

-- all others are among these
abbrev pub has_all : List (List ℕ) → List (List ℕ) → Bool
has_all puids others = list_all (λ other. is_among puids other) others

-- whether a file that has rows does not have exactly their formats
abbrev pub differ : List (List ℕ) → List (List ℕ) → Bool
differ listed found = not (length listed == 0) && not (has_all listed found && has_all found listed)

-- formats, with a space between two
unfoldable pub joined : List (List ℕ) → List ℕ
joined [] = []
joined (first ∷ others) = first ++ flat_map (λ puid. 32 ∷ puid) others

-- a file with these formats in its rows, and those that were found
abbrev pub change_with : List ℕ → List (List ℕ) → List (List ℕ) → FormatChange
change_with path listed found = record { path = path; listed = joined listed; found = joined found }

-- the change of a file, if its formats differ
abbrev pub change_if : List ℕ → List (List ℕ) → List (List ℕ) → List FormatChange
change_if path listed found = if differ listed found then change_with path listed found ∷ [] else []

-- a file, if its formats differ from those of its rows
abbrev pub change_of : List FormatRow → FileFormats → List FormatChange
change_of rows file = change_if file.path (formats_at rows file.path) file.puids

-- the files whose formats differ from those of their rows
abbrev pub changes_in : List FormatRow → List FileFormats → List FormatChange
changes_in rows files = flat_map (change_of rows) files
