-- What is written of the records of a tree.
use Rattle.std.specs.Prelude.{ℕ, true, if◌then◌else◌, List, []}
use Rattle.std.specs.List.{flat_map}
use Rattle.droid_frame.specs.Filters.{is_file}
use Rattle.droid_export.specs.Text.{text}
use Rattle.droid_fixity.specs.Writing.{line}
use Rattle.droid_frame.specs.declared.filter.Filter.{Filter}
use Rattle.droid_frame.specs.declared.record.Record.{Record}
use Rattle.droid_pronom.specs.Registry.{Contents}
use Rattle.droid_profile.specs.declared.options.Options.{Options}

-- the filter that lets every record through
abbrev pub everything : Filter
everything = record { all = true; criteria = [] }

-- the CSV: the export of all records
abbrev pub csv_text : Contents → Options → List Record → List ℕ
csv_text registry options shown = text registry everything options.hash shown

-- the line that `md5sum -c` or `sha256sum -c` checks in the folder that is profiled; a folder has none
abbrev pub line_of : Record → List ℕ
line_of shown = if is_file shown.kind then line shown.hash shown.path else []

-- the list of checksums: the lines of all files
abbrev pub list_text : List Record → List ℕ
list_text shown = flat_map line_of shown
