-- The text of the summary (this project's own).
use Rattle.std.specs.Prelude.{ℕ, List, [], ◌∷◌, ◌++◌, Option, Some, None, codes, decimal, ◌==◌, if◌then◌else◌}
use Rattle.std.specs.List.{flat_map}
use Rattle.droid_terminal.specs.declared.format_counts.FormatCount.{FormatCount}
use Rattle.droid_terminal.specs.declared.counts.Counts.{Counts}

-- a name and a number in a line
unfoldable pub count_line : List ℕ → ℕ → List ℕ
count_line name count = name ++ (codes ": " ++ (decimal count ++ 10 ∷ []))

-- how many files have a format
unfoldable pub format_line : FormatCount → List ℕ
format_line format = codes "format " ++ count_line format.puid format.count

-- the formats, or that not all could be counted
unfoldable pub formats_text : Option (List FormatCount) → List ℕ
formats_text None = codes "formats: too many to count, or no memory to count them" ++ 10 ∷ []
formats_text (Some reported) = flat_map format_line reported

-- how many of the skipped entries are symbolic links, unless none is
abbrev pub links_text : ℕ → List ℕ
links_text links =
    if links == 0 then [] else count_line (codes "of these symbolic links, which are no part of a profile") links

-- the bytes that the service already held, unless they are 0
abbrev pub held_text : ℕ → List ℕ
held_text held = if held == 0 then [] else count_line (codes "bytes that were there") held

-- the whole table, line by line
unfoldable pub table_text : Counts → Option (List FormatCount) → List ℕ
table_text counts formats =
    count_line (codes "folders and files") counts.taken
    ++ (count_line (codes "files by signature") counts.by_signature
    ++ (count_line (codes "files by extension") counts.by_extension
    ++ (count_line (codes "files not identified") counts.unidentified
    ++ (count_line (codes "mismatches") counts.mismatches
    ++ (formats_text formats
    ++ (held_text counts.held ++ count_line (codes "bytes read") counts.bytes))))))

-- how long it took, if the clock could be read
abbrev pub seconds_text : Option ℕ → List ℕ
seconds_text None = []
seconds_text (Some seconds) = count_line (codes "seconds") seconds
