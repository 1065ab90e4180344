-- What is reported of a tree beside a list, in order of path (this project's own).
use Rattle.std.specs.Prelude.{◌≡◌, ◌&&◌, ℕ, Bool, true, false, List, [], ◌++◌, filter, map, slice_get, IsPermutation}
use Rattle.std.specs.Option.{option_map_or}
use Rattle.std.specs.List.Sorted.{IsSortedBy}
use Rattle.droid_lists.specs.declared.format_lists.format_change.FormatChange.{FormatChange}
use Rattle.droid_fixity.specs.Inventories.{is_before}
use Rattle.droid_frame.specs.Filters.{is_file}
use Rattle.droid_fixity.specs.Reports.{path_at, path_of}
use Rattle.droid_fixity.specs.declared.difference.Difference.{Difference}
use Rattle.droid_fixity.specs.declared.difference.Difference.TheVariants.{Changed, Missing, New, Moved, Touched}
use Rattle.droid_frame.specs.declared.item.Item.{Item}
use Rattle.droid_fixity.specs.declared.pair.FilePair.{FilePair}
use Rattle.droid_terminal.specs.declared.skipped.skipped_entry.SkippedEntry.{SkippedEntry}
use Rattle.droid_cmd_verify.specs.Compared.{by_moments, is_unchecked}
use Rattle.droid_cmd_verify.specs.declared.finding.Finding.{Finding}
use Rattle.droid_cmd_verify.specs.declared.finding.Kind.{Kind}
use Rattle.droid_cmd_verify.specs.declared.finding.Kind.TheVariants.{Differs, Unchecked, Unreadable, Formats}
use Rattle.droid_cmd_verify.specs.declared.measure.Measure.{Measure}

-- whether the item at this place is a file
abbrev pub is_file_at : List Item → ℕ → Bool
is_file_at items place = option_map_or (λ item. is_file item.kind) (slice_get items place) false

-- Another moment alone is no difference where files are read: copies of a folder have other moments. Where they are
-- not, a file with another moment differs; a folder has another moment whenever something in it comes or goes.
abbrev pub is_reported : Measure → List Item → Difference → Bool
is_reported how found (Changed l f changes) = true
is_reported how found (Missing l) = true
is_reported how found (New f) = true
is_reported how found (Moved l f) = true
is_reported how found (Touched l f) = by_moments how && is_file_at found f

-- a difference is not reported, or it has another path
abbrev pub IsSilentAt : Measure → List Item → List Item → List ℕ → Difference → Type 0
IsSilentAt how listed found path difference =
    is_reported how found difference ≡ true → ¬ (path_of listed found difference ≡ path)

-- the finding of this kind at this path, which is not about formats
abbrev pub finding_at : List ℕ → Kind → Finding
finding_at path kind = record { path = path; kind = kind; formats = []; found_formats = [] }

-- the finding of a difference, at the path of the list, if the list has it
abbrev pub difference_at : List Item → List Item → Difference → Finding
difference_at listed found difference = finding_at (path_of listed found difference) (Differs difference)

-- the finding of a file that was not compared, at its path
abbrev pub unchecked_at : List Item → FilePair → Finding
unchecked_at listed pair = finding_at (path_at listed pair.listed) (Unchecked pair)

-- the finding of an unreadable entry, at its path
abbrev pub unreadable_at : SkippedEntry → Finding
unreadable_at entry = finding_at entry.path (Unreadable entry.why)

-- the finding of a file with other formats, at its path
abbrev pub format_at : FormatChange → Finding
format_at change = record { path = change.path; kind = Formats; formats = change.listed; found_formats = change.found }

-- what is reported: the differences, the files that were not compared, all that is unreadable, and the files with other
-- formats
abbrev pub findings_in : Measure → List Item → List Item → List Difference → List FilePair → List SkippedEntry
    → List FormatChange → List Finding
findings_in how listed found differences pairs unreadable changes =
    ((map (difference_at listed found) (filter (is_reported how found) differences)
    ++ map (unchecked_at listed) (filter (is_unchecked how listed found) pairs))
    ++ map unreadable_at unreadable) ++ map format_at changes

-- each once, in order of path
pub record AreFindings (how : Measure) (listed found : List Item) (differences : List Difference)
    (pairs : List FilePair) (unreadable : List SkippedEntry) (changes : List FormatChange) (findings : List Finding)
    : Type 0 where
  pub same : IsPermutation (findings_in how listed found differences pairs unreadable changes) findings
  pub in_order : IsSortedBy (λ a b. is_before a.path b.path) findings
