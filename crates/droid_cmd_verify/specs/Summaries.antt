-- The summary of a comparison (this project's own).
use Rattle.std.specs.Prelude.{ℕ, ◌+◌, ◌-◌, ◌^◌, min, Bool, true, false, List, ◌∷◌, [], ◌++◌, Option, Some, None, codes}
use Rattle.std.specs.Prelude.{slice_get, if◌then◌else◌}
use Rattle.std.specs.Fmt.{decimal}
use Rattle.std.specs.List.{fold}
use Rattle.std.specs.Option.{option_map_or}
use Rattle.droid_fixity.specs.declared.difference.Difference.TheVariants.{Changed, Missing, New, Moved, Touched}
use Rattle.droid_frame.specs.declared.item.Item.{Item}
use Rattle.droid_cmd_verify.specs.Compared.{by_hashes}
use Rattle.droid_cmd_verify.specs.declared.finding.Finding.{Finding}
use Rattle.droid_cmd_verify.specs.declared.finding.Kind.{Kind}
use Rattle.droid_cmd_verify.specs.declared.finding.Kind.TheVariants.{Differs, Unchecked, Unreadable, Formats}
use Rattle.droid_cmd_verify.specs.declared.measure.Measure.{Measure}
use Rattle.droid_cmd_verify.specs.declared.measure.Measure.TheVariants.{Hashes, Sizes, Moments}
use Rattle.droid_cmd_verify.specs.declared.summary.KindCounts.{KindCounts}
use Rattle.droid_cmd_verify.specs.declared.summary.Summary.{Summary}

-- one more, up to the greatest number of 64 bits
abbrev pub one_more : ℕ → ℕ
one_more n = min (n + 1) (2 ^ 64 - 1)

-- nothing was counted yet
abbrev pub none : KindCounts
none = record { changed = 0; missing = 0; added = 0; moved = 0; unchecked = 0; unreadable = 0; formats = 0 }

-- one more finding
abbrev pub with_kind : KindCounts → Kind → KindCounts
with_kind counts (Differs (Changed l f changes)) = record counts { changed = one_more counts.changed }
with_kind counts (Differs (Touched l f)) = record counts { changed = one_more counts.changed }
with_kind counts (Differs (Missing l)) = record counts { missing = one_more counts.missing }
with_kind counts (Differs (New f)) = record counts { added = one_more counts.added }
with_kind counts (Differs (Moved l f)) = record counts { moved = one_more counts.moved }
with_kind counts (Unchecked pair) = record counts { unchecked = one_more counts.unchecked }
with_kind counts (Unreadable why) = record counts { unreadable = one_more counts.unreadable }
with_kind counts Formats = record counts { formats = one_more counts.formats }

-- how many findings of each kind there are
abbrev pub counts_of : List Finding → KindCounts
counts_of findings = fold (λ counts finding. with_kind counts finding.kind) none findings

-- the bytes of an item, if they are known
abbrev pub known_bytes : Option ℕ → ℕ
known_bytes None = 0
known_bytes (Some length) = length

-- those of the item at a place
abbrev pub length_at : List Item → ℕ → ℕ
length_at items place = option_map_or (λ item. known_bytes item.length) (slice_get items place) 0

-- how many files are at these places, behind those that were counted before, up to the greatest number of 64 bits
abbrev pub files_from : ℕ → List ℕ → ℕ
files_from n places = fold (λ n place. one_more n) n places

-- how many bytes the files at these places have together, counted in the same way
abbrev pub bytes_from : List Item → ℕ → List ℕ → ℕ
bytes_from found n places = fold (λ bytes place. min (bytes + length_at found place) (2 ^ 64 - 1)) n places

-- how many files are at these places
abbrev pub files_at : List ℕ → ℕ
files_at places = files_from 0 places

-- how many bytes they have together
abbrev pub bytes_at : List Item → List ℕ → ℕ
bytes_at found places = bytes_from found 0 places

-- a name and a number, in a line
unfoldable pub count_line : List ℕ → ℕ → List ℕ
count_line name count = name ++ (codes ": " ++ (decimal count ++ 10 ∷ []))

-- the line of formats, if they were compared
unfoldable pub format_line : Bool → ℕ → List ℕ
format_line identify count = if identify then count_line (codes "format") count else []

-- the line of what was not compared, where files are compared by hashes
unfoldable pub unchecked_line : Measure → ℕ → List ℕ
unchecked_line how count = if by_hashes how then count_line (codes "unchecked") count else []

-- the name of the number of files, by what they were compared by
abbrev pub files_name : Measure → List ℕ
files_name Hashes = codes "files compared"
files_name Sizes = codes "files compared by size alone"
files_name Moments = codes "files compared by size and modification time alone"

-- the name of the number of their bytes
abbrev pub bytes_name : Measure → List ℕ
bytes_name Hashes = codes "bytes compared"
bytes_name Sizes = codes "bytes not compared"
bytes_name Moments = codes "bytes not read"

-- the text
unfoldable pub summary_text : Summary → List ℕ
summary_text summary =
    count_line (files_name summary.how) summary.files
    ++ (count_line (bytes_name summary.how) summary.bytes
    ++ (count_line (codes "changed") summary.kinds.changed
    ++ (count_line (codes "missing") summary.kinds.missing
    ++ (count_line (codes "new") summary.kinds.added
    ++ (count_line (codes "moved") summary.kinds.moved
    ++ (count_line (codes "unreadable") summary.kinds.unreadable
    ++ (unchecked_line summary.how summary.kinds.unchecked
    ++ format_line summary.identify summary.kinds.formats)))))))
