-- Which differences between a profile and a folder are reported, and in which words (this project's own).
use Rattle.std.specs.Prelude.{ℕ, Bool, true, false, not, List, [], ◌∷◌, ◌++◌, Option, None, Some, codes}
use Rattle.std.specs.Fmt.{decimal}
use Rattle.std.specs.List.{list_any, slice_get}
use Rattle.droid_terminal.specs.Paths.{shown_text}
use Rattle.droid_terminal.specs.SkippedPaths.{is_explained}
use Rattle.droid_terminal.specs.declared.skipped.skipped_entry.SkippedEntry.{SkippedEntry}
use Rattle.droid_lists.specs.ProfileTexts.{name_of}
use Rattle.droid_lists.specs.declared.known.Difference.{Difference}
use Rattle.droid_lists.specs.declared.known.Difference.TheVariants.{Other, Missing, More}
use Rattle.droid_lists.specs.declared.known.Known.{Known}
use Rattle.droid_frame.specs.declared.hash_kind.HashKind.{HashKind}
use Rattle.droid_frame.specs.declared.refusal.Refusal.TheVariants as refusals
use Rattle.droid_tree.specs.declared.skip_reason.Skipped.{Skipped}
use Rattle.droid_tree.specs.declared.skip_reason.Skipped.TheVariants as reasons
use Rattle.droid_cmd_submit.specs.declared.difference_line.DifferenceLine.{DifferenceLine}

-- the path of what is known, if anything is
abbrev pub known_path : Option Known → List ℕ
known_path None = []
known_path (Some one) = one.path

-- the path of what is known at a place
abbrev pub path_at : List Known → ℕ → List ℕ
path_at known place = known_path (slice_get known place)

-- the path that a difference is reported at
abbrev pub path_of : List Known → Difference → List ℕ
path_of known (Other place column number) = path_at known place
path_of known (Missing place) = path_at known place
path_of known (More number path) = path

-- a difference is reported unless its path, or a folder above it, was reported as skipped
abbrev pub is_reported : List SkippedEntry → List Known → Difference → Bool
is_reported skipped known difference = not (is_explained skipped (path_of known difference))

-- ---- advice

-- the profile has this folder or file as it was before
abbrev pub is_older : Skipped → Bool
is_older (reasons.Refused refusals.NumberReused) = true
is_older (reasons.Refused refusals.NameTaken) = true
is_older reasons.OtherHash = true
is_older _ = false

-- another --name is suggested, under which the folder is submitted as it is now
abbrev pub is_suggested : List SkippedEntry → Bool
is_suggested skipped = list_any (λ entry. is_older entry.why) skipped

-- ---- words

-- the words before the path
abbrev pub words_before : Difference → List ℕ
words_before (Other place column number) = codes "differs: "
words_before (Missing place) = codes "not in the profile: "
words_before (More number path) = codes "not in the folder: "

-- the words after the path
abbrev pub words_after : HashKind → Difference → List ℕ
words_after hash (Other place column number) =
    codes ": the profile has another " ++ (name_of hash column ++ (codes " (record " ++ (decimal number ++ codes ")")))
words_after hash (Missing place) = []
words_after hash (More number path) = []

-- the line of a difference
unfoldable pub line_text : DifferenceLine → List ℕ
line_text line =
    words_before line.difference.now
    ++ (shown_text (path_of line.known.now line.difference.now)
    ++ (words_after line.hash line.difference.now ++ 10 ∷ []))
