-- Pictures of formats: a bar for each of the twelve largest, and one for all others. Where lists have no row, since
-- names are too long for that, there is one bar for all.
use Rattle.std.specs.Prelude.{ℕ, ◌==◌, max, List, [], ◌∷◌, ◌++◌, drop, length, map, take, if◌then◌else◌}
use Rattle.droid_report.specs.Ranks.{together}
use Rattle.droid_report.specs.declared.ranks.Group.{Group}
use Rattle.droid_report.specs.Seen.{Amount, Bar, Seen, Words, share_of}
use Rattle.droid_report.specs.declared.view.picture.Measure.{Measure}
use Rattle.droid_report.specs.declared.view.picture.Measure.TheVariants.{Files, Bytes}
use Rattle.droid_report.specs.declared.texts.TheConstants as texts

-- what a group measures: its files, or their bytes
abbrev pub measure_of : Measure → Group → ℕ
measure_of Files group = group.count
measure_of Bytes group = group.bytes

-- what groups measure together
abbrev pub rest_of : Measure → List Group → ℕ
rest_of Files groups = (together groups).count
rest_of Bytes groups = (together groups).bytes

-- the greatest number of a picture: that of the first group, or of the rest
abbrev pub most_of : Measure → List Group → List Group → ℕ
most_of measure [] rest = rest_of measure rest
most_of measure (group ∷ groups) rest = max (measure_of measure group) (rest_of measure rest)

-- a group's name, its number, and a bar of it
abbrev pub picture_row : Measure → ℕ → Group → List Seen
picture_row measure most group =
    Words group.label.now ∷ Amount (measure_of measure group) ∷ Bar (share_of (measure_of measure group) most) ∷ []

-- a row for the rest, if there is one
abbrev pub rest_rows : Measure → ℕ → List Group → List (List Seen)
rest_rows measure most rest =
    if length rest == 0 then []
    else (Words texts.OTHERS.now ∷ Amount (rest_of measure rest) ∷ Bar (share_of (rest_of measure rest) most) ∷ []) ∷ []

-- a row for each of the first groups, and one for the rest
abbrev pub cut_rows : Measure → List Group → List Group → List (List Seen)
cut_rows measure first rest =
    map (picture_row measure (most_of measure first rest)) first ++ rest_rows measure (most_of measure first rest) rest

-- How many groups have a bar of their own, where lists have at most this many rows. 12 goes with the word in
-- `texts.TWELVE`.
abbrev pub most_named : ℕ → ℕ
most_named limit = if limit == 0 then 0 else 12

-- what stands below a picture's title
abbrev pub picture_note : ℕ → List ℕ
picture_note limit = if limit == 0 then texts.TOGETHER.now else texts.TWELVE.now

-- the rows of a picture
abbrev pub picture_rows : Measure → ℕ → List Group → List (List Seen)
picture_rows measure limit groups = cut_rows measure (take (most_named limit) groups) (drop (most_named limit) groups)
