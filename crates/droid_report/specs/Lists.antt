-- Lists of files.
use Rattle.std.specs.Prelude.{◌≡◌, ℕ, ◌-◌, ◌^◌, ◌&&◌, nat_lt, Bool, List, [], ◌∷◌, ◌++◌, length, filter, take, is_some}
use Rattle.std.specs.Prelude.{if◌then◌else◌}
use Rattle.std.specs.List.{fold, insert, position_or_len}
use Rattle.droid_report.specs.Lines.{lines_in}
use Rattle.droid_report.specs.Rows.{Line}
use Rattle.droid_report.specs.Totals.{is_counted, is_first_of_file}
use Rattle.droid_report.specs.declared.lists.Lists.{Lists}
use Rattle.droid_report.specs.declared.lists.Rank.{Rank}
use Rattle.droid_report.specs.declared.lists.Rank.TheVariants as ranks
use Rattle.droid_report.specs.declared.totals.What.{What}
use Rattle.droid_report.specs.declared.totals.What.TheVariants as what

-- the first rows that count for a total
abbrev pub firsts : What → ℕ → List Line → List Line
firsts what limit lines = take limit (filter (is_counted what) lines)

-- whether a row stands in an order: it is the first of a file, and has a date where that decides
abbrev pub is_ranked : Rank → Line → Bool
is_ranked ranks.Largest line = is_first_of_file line
is_ranked ranks.Oldest line = is_first_of_file line && is_some line.facts.year
is_ranked ranks.Newest line = is_first_of_file line && is_some line.facts.year

-- where it stands there: the smaller number comes first
abbrev pub rank_of : Rank → Line → ℕ
rank_of ranks.Largest line = 2 ^ 64 - 1 - line.facts.size
rank_of ranks.Oldest line = line.facts.moment
rank_of ranks.Newest line = 2 ^ 64 - 1 - line.facts.moment

-- the place of a row: before the first that comes after it
abbrev pub place_for : Rank → Line → List Line → ℕ
place_for rank line lines = position_or_len (λ other. nat_lt (rank_of rank line) (rank_of rank other)) lines

-- rows with one more, in its place
abbrev pub placed : Rank → List Line → Line → List Line
placed rank lines line = insert lines (place_for rank line lines) line

-- rows in an order, each put in its place behind those that come first or are its equals
abbrev pub in_order : Rank → List Line → List Line
in_order rank lines = fold (placed rank) [] lines

-- the first rows of an order
abbrev pub ranked : Rank → ℕ → List Line → List Line
ranked rank limit lines = take limit (in_order rank (filter (is_ranked rank) lines))

-- the lists of these rows
pub record AreLists (lines : List Line) (lists : Lists) : Type 0 where
  pub unidentified : lines_in lists.unidentified.items ≡ firsts what.Unidentified 200 lines
  pub mismatches : lines_in lists.mismatches.items ≡ firsts what.Mismatches 200 lines
  pub several_formats : lines_in lists.several_formats.items ≡ firsts what.SeveralFormats 200 lines
  pub largest : lines_in lists.largest.items ≡ ranked ranks.Largest 50 lines
  pub oldest : lines_in lists.oldest.items ≡ ranked ranks.Oldest 20 lines
  pub newest : lines_in lists.newest.items ≡ ranked ranks.Newest 20 lines

-- ---- for inner clauses and proofs: one row more

-- the first rows that count for a total, after one row more
abbrev pub first_after : What → ℕ → List Line → Line → List Line
first_after what limit lines line =
    if nat_lt (length lines) limit && is_counted what line then lines ++ line ∷ [] else lines

-- the first rows of an order, after one row more
abbrev pub ranked_after : Rank → ℕ → List Line → Line → List Line
ranked_after rank limit lines line =
    if is_ranked rank line && nat_lt (place_for rank line lines) limit then take limit (placed rank lines line)
    else lines

-- the lists after one row more; the numbers are how long each list is at most
pub record ListsAfter (line : Line) (old new : Lists) : Type 0 where
  pub unidentified : lines_in new.unidentified.items
      ≡ first_after what.Unidentified 200 (lines_in old.unidentified.items) line
  pub mismatches : lines_in new.mismatches.items ≡ first_after what.Mismatches 200 (lines_in old.mismatches.items) line
  pub several_formats : lines_in new.several_formats.items
      ≡ first_after what.SeveralFormats 200 (lines_in old.several_formats.items) line
  pub largest : lines_in new.largest.items ≡ ranked_after ranks.Largest 50 (lines_in old.largest.items) line
  pub oldest : lines_in new.oldest.items ≡ ranked_after ranks.Oldest 20 (lines_in old.oldest.items) line
  pub newest : lines_in new.newest.items ≡ ranked_after ranks.Newest 20 (lines_in old.newest.items) line
