-- The tests of a row, by what the maps say and by the rows before it.
use Rattle.std.proofs.Common.{Bor, ◌≡◌, ◌∙◌, ℕ, ◌==◌, List, [], ◌∷◌, ◌++◌, append_assoc, length, Option, Some, None, Ok, Err, refl, sym, ap, subst, inl, inr}
use Rattle.std.specs.Prelude.{if◌then◌else◌}
use Rattle.std.specs.Option.{is_some, option_map}
use Rattle.droid_frame.specs.declared.hash_kind.HashKind.{HashKind}
use Rattle.droid_lists.specs.EntryMaps.{Kept, StandsFor, id_at, id_of, kept_by, kept_of, listed_at, parent_by}
use Rattle.droid_lists.specs.EntryReading.{NotesFirst, NotesMore, TakesFirst, TakesMore, TakesRow}
use Rattle.droid_lists.specs.FormatMaps.{IsKnown, NotesFormat, TakesFormat}
use Rattle.droid_lists.specs.ProfileRows.{Entry, Found, all_rows, folder_at, folder_id, found_in, last_id, parent_in, wrong_first, wrong_format, wrong_more}
use Rattle.droid_lists.specs.RowReading.{RowComes, first_row}
use Rattle.droid_lists.specs.RowTests.{Row, above, at, content_tests, first_wrong, formats_in, is_file, number_at, or_later, place_tests, shared_tests, utf8_of}
use Rattle.droid_lists.specs.declared.entries.Entries.{Entries}
use Rattle.droid_lists.specs.declared.entries.Listed.{Listed}
use Rattle.droid_lists.specs.declared.spelling.row_formats.Formats.{Formats}
use Rattle.droid_lists.specs.declared.spelling.own_puids.OwnPuids.{OwnPuids}
use Rattle.droid_lists.proofs.RowsRead.{row_broken, row_read}

-- ---- where a record stands

some_kept : (listed : Option Listed) → is_some (option_map kept_of listed) ≡ is_some listed
some_kept None = refl
some_kept (Some listed) = refl

some_found : (found : Option Found) → is_some (option_map kept_by found) ≡ is_some found
some_found None = refl
some_found (Some found) = refl

id_same_by : (listed : Option Listed) (found : Option Found) → option_map kept_of listed ≡ option_map kept_by found → id_of listed ≡ folder_id found
id_same_by None None is = refl
id_same_by None (Some found) is = absurd (cc)
id_same_by (Some listed) None is = absurd (cc)
id_same_by (Some listed) (Some found) is =
    let same : kept_of listed ≡ kept_by found = cc in
    ap (λ (kept : Kept). if is_file kept.row then None else Some (number_at kept.row 0)) same

parent_same_by : (entries : Entries) (all : List Entry) (path : Option (List ℕ)) → StandsFor entries all → id_at entries path ≡ folder_at all path
parent_same_by entries all None stands = refl
parent_same_by entries all (Some path) stands = id_same_by (listed_at entries path) (found_in all path) (stands.listed path)

parent_same : (entries : Entries) (all : List Entry) (path : List ℕ) → StandsFor entries all → parent_by entries path ≡ parent_in all path
parent_same entries all path stands =
    ap (λ (it : Option ℕ). if length path == 0 then Some 0 else it) (parent_same_by entries all (utf8_of path) stands)

known_same : (entries : Entries) (all : List Entry) (path : List ℕ) → StandsFor entries all → is_some (listed_at entries path) ≡ is_some (found_in all path)
known_same entries all path stands =
    sym (some_kept (listed_at entries path)) ∙ (ap (λ (it : Option Kept). is_some it) (stands.listed path) ∙ some_found (found_in all path))

-- what the map says of a row's place
abbrev pub place_by : Entries → Row → Option ℕ
place_by entries row = first_wrong (place_tests entries.last (is_some (listed_at entries (at row 3))) (parent_by entries (above row)) row)

place_same : (entries : Entries) (all : List Entry) (row : Row) → StandsFor entries all
    → place_by entries row ≡ first_wrong (place_tests (last_id all) (is_some (found_in all (at row 3))) (parent_in all (above row)) row)
place_same entries all row stands = rw (stands.last, known_same entries all (at row 3) stands, parent_same entries all (above row) stands) refl

-- ---- the first row

later_first : (column : ℕ) (first later : Option ℕ) → first ≡ Some column → or_later first later ≡ Some column
later_first column first later is = rw is refl

later_second : (found first later : Option ℕ) → first ≡ None → later ≡ found → or_later first later ≡ found
later_second found first later none is = rw none is

pub place_wrong : (entries : Entries) (old new : Formats) (own_old own_new : OwnPuids) (hash : HashKind) (row : Row) (column : ℕ) → Some column ≡ place_by entries row
    → TakesFirst (Some column) entries old new own_old own_new hash row
unfolding wrong_first
place_wrong entries old new own_old own_new hash row column is = λ all stands known has.
    later_first column _ _ (sym (place_same entries all row stands) ∙ sym is)

pub content_wrong : (entries : Entries) (old new : Formats) (own_old own_new : OwnPuids) (hash : HashKind) (row : Row) (column : ℕ) → None ≡ place_by entries row
    → Some column ≡ first_wrong (content_tests hash row) → TakesFirst (Some column) entries old new own_old own_new hash row
unfolding wrong_first
content_wrong entries old new own_old own_new hash row column none is = λ all stands known has.
    later_second (Some column) _ _ (sym (place_same entries all row stands) ∙ sym none) (later_first column _ _ (sym is))

first_by : (hash : HashKind) (all : List Entry) (row : Row) (found : Option ℕ) → first_wrong (place_tests (last_id all) (is_some (found_in all (at row 3))) (parent_in all (above row)) row) ≡ None
    → first_wrong (content_tests hash row) ≡ None → wrong_format (all_rows all) [] (formats_in row) row ≡ found → wrong_first hash all row ≡ found
unfolding wrong_first
first_by hash all row found none also is = later_second found _ _ none (later_second found _ _ also is)

notes_first : (wrong : Option ℕ) (hash : HashKind) (all : List Entry) (new : Formats) (own : OwnPuids) (row : Row)
    → ((found : Option ℕ) → wrong_format (all_rows all) [] (formats_in row) row ≡ found → wrong_first hash all row ≡ found)
    → NotesFormat wrong new own (all_rows all) [] (formats_in row) row → NotesFirst wrong all new own hash row
notes_first None hash all new own row gives notes = (gives None notes.0, notes.1, notes.2)
notes_first (Some column) hash all new own row gives notes = gives (Some column) notes

pub first_taken : (wrong : Option ℕ) (entries : Entries) (old new : Formats) (own_old own_new : OwnPuids) (hash : HashKind) (row : Row) → None ≡ place_by entries row
    → None ≡ first_wrong (content_tests hash row) → TakesFormat wrong old new own_old own_new (formats_in row) row → TakesFirst wrong entries old new own_old own_new hash row
first_taken wrong entries old new own_old own_new hash row none also takes = λ all stands known has.
    notes_first wrong hash all new own_new row (λ found is. first_by hash all row found (sym (place_same entries all row stands) ∙ sym none) (sym also) is)
    (takes (all_rows all) [] known has)

-- ---- one more row

pub shared_wrong : (old new : Formats) (own_old own_new : OwnPuids) (first row : Row) (column : ℕ) → Some column ≡ first_wrong (shared_tests first row)
    → TakesMore (Some column) old new own_old own_new first row
unfolding wrong_more
shared_wrong old new own_old own_new first row column is = λ all more known has. later_first column _ _ (sym is)

more_by : (all : List Entry) (first : Row) (more : List Row) (row : Row) (found : Option ℕ) → first_wrong (shared_tests first row) ≡ None
    → wrong_format (all_rows all ++ first ∷ more) (first ∷ more) (formats_in first) row ≡ found → wrong_more all first more row ≡ found
unfolding wrong_more
more_by all first more row found none is = later_second found _ _ none is

notes_more : (wrong : Option ℕ) (all : List Entry) (new : Formats) (own : OwnPuids) (first : Row) (more : List Row) (row : Row) → first_wrong (shared_tests first row) ≡ None
    → NotesFormat wrong new own (all_rows all ++ first ∷ more) (first ∷ more) (formats_in first) row → NotesMore wrong all new own first more row
notes_more None all new own first more row none notes = (
  more_by all first more row None none notes.0,
  subst (λ (rows : List Row). IsKnown new rows) (append_assoc (all_rows all) (first ∷ more) (row ∷ [])) notes.1,
  notes.2,
)
notes_more (Some column) all new own first more row none notes = more_by all first more row (Some column) none notes

pub more_taken : (wrong : Option ℕ) (old new : Formats) (own_old own_new : OwnPuids) (first row : Row) → None ≡ first_wrong (shared_tests first row)
    → TakesFormat wrong old new own_old own_new (formats_in first) row → TakesMore wrong old new own_old own_new first row
more_taken wrong old new own_old own_new first row none takes = λ all more known has.
    notes_more wrong all new own_new first more row (sym none) (takes (all_rows all ++ first ∷ more) (first ∷ more) known has)

-- the row is not spelled as one
pub row_unspelled : (old new : Formats) (own_old own_new : OwnPuids) (first fields : Row) (text : List ℕ) (column : ℕ) → RowComes (first_row text) fields (Err column)
    → TakesRow (Err column) old new own_old own_new first text
row_unspelled old new own_old own_new first fields text column comes = λ all more known has. inl (row_broken text fields column comes)

-- it is spelled as one, and wrong
pub row_wrong : (old new : Formats) (own_old own_new : OwnPuids) (first fields : Row) (text : List ℕ) (rest : Bor (List ℕ)) (column : ℕ) → RowComes (first_row text) fields (Ok rest)
    → TakesMore (Some column) old new own_old own_new first fields → TakesRow (Err column) old new own_old own_new first text
row_wrong old new own_old own_new first fields text rest column comes takes = λ all more known has.
    inr (record { row = fields; rest = rest.now; spelled = row_read text fields rest comes; other = takes all more known has })

-- it is right
pub row_right : (old new : Formats) (own_old own_new : OwnPuids) (first fields : Row) (text : List ℕ) (rest behind : Bor (List ℕ)) → RowComes (first_row text) fields (Ok rest)
    → TakesMore None old new own_old own_new first fields → behind ≡ rest → TakesRow (Ok behind) old new own_old own_new first text
row_right old new own_old own_new first fields text rest behind comes takes same = λ all more known has.
    let notes = takes all more known has in
    record {
      row = fields;
      spelled = rw same (row_read text fields rest comes);
      right = notes.0;
      known = notes.1;
      has = notes.2;
    }
