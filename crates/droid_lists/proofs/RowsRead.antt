-- Rows and records that were read, with one more.
use Rattle.std.proofs.Common.{Bor, ◌≡◌, ◌∙◌, ◌<◌, ◌≤◌, ◌+◌, ℕ, Bool, true, false, ◌&&◌, not, List, [], ◌∷◌, ◌++◌, append_assoc, append-nil, length, Option, Some, None, Result, Ok, Err, refl, sym, ap, subst, arith}
use Rattle.std.specs.Prelude.{if◌then◌else◌}
use Rattle.std.specs.List.{flat_map}
use Rattle.std.specs.Option.{is_some}
use Rattle.std.specs.Str.{bytes_eq}
use Rattle.std.proofs.lemmas.Bool.{and_parts}
use Rattle.std.proofs.lemmas.List.{length-append}
use Rattle.std.proofs.lemmas.List.Concat.{flat_map-append}
use Rattle.droid_frame.specs.declared.hash_kind.HashKind.{HashKind}
use Rattle.droid_export.specs.Csv.{joined, line}
use Rattle.droid_export.specs.Uris.{uri}
use Rattle.droid_lists.specs.ProfileRows.{AreEntries, AreEntriesFrom, AreMore, Entry, IsEntry, all_rows, entries_text, entry_text, found_in, last_id, parent_in, rows_of, wrong_first, wrong_more}
use Rattle.droid_lists.specs.ProfileTexts.{InFirst, InMore, IsWrongEntry}
use Rattle.droid_lists.specs.RowReading.{Line, RowComes, at, first_row}
use Rattle.droid_lists.specs.RowTests.{Row, Test, above, first_wrong, is_kind, is_named, is_next, is_parent, is_path, kind_in, number_of, or_later, path_of, place_tests, utf8_of}
use Rattle.droid_lists.specs.Spelling.{Breaks, Spells}
use Rattle.droid_lists.proofs.RowSpelling.{is_broken, is_spelled}

-- ---- a row

row_read_by : (text : List ℕ) (fields : Row) (rest : Bor (List ℕ)) (read : Result Line ℕ) → first_row text ≡ read → RowComes read fields (Ok rest) → Spells text fields rest.now
row_read_by text fields rest (Err column) is comes = absurd comes
row_read_by text fields rest (Ok whole) is comes =
    let spelled = is_spelled text whole is in
    record { count = rw comes.1 spelled.count; whole = rw (comes.1, comes.0) spelled.whole }

-- a row that a call read is spelled
pub row_read : (text : List ℕ) (fields : Row) (rest : Bor (List ℕ)) → RowComes (first_row text) fields (Ok rest) → Spells text fields rest.now
row_read text fields rest comes = row_read_by text fields rest (first_row text) refl comes

row_broken_by : (text : List ℕ) (fields : Row) (column : ℕ) (read : Result Line ℕ) → first_row text ≡ read → RowComes read fields (Err column) → Breaks text column
row_broken_by text fields column (Err found) is comes = is_broken text column (is ∙ ap Err (sym comes))
row_broken_by text fields column (Ok whole) is comes = absurd comes

-- a column that a call found broken breaks the row
pub row_broken : (text : List ℕ) (fields : Row) (column : ℕ) → RowComes (first_row text) fields (Err column) → Breaks text column
row_broken text fields column comes = row_broken_by text fields column (first_row text) refl comes

-- ---- lengths

line_some : (row : Row) → 0 < length (line row)
unfolding line
line_some row = omega (arith, length-append (joined row) (10 ∷ []))

-- what is behind a row is shorter
pub spelled_shorter : (text : List ℕ) (row : Row) (rest : List ℕ) → Spells text row rest → length rest < length text
spelled_shorter text row rest is = omega (arith, ap length is.whole, length-append (line row) rest, line_some row)

lines_long : (rows : List Row) → length rows ≤ length (flat_map line rows)
lines_long [] = omega arith
lines_long (row ∷ rows) = omega (arith, lines_long rows, length-append (line row) (flat_map line rows), line_some row)

-- each row has a byte
pub rows_within : (text : List ℕ) (rows : List Row) (rest : List ℕ) → text ≡ flat_map line rows ++ rest → length rows + length rest ≤ length text
rows_within text rows rest is = omega (arith, lines_long rows, ap length is, length-append (flat_map line rows) rest)

entries_long : (all : List Entry) → length (all_rows all) ≤ length (entries_text all)
entries_long [] = omega arith
entries_long (entry ∷ all) =
    omega (
      arith,
      entries_long all,
      lines_long (rows_of entry),
      length-append (rows_of entry) (all_rows all),
      length-append (entry_text entry) (entries_text all),
    )

pub entries_within : (text : List ℕ) (all : List Entry) (rest : List ℕ) → text ≡ entries_text all ++ rest → length (all_rows all) + length rest ≤ length text
entries_within text all rest is = omega (arith, entries_long all, ap length is, length-append (entries_text all) rest)

-- a wrong row is within its text
pub wrong_within : (hash : HashKind) (all : List Entry) (text : List ℕ) (column rows : ℕ) → IsWrongEntry hash all text column rows → rows ≤ length text
wrong_within hash all text column rows (InFirst none wrong) = omega (arith, none)
wrong_within hash all text column rows (InMore first more rest counted count right are below whole wrong) =
    omega (arith, counted, rows_within text (first ∷ more) rest whole)

-- ---- one more row of a record

pub more_push : (all : List Entry) (first : Row) (before rows : List Row) (row : Row) → AreMore all first before rows → length row ≡ 18
    → wrong_more all first (before ++ rows) row ≡ None → AreMore all first before (rows ++ row ∷ [])
more_push all first before [] row are count right = (count, subst (λ (b : List Row). wrong_more all first b row ≡ None) (append-nil before) right, tt)
more_push all first before (next ∷ rows) row are count right = (
  are.0,
  are.1,
  more_push all first (before ++ next ∷ []) rows row are.2 count (subst (λ (b : List Row). wrong_more all first b row ≡ None) (sym (append_assoc before (next ∷ []) rows)) right),
)

lines_push : (rows : List Row) (row : Row) → flat_map line (rows ++ row ∷ []) ≡ flat_map line rows ++ line row
lines_push rows row = flat_map-append line rows (row ∷ []) ∙ ap (λ (t : List ℕ). flat_map line rows ++ t) (append-nil (line row))

-- the text with one more row taken off
pub text_push : (text rest behind : List ℕ) (rows : List Row) (row : Row) → text ≡ flat_map line rows ++ rest → rest ≡ line row ++ behind
    → text ≡ flat_map line (rows ++ row ∷ []) ++ behind
text_push text rest behind rows row is next =
    is ∙ (ap (λ (t : List ℕ). flat_map line rows ++ t) next
    ∙ (sym (append_assoc (flat_map line rows) (line row) behind) ∙ ap (λ (t : List ℕ). t ++ behind) (sym (lines_push rows row))))

-- ---- one more record

entries_push_from : (hash : HashKind) (before all : List Entry) (entry : Entry) → AreEntriesFrom hash before all → IsEntry hash (before ++ all) entry
    → AreEntriesFrom hash before (all ++ entry ∷ [])
entries_push_from hash before [] entry are is = (subst (λ (b : List Entry). IsEntry hash b entry) (append-nil before) is, tt)
entries_push_from hash before (next ∷ all) entry are is = (
  are.0,
  entries_push_from hash (before ++ next ∷ []) all entry are.1 (subst (λ (b : List Entry). IsEntry hash b entry) (sym (append_assoc before (next ∷ []) all)) is),
)

pub entries_push : (hash : HashKind) (all : List Entry) (entry : Entry) → AreEntries hash all → IsEntry hash all entry → AreEntries hash (all ++ entry ∷ [])
entries_push hash all entry are is = entries_push_from hash [] all entry are is

texts_push : (all : List Entry) (entry : Entry) → entries_text (all ++ entry ∷ []) ≡ entries_text all ++ entry_text entry
texts_push all entry = flat_map-append entry_text all (entry ∷ []) ∙ ap (λ (t : List ℕ). entries_text all ++ t) (append-nil (entry_text entry))

-- the text with one more record taken off
pub whole_push : (text rest behind : List ℕ) (all : List Entry) (entry : Entry) → text ≡ entries_text all ++ rest → rest ≡ entry_text entry ++ behind
    → text ≡ entries_text (all ++ entry ∷ []) ++ behind
whole_push text rest behind all entry is next =
    is ∙ (ap (λ (t : List ℕ). entries_text all ++ t) next
    ∙ (sym (append_assoc (entries_text all) (entry_text entry) behind) ∙ ap (λ (t : List ℕ). t ++ behind) (sym (texts_push all entry))))

-- ---- what a right row says

test_holds : (test : Bool) (column : ℕ) (tests : List Test) → first_wrong ((test, column) ∷ tests) ≡ None → (test ≡ true) × (first_wrong tests ≡ None)
test_holds true column tests none = (refl, none)
test_holds false column tests none = absurd (cc)

later_none : (first later : Option ℕ) → or_later first later ≡ None → (first ≡ None) × (later ≡ None)
later_none None later none = (refl, none)
later_none (Some column) later none = absurd (cc)

path_text_by : (path : List ℕ) (b : Bool) → is_path path ≡ b → is_some (if b then utf8_of path else None) ≡ true → is_some (utf8_of path) ≡ true
path_text_by path true is some = some
path_text_by path false is some = absurd (cc)

not_true : (b : Bool) → not b ≡ true → b ≡ false
not_true true is = absurd (cc)
not_true false is = refl

-- the tests of a row's place behind that of its path
abbrev behind_path : Option ℕ → Row → List Test
behind_path parent row =
    (is_named row, 4) ∷ (is_kind row, 8) ∷ (is_parent (at row 1) parent, 1) ∷ (bytes_eq (at row 2) (uri (at row 3) (kind_in row)), 2) ∷ []

-- the path of a right row is UTF-8, and no record before has it
pub right_path : (hash : HashKind) (all : List Entry) (row : Row) → wrong_first hash all row ≡ None
    → (is_some (utf8_of (at row 3)) ≡ true) × (is_some (found_in all (at row 3)) ≡ false)
unfolding wrong_first
right_path hash all row none =
    let place = (later_none (first_wrong (place_tests (last_id all) (is_some (found_in all (at row 3))) (parent_in all (above row)) row)) _ none).0 in
    let id = test_holds (is_next (last_id all) (number_of (at row 0))) 0
    ((is_some (path_of (at row 3)) && not (is_some (found_in all (at row 3))), 3) ∷ behind_path (parent_in all (above row)) row) place in
    let path = test_holds (is_some (path_of (at row 3)) && not (is_some (found_in all (at row 3)))) 3 (behind_path (parent_in all (above row)) row) id.1 in
    let both = and_parts (is_some (path_of (at row 3))) (not (is_some (found_in all (at row 3)))) path.0 in
    (path_text_by (at row 3) (is_path (at row 3)) refl both.0, not_true (is_some (found_in all (at row 3))) both.1)
