-- A text is wrong first in one place at most, and that of a profile nowhere.
use Rattle.std.proofs.Common.{◌≡◌, ◌∙◌, ◌<◌, ◌+◌, ℕ, suc, zero, List, [], ◌∷◌, ◌++◌, append_assoc, append-nil, length, None, refl, sym, ap, subst, arith}
use Rattle.std.specs.List.{flat_map}
use Rattle.std.proofs.lemmas.List.{append_cancel_left, length-append}
use Rattle.std.proofs.lemmas.Slice.Eq.{bytes_eq-Decides}
use Rattle.droid_frame.specs.declared.hash_kind.HashKind.{HashKind}
use Rattle.droid_export.specs.Csv.{line}
use Rattle.droid_lists.specs.ProfileRows.{AreEntriesFrom, AreMore, Entry, IsEntry, all_rows, entries_text, entry_text, rows_of, wrong_first, wrong_more}
use Rattle.droid_lists.specs.ProfileTexts.{InEntry, InFirst, InMore, InNames, IsProfileText, IsWrong, IsWrongEntry, IsWrongRow, names_of, other_from, other_name, profile_text}
use Rattle.droid_lists.specs.RowReading.{at}
use Rattle.droid_lists.specs.RowTests.{Row, rows_in}
use Rattle.droid_lists.specs.Spelling.{Spells}
use Rattle.droid_lists.proofs.RowUnique.{one_column, one_row, right_or_wrong}
use Rattle.droid_lists.proofs.RowsRead.{rows_within}

-- ---- the rows of a record behind the first

-- the first of some rows
head_spelled : (text : List ℕ) (row : Row) (rows : List Row) (rest : List ℕ) → length row ≡ 18 → text ≡ flat_map line (row ∷ rows) ++ rest
    → Spells text row (flat_map line rows ++ rest)
head_spelled text row rows rest count is = record { count = count; whole = is ∙ append_assoc (line row) (flat_map line rows) rest }

-- so many right rows are these
rows_same : (all : List Entry) (first : Row) (before some others : List Row) (text rest behind : List ℕ) → AreMore all first before some → AreMore all first before others
    → text ≡ flat_map line some ++ rest → text ≡ flat_map line others ++ behind → length some ≡ length others → (some ≡ others) × (rest ≡ behind)
rows_same all first before [] [] text rest behind are be is also len = (refl, sym is ∙ also)
rows_same all first before [] (other ∷ others) text rest behind are be is also len = absurd (omega (arith, len))
rows_same all first before (row ∷ some) [] text rest behind are be is also len = absurd (omega (arith, len))
rows_same all first before (row ∷ some) (other ∷ others) text rest behind are be is also len =
    let one = one_row text row other (flat_map line some ++ rest) (flat_map line others ++ behind) (head_spelled text row some rest are.0 is) (head_spelled text other others behind be.0 also) in
    let there : AreMore all first (before ++ row ∷ []) others = subst (λ (r : Row). AreMore all first (before ++ r ∷ []) others) (sym one.0) be.2 in
    let more = rows_same all first (before ++ row ∷ []) some others (flat_map line some ++ rest) rest behind are.2 there refl one.1 (omega (arith, len)) in
    (rw (one.0, more.0) refl, more.1)

-- the row behind some of the right rows is not wrong
row_right : (all : List Entry) (first : Row) (before some others : List Row) (text rest behind : List ℕ) (column : ℕ) → AreMore all first before some → AreMore all first before others
    → text ≡ flat_map line some ++ rest → text ≡ flat_map line others ++ behind → length others < length some
    → IsWrongRow (wrong_more all first (before ++ others)) behind column → ⊥
row_right all first before [] others text rest behind column are be is also below wrong = absurd (omega (arith, below))
row_right all first before (row ∷ some) [] text rest behind column are be is also below wrong =
    let there : IsWrongRow (wrong_more all first before) behind column = subst (λ (b : List Row). IsWrongRow (wrong_more all first b) behind column) (append-nil before) wrong in
    right_or_wrong (wrong_more all first before) text row (flat_map line some ++ rest) column (head_spelled text row some rest are.0 is) are.1
    (subst (λ (t : List ℕ). IsWrongRow (wrong_more all first before) t column) (sym also) there)
row_right all first before (row ∷ some) (other ∷ others) text rest behind column are be is also below wrong =
    let one = one_row text row other (flat_map line some ++ rest) (flat_map line others ++ behind) (head_spelled text row some rest are.0 is) (head_spelled text other others behind be.0 also) in
    let there : AreMore all first (before ++ row ∷ []) others = subst (λ (r : Row). AreMore all first (before ++ r ∷ []) others) (sym one.0) be.2 in
    let same : before ++ other ∷ others ≡ (before ++ row ∷ []) ++ others =
    ap (λ (r : Row). before ++ r ∷ others) (sym one.0) ∙ sym (append_assoc before (row ∷ []) others) in
    row_right all first (before ++ row ∷ []) some others (flat_map line some ++ rest) rest behind column are.2 there refl one.1 (omega (arith, below))
    (subst (λ (b : List Row). IsWrongRow (wrong_more all first b) behind column) same wrong)

-- two wrong rows are one
wrong_same : (all : List Entry) (first : Row) (before some others : List Row) (text rest behind : List ℕ) (column other_column : ℕ) → AreMore all first before some → AreMore all first before others
    → text ≡ flat_map line some ++ rest → text ≡ flat_map line others ++ behind
    → IsWrongRow (wrong_more all first (before ++ some)) rest column → IsWrongRow (wrong_more all first (before ++ others)) behind other_column
    → (length some ≡ length others) × (column ≡ other_column)
wrong_same all first before [] [] text rest behind column other_column are be is also wrong bad =
    let same : rest ≡ behind = sym is ∙ also in
    (refl, one_column (wrong_more all first (before ++ [])) behind column other_column (subst (λ (t : List ℕ). IsWrongRow (wrong_more all first (before ++ [])) t column) same wrong) bad)
wrong_same all first before [] (other ∷ others) text rest behind column other_column are be is also wrong bad =
    absurd (row_right all first before (other ∷ others) [] text behind rest column be are also is (omega arith) wrong)
wrong_same all first before (row ∷ some) [] text rest behind column other_column are be is also wrong bad =
    absurd (row_right all first before (row ∷ some) [] text rest behind other_column are be is also (omega arith) bad)
wrong_same all first before (row ∷ some) (other ∷ others) text rest behind column other_column are be is also wrong bad =
    let one = one_row text row other (flat_map line some ++ rest) (flat_map line others ++ behind) (head_spelled text row some rest are.0 is) (head_spelled text other others behind be.0 also) in
    let there : AreMore all first (before ++ row ∷ []) others = subst (λ (r : Row). AreMore all first (before ++ r ∷ []) others) (sym one.0) be.2 in
    let same : before ++ other ∷ others ≡ (before ++ row ∷ []) ++ others =
    ap (λ (r : Row). before ++ r ∷ others) (sym one.0) ∙ sym (append_assoc before (row ∷ []) others) in
    let more = wrong_same all first (before ++ row ∷ []) some others (flat_map line some ++ rest) rest behind column other_column are.2 there refl one.1
    (subst (λ (b : List Row). IsWrongRow (wrong_more all first b) rest column) (sym (append_assoc before (row ∷ []) some)) wrong)
    (subst (λ (b : List Row). IsWrongRow (wrong_more all first b) behind other_column) same bad) in
    (ap (λ (n : ℕ). suc n) more.0, more.1)

-- ---- records

-- the first row of a record
first_spelled : (text : List ℕ) (first : Row) (more : List Row) (rest : List ℕ) → length first ≡ 18 → text ≡ flat_map line (first ∷ more) ++ rest → Spells text first (flat_map line more ++ rest)
first_spelled text first more rest count is = head_spelled text first more rest count is

entry_same : (hash : HashKind) (all : List Entry) (entry other : Entry) (text rest behind : List ℕ) → IsEntry hash all entry → IsEntry hash all other
    → text ≡ entry_text entry ++ rest → text ≡ entry_text other ++ behind → (entry ≡ other) × (rest ≡ behind)
entry_same hash all entry other text rest behind is be whole also =
    let one = one_row text entry.first other.first (flat_map line entry.more ++ rest) (flat_map line other.more ++ behind)
    (first_spelled text entry.first entry.more rest is.count whole) (first_spelled text other.first other.more behind be.count also) in
    let there : AreMore all entry.first [] other.more = subst (λ (r : Row). AreMore all r [] other.more) (sym one.0) be.more in
    let rows : rows_in other.first ≡ rows_in entry.first = ap rows_in (sym one.0) in
    let more = rows_same all entry.first [] entry.more other.more (flat_map line entry.more ++ rest) rest behind is.more there refl one.1 (omega (arith, is.all, be.all, rows)) in
    (rw (one.0, more.0) refl, more.1)

entry_right : (hash : HashKind) (all : List Entry) (entry : Entry) (text rest : List ℕ) (column rows : ℕ) → IsEntry hash all entry → text ≡ entry_text entry ++ rest
    → IsWrongEntry hash all text column rows → ⊥
entry_right hash all entry text rest column rows is whole (InFirst none wrong) =
    right_or_wrong (wrong_first hash all) text entry.first (flat_map line entry.more ++ rest) column (first_spelled text entry.first entry.more rest is.count whole) is.first wrong
entry_right hash all entry text rest column rows is whole (InMore first more behind counted count right are below also wrong) =
    let one = one_row text entry.first first (flat_map line entry.more ++ rest) (flat_map line more ++ behind)
    (first_spelled text entry.first entry.more rest is.count whole) (first_spelled text first more behind count also) in
    let there : AreMore all entry.first [] more = subst (λ (r : Row). AreMore all r [] more) (sym one.0) are in
    let due : rows_in first ≡ rows_in entry.first = ap rows_in (sym one.0) in
    row_right all entry.first [] entry.more more (flat_map line entry.more ++ rest) rest behind column is.more there refl one.1 (omega (arith, counted, below, is.all, due))
    (subst (λ (r : Row). IsWrongRow (wrong_more all r more) behind column) (sym one.0) wrong)

wrong_entry_same : (hash : HashKind) (all : List Entry) (text : List ℕ) (column rows other_column other_rows : ℕ) → IsWrongEntry hash all text column rows
    → IsWrongEntry hash all text other_column other_rows → (rows ≡ other_rows) × (column ≡ other_column)
wrong_entry_same hash all text column rows other_column other_rows (InFirst none wrong) (InFirst also bad) =
    (none ∙ sym also, one_column (wrong_first hash all) text column other_column wrong bad)
wrong_entry_same hash all text column rows other_column other_rows (InFirst none wrong) (InMore first more rest counted count right are below whole bad) =
    absurd (right_or_wrong (wrong_first hash all) text first (flat_map line more ++ rest) column (first_spelled text first more rest count whole) right wrong)
wrong_entry_same hash all text column rows other_column other_rows (InMore first more rest counted count right are below whole wrong) (InFirst none bad) =
    absurd (right_or_wrong (wrong_first hash all) text first (flat_map line more ++ rest) other_column (first_spelled text first more rest count whole) right bad)
wrong_entry_same hash all text column rows other_column other_rows (InMore first more rest counted count right are below whole wrong) (InMore first2 more2 rest2 counted2 count2 right2 are2 below2 whole2 bad) =
    let one = one_row text first first2 (flat_map line more ++ rest) (flat_map line more2 ++ rest2) (first_spelled text first more rest count whole) (first_spelled text first2 more2 rest2 count2 whole2) in
    let there : AreMore all first [] more2 = subst (λ (r : Row). AreMore all r [] more2) (sym one.0) are2 in
    let same = wrong_same all first [] more more2 (flat_map line more ++ rest) rest rest2 column other_column are there refl one.1 wrong
    (subst (λ (r : Row). IsWrongRow (wrong_more all r more2) rest2 other_column) (sym one.0) bad) in
    (omega (arith, counted, counted2, same.0), same.1)

-- ---- texts behind the names

-- the first record of a text
head_text : (text : List ℕ) (entry : Entry) (entries : List Entry) (rest : List ℕ) → text ≡ entries_text (entry ∷ entries) ++ rest → text ≡ entry_text entry ++ (entries_text entries ++ rest)
head_text text entry entries rest is = is ∙ append_assoc (entry_text entry) (entries_text entries) rest

-- two places are one
place_same : (hash : HashKind) (before some others : List Entry) (text rest behind : List ℕ) (column rows other_column other_rows : ℕ)
    → AreEntriesFrom hash before some → AreEntriesFrom hash before others → text ≡ entries_text some ++ rest → text ≡ entries_text others ++ behind
    → IsWrongEntry hash (before ++ some) rest column rows → IsWrongEntry hash (before ++ others) behind other_column other_rows
    → (length (all_rows some) + rows ≡ length (all_rows others) + other_rows) × (column ≡ other_column)
place_same hash before [] [] text rest behind column rows other_column other_rows are be is also wrong bad =
    let same : rest ≡ behind = sym is ∙ also in
    let both = wrong_entry_same hash (before ++ []) behind column rows other_column other_rows (subst (λ (t : List ℕ). IsWrongEntry hash (before ++ []) t column rows) same wrong) bad in
    (omega (arith, both.0), both.1)
place_same hash before [] (other ∷ others) text rest behind column rows other_column other_rows are be is also wrong bad =
    let there : IsWrongEntry hash before rest column rows = subst (λ (b : List Entry). IsWrongEntry hash b rest column rows) (append-nil before) wrong in
    absurd (entry_right hash before other text (entries_text others ++ behind) column rows be.0 (head_text text other others behind also)
    (subst (λ (t : List ℕ). IsWrongEntry hash before t column rows) (sym is) there))
place_same hash before (entry ∷ some) [] text rest behind column rows other_column other_rows are be is also wrong bad =
    let there : IsWrongEntry hash before behind other_column other_rows = subst (λ (b : List Entry). IsWrongEntry hash b behind other_column other_rows) (append-nil before) bad in
    absurd (entry_right hash before entry text (entries_text some ++ rest) other_column other_rows are.0 (head_text text entry some rest is)
    (subst (λ (t : List ℕ). IsWrongEntry hash before t other_column other_rows) (sym also) there))
place_same hash before (entry ∷ some) (other ∷ others) text rest behind column rows other_column other_rows are be is also wrong bad =
    let one = entry_same hash before entry other text (entries_text some ++ rest) (entries_text others ++ behind) are.0 be.0 (head_text text entry some rest is) (head_text text other others behind also) in
    let there : AreEntriesFrom hash (before ++ entry ∷ []) others = subst (λ (e : Entry). AreEntriesFrom hash (before ++ e ∷ []) others) (sym one.0) be.1 in
    let same : before ++ other ∷ others ≡ (before ++ entry ∷ []) ++ others =
    ap (λ (e : Entry). before ++ e ∷ others) (sym one.0) ∙ sym (append_assoc before (entry ∷ []) others) in
    let more = place_same hash (before ++ entry ∷ []) some others (entries_text some ++ rest) rest behind column rows other_column other_rows are.1 there refl one.1
    (subst (λ (b : List Entry). IsWrongEntry hash b rest column rows) (sym (append_assoc before (entry ∷ []) some)) wrong)
    (subst (λ (b : List Entry). IsWrongEntry hash b behind other_column other_rows) same bad) in
    let rows_are : length (rows_of entry) ≡ length (rows_of other) = ap (λ (e : Entry). length (rows_of e)) one.0 in (
      omega (arith, more.0, rows_are, length-append (rows_of entry) (all_rows some), length-append (rows_of other) (all_rows others)),
      more.1,
    )

-- a whole text of records is wrong nowhere
whole_right : (hash : HashKind) (before some others : List Entry) (text behind : List ℕ) (column rows : ℕ)
    → AreEntriesFrom hash before some → AreEntriesFrom hash before others → text ≡ entries_text some → text ≡ entries_text others ++ behind → (behind ≡ [] → ⊥)
    → IsWrongEntry hash (before ++ others) behind column rows → ⊥
whole_right hash before [] [] text behind column rows are be is also some_left bad = some_left (sym also ∙ is)
whole_right hash before [] (other ∷ others) text behind column rows are be is also some_left bad =
    let long = rows_within text (rows_of other) (entries_text others ++ behind) (head_text text other others behind also) in
    absurd (omega (arith, long, ap length is))
whole_right hash before (entry ∷ some) [] text behind column rows are be is also some_left bad =
    let there : IsWrongEntry hash before behind column rows = subst (λ (b : List Entry). IsWrongEntry hash b behind column rows) (append-nil before) bad in
    entry_right hash before entry text (entries_text some) column rows are.0 is (subst (λ (t : List ℕ). IsWrongEntry hash before t column rows) (sym also) there)
whole_right hash before (entry ∷ some) (other ∷ others) text behind column rows are be is also some_left bad =
    let one = entry_same hash before entry other text (entries_text some) (entries_text others ++ behind) are.0 be.0 is (head_text text other others behind also) in
    let there : AreEntriesFrom hash (before ++ entry ∷ []) others = subst (λ (e : Entry). AreEntriesFrom hash (before ++ e ∷ []) others) (sym one.0) be.1 in
    let same : before ++ other ∷ others ≡ (before ++ entry ∷ []) ++ others =
    ap (λ (e : Entry). before ++ e ∷ others) (sym one.0) ∙ sym (append_assoc before (entry ∷ []) others) in
    whole_right hash (before ++ entry ∷ []) some others (entries_text some) behind column rows are.1 there refl one.1 some_left
    (subst (λ (b : List Entry). IsWrongEntry hash b behind column rows) same bad)

-- ---- texts

names_right_from : (count column : ℕ) (names : Row) → other_from count column names names ≡ None
unfolding other_from
names_right_from zero column names = refl
names_right_from (suc count) column names = rw ((bytes_eq-Decides (at names column) (at names column)).1 refl) (names_right_from count (column + 1) names)

names_count : (hash : HashKind) → length (names_of hash) ≡ 18
names_count hash = refl

names_spelled : (hash : HashKind) (text rest : List ℕ) → text ≡ line (names_of hash) ++ rest → Spells text (names_of hash) rest
names_spelled hash text rest is = record { count = names_count hash; whole = is }

names_right : (hash : HashKind) (text rest : List ℕ) (column : ℕ) → text ≡ line (names_of hash) ++ rest → IsWrongRow (other_name hash) text column → ⊥
names_right hash text rest column is wrong =
    right_or_wrong (other_name hash) text (names_of hash) rest column (names_spelled hash text rest is) (names_right_from 18 0 (names_of hash)) wrong

behind_names : (hash : HashKind) (text rest : List ℕ) (entries : List Entry) → text ≡ profile_text hash entries ++ rest → text ≡ line (names_of hash) ++ (entries_text entries ++ rest)
behind_names hash text rest entries is = is ∙ append_assoc (line (names_of hash)) (entries_text entries) rest

same_behind : (hash : HashKind) (text rest behind : List ℕ) → text ≡ line (names_of hash) ++ rest → text ≡ line (names_of hash) ++ behind → rest ≡ behind
same_behind hash text rest behind is also = append_cancel_left (line (names_of hash)) rest behind (sym is ∙ also)

pub one_place : (hash : HashKind) (text : List ℕ) (column number other_column other_number : ℕ) → IsWrong hash text column number → IsWrong hash text other_column other_number
    → (number ≡ other_number) × (column ≡ other_column)
one_place hash text column number other_column other_number (InNames is wrong) (InNames also bad) =
    (is ∙ sym also, one_column (other_name hash) text column other_column wrong bad)
one_place hash text column number other_column other_number (InNames is wrong) (InEntry entries rest rows at_is are whole some bad) =
    absurd (names_right hash text (entries_text entries ++ rest) column (behind_names hash text rest entries whole) wrong)
one_place hash text column number other_column other_number (InEntry entries rest rows at_is are whole some wrong) (InNames is bad) =
    absurd (names_right hash text (entries_text entries ++ rest) other_column (behind_names hash text rest entries whole) bad)
one_place hash text column number other_column other_number (InEntry entries rest rows at_is are whole some wrong) (InEntry entries2 rest2 rows2 at_is2 are2 whole2 some2 bad) =
    let tail = same_behind hash text (entries_text entries ++ rest) (entries_text entries2 ++ rest2) (behind_names hash text rest entries whole) (behind_names hash text rest2 entries2 whole2) in
    let both = place_same hash [] entries entries2 (entries_text entries ++ rest) rest rest2 column rows other_column rows2 are are2 refl tail wrong bad in
    (omega (arith, at_is, at_is2, both.0), both.1)

pub nowhere : (hash : HashKind) (text : List ℕ) (all : List Entry) (column number : ℕ) → IsProfileText hash text all → IsWrong hash text column number → ⊥
nowhere hash text all column number is (InNames at_is wrong) = names_right hash text (entries_text all) column is.whole wrong
nowhere hash text all column number is (InEntry entries rest rows at_is are whole some wrong) =
    let tail = same_behind hash text (entries_text all) (entries_text entries ++ rest) is.whole (behind_names hash text rest entries whole) in
    whole_right hash [] all entries (entries_text all) rest column rows is.are are refl tail some wrong
