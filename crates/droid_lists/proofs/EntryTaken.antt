-- One record is read row by row.
use Rattle.std.proofs.Common.{◌≡◌, ◌∙◌, ◌<◌, ◌+◌, ◌^◌, ℕ, true, List, [], ◌∷◌, ◌++◌, append_assoc, length, None, refl, sym, ap, subst, arith}
use Rattle.std.specs.List.{flat_map}
use Rattle.std.specs.Option.{is_some}
use Rattle.std.proofs.lemmas.List.{length-append}
use Rattle.csv.specs.Records.{fields_of}
use Rattle.droid_frame.specs.declared.hash_kind.HashKind.{HashKind}
use Rattle.droid_export.specs.Csv.{line}
use Rattle.droid_lists.specs.EntryMaps.{AddsEntry}
use Rattle.droid_lists.specs.EntryReading.{HaveCome, IsRead, IsWrongMore, ReadsRow, StandsForAll}
use Rattle.droid_lists.specs.FormatMaps.{HasOwn, IsKnown}
use Rattle.droid_lists.specs.ProfileRows.{Entry, all_rows, rows_of, wrong_first, wrong_more}
use Rattle.droid_lists.specs.ProfileTexts.{InMore, IsWrongEntry, IsWrongRow}
use Rattle.droid_lists.specs.RowTests.{Row, at, rows_in, utf8_of}
use Rattle.droid_lists.specs.Spelling.{Spells}
use Rattle.droid_lists.specs.declared.entries.Listed.{Listed}
use Rattle.droid_lists.specs.declared.spelling.row_formats.Formats.{Formats}
use Rattle.droid_lists.specs.declared.spelling.own_puids.OwnPuids.{OwnPuids}
use Rattle.droid_lists.specs.declared.spelling.reading.Reading.{Reading}
use Rattle.droid_lists.proofs.EntrySteps.{IsOf, one_added, rows_push}
use Rattle.droid_lists.proofs.RowsRead.{more_push, right_path, rows_within, text_push}

-- ---- the rows behind the first

-- before any of them
pub none_yet : (all : List Entry) (formats : Formats) (own : OwnPuids) (first : Row) (text : List ℕ) → IsKnown formats (all_rows all ++ first ∷ []) → HasOwn own (first ∷ [])
    → HaveCome all formats own first text text 1
none_yet all formats own first text known has = record { more = []; counted = omega arith; are = tt; whole = refl; known = known; has = has }

-- one more
pub one_more : (all : List Entry) (old new : Formats) (own_old own_new : OwnPuids) (first : Row) (text rest behind : List ℕ) (count : ℕ)
    → (had : HaveCome all old own_old first text rest count) → ReadsRow all new own_new first had.more rest behind → HaveCome all new own_new first text behind (count + 1)
one_more all old new own_old own_new first text rest behind count had read = record {
  more = had.more ++ read.row ∷ [];
  counted = omega (arith, had.counted, length-append had.more (read.row ∷ []));
  are = more_push all first [] had.more read.row had.are read.spelled.count read.right;
  whole = text_push text rest behind had.more read.row had.whole read.spelled.whole;
  known = read.known;
  has = read.has;
}

-- one is wrong
pub one_wrong : (all : List Entry) (old : Formats) (own_old : OwnPuids) (first : Row) (text rest : List ℕ) (count column : ℕ)
    → (had : HaveCome all old own_old first text rest count) → count < rows_in first → IsWrongRow (wrong_more all first had.more) rest column
    → IsWrongMore all first text count column
one_wrong all old own_old first text rest count column had below wrong = record {
  more = had.more;
  rest = rest;
  counted = had.counted;
  below = below;
  are = had.are;
  whole = had.whole;
  wrong = wrong;
}

-- ---- a record

entry_whole : (text rest behind : List ℕ) (first : Row) (more : List Row) → text ≡ line first ++ rest → rest ≡ flat_map line more ++ behind
    → text ≡ flat_map line (first ∷ more) ++ behind
entry_whole text rest behind first more is next =
    is ∙ (ap (λ (t : List ℕ). line first ++ t) next ∙ sym (append_assoc (line first) (flat_map line more) behind))

-- a whole record was read, and is kept
pub entry_read : (hash : HashKind) (all : List Entry) (old new : Reading) (formats : Formats) (own : OwnPuids) (listed : Listed) (first : Row) (text rest behind : List ℕ) (count : ℕ)
    → StandsForAll old all → Spells text first rest → wrong_first hash all first ≡ None → (come : HaveCome all formats own first rest behind (rows_in first))
    → count ≡ rows_in first → new.formats ≡ formats → IsOf listed (2 + length (all_rows all)) (record { first = first; more = come.more })
    → (old.entries.rows + count < 2 ^ 64 → is_some (utf8_of (at (fields_of listed.row) 3)) ≡ true → AddsEntry old.entries new.entries count listed)
    → length (all_rows all) + 1 + length text < 2 ^ 64 → IsRead hash all new text behind
entry_read hash all old new formats own listed first text rest behind count stands spelled right come counted same of adds below =
    let path = right_path hash all first right in
    let whole = entry_whole text rest behind first come.more spelled.whole come.whole in
    let long = rows_within text (first ∷ come.more) behind whole in
    let fits : old.entries.rows + count < 2 ^ 64 = omega (arith, stands.entries.rows, counted, come.counted, long, below) in
    let has_path : is_some (utf8_of (at (fields_of listed.row) 3)) ≡ true = rw of.row path.0 in
    let rows : length (rows_of (record { first = first; more = come.more })) ≡ rows_in first = omega (arith, come.counted) in
    record {
      entry = record { first = first; more = come.more };
      is = record { count = spelled.count; first = right; more = come.are; all = rows };
      whole = whole;
      stands = record {
        entries = one_added old.entries new.entries all count listed (record { first = first; more = come.more }) stands.entries (adds fits has_path) of (counted ∙ sym rows) path.1;
        formats = rw same (subst (λ (known : List Row). IsKnown formats known) (sym (rows_push all (record { first = first; more = come.more }))) come.known);
      };
    }

-- one of the rows behind the first is wrong
pub more_wrong : (hash : HashKind) (all : List Entry) (first : Row) (text rest : List ℕ) (rows column : ℕ) → Spells text first rest → wrong_first hash all first ≡ None
    → IsWrongMore all first rest rows column → IsWrongEntry hash all text column rows
more_wrong hash all first text rest rows column spelled right wrong =
    InMore first wrong.more wrong.rest (sym wrong.counted) spelled.count right wrong.are wrong.below
    (entry_whole text rest wrong.rest first wrong.more spelled.whole wrong.whole) wrong.wrong
