-- The format of a row is tested, and noted.
use Rattle.std.proofs.Common.{◌≡◌, ◌∙◌, ◌≤◌, ℕ, ◌==◌, Bool, true, false, ◌&&◌, ◌||◌, not, nat_lt, List, [], ◌∷◌, length, Option, Some, None, refl, sym, arith}
use Rattle.std.specs.Prelude.{if◌then◌else◌}
use Rattle.std.specs.List.{list_all}
use Rattle.std.specs.Option.{is_some}
use Rattle.std.specs.Str.{is_utf8}
use Rattle.std.proofs.lemmas.Bool.{and_parts, leb-true, ne_eqb}
use Rattle.droid_pronom.specs.RegistryFields.{has_bytes, is_puid, is_puid_byte}
use Rattle.droid_lists.specs.FormatMaps.{AddsKnown, AddsOwn, HasOwn, IsKnown, TakesFormat, known_at, known_count, own_has}
use Rattle.droid_lists.specs.ProfileRows.{wrong_format}
use Rattle.droid_lists.specs.RowTests.{Row, Test, are_none, at, first_wrong, format_tests, is_new_puid, is_right_puid, texts_in, texts_tests, utf8_of}
use Rattle.droid_lists.specs.declared.spelling.row_formats.Formats.{Formats}
use Rattle.droid_lists.specs.declared.spelling.row_formats.Texts.{Texts}
use Rattle.droid_lists.specs.declared.spelling.own_puids.OwnPuids.{OwnPuids}
use Rattle.droid_lists.proofs.FormatSteps.{more_known, more_own, same_known, same_own}

-- what the maps say of a row's format
abbrev pub wrong_by : Formats → OwnPuids → ℕ → Row → Option ℕ
wrong_by formats own count row =
    first_wrong (format_tests (known_at formats (at row 14)) (own_has own (at row 14)) (nat_lt (known_count formats) 4096) count row)

-- it is what the rows say
wrong_same : (formats : Formats) (own : OwnPuids) (before rows : List Row) (count : ℕ) (row : Row) → IsKnown formats before → HasOwn own rows
    → wrong_by formats own count row ≡ wrong_format before rows count row
wrong_same formats own before rows count row known has = rw (known.known (at row 14), has.has (at row 14), known.count) refl

first_holds : (test : Bool) (column : ℕ) (tests : List Test) → first_wrong ((test, column) ∷ tests) ≡ None → test ≡ true
first_holds true column tests none = refl
first_holds false column tests none = absurd (cc)

-- a right row of a record without formats has no PUID
no_puid_by : (known : Option Texts) (repeated place : Bool) (count : ℕ) (row : Row) (b : Bool) → (count == 0) ≡ b → b ≡ true
    → first_wrong (if b then are_none (at row 14) (texts_in row) else (is_new_puid (is_some known || place) repeated (at row 14), 14) ∷ texts_tests known (texts_in row)) ≡ None
    → (length (at row 14) == 0) ≡ true
no_puid_by known repeated place count row true is at_is none = first_holds (length (at row 14) == 0) 14 ((length (at row 15) == 0, 15) ∷ (length (at row 16) == 0, 16) ∷ (length (at row 17) == 0, 17) ∷ []) none
no_puid_by known repeated place count row false is at_is none = absurd (cc)

no_puid : (known : Option Texts) (repeated place : Bool) (count : ℕ) (row : Row) → (count == 0) ≡ true → first_wrong (format_tests known repeated place count row) ≡ None
    → (length (at row 14) == 0) ≡ true
no_puid known repeated place count row is none = no_puid_by known repeated place count row (count == 0) refl is none

some_length : (text : List ℕ) → is_puid text ≡ true → (length text == 0) ≡ false
some_length text is =
    let both = and_parts (has_bytes 1 32 text) (list_all is_puid_byte text) is in
    let least = (and_parts _ _ both.0).0 in
    let long : 1 ≤ length text = leb-true 1 (length text) least in
    ne_eqb (length text) 0 (λ none. absurd (omega (arith, long, none)))

-- a right row of a record with formats has a PUID
puid_right : (has_place repeated : Bool) (puid : List ℕ) → is_new_puid has_place repeated puid ≡ true → (is_some (utf8_of puid) ≡ true) × ((length puid == 0) ≡ false)
puid_right has_place repeated puid is =
    let both = and_parts (is_some (utf8_of puid)) (is_right_puid has_place repeated puid) is in
    let front = and_parts (is_puid puid && not repeated) has_place both.1 in
    (both.0, some_length puid (and_parts (is_puid puid) (not repeated) front.0).0)

some_puid_by : (known : Option Texts) (repeated place : Bool) (count : ℕ) (row : Row) (b : Bool) → (count == 0) ≡ b → b ≡ false
    → first_wrong (if b then are_none (at row 14) (texts_in row) else (is_new_puid (is_some known || place) repeated (at row 14), 14) ∷ texts_tests known (texts_in row)) ≡ None
    → (is_some (utf8_of (at row 14)) ≡ true) × ((length (at row 14) == 0) ≡ false)
some_puid_by known repeated place count row true is at_is none = absurd (cc)
some_puid_by known repeated place count row false is at_is none =
    puid_right (is_some known || place) repeated (at row 14) (first_holds (is_new_puid (is_some known || place) repeated (at row 14)) 14 (texts_tests known (texts_in row)) none)

pub some_puid : (formats : Formats) (own : OwnPuids) (count : ℕ) (row : Row) → (count == 0) ≡ false → wrong_by formats own count row ≡ None
    → (is_some (utf8_of (at row 14)) ≡ true) × ((length (at row 14) == 0) ≡ false)
some_puid formats own count row is none =
    some_puid_by (known_at formats (at row 14)) (own_has own (at row 14)) (nat_lt (known_count formats) 4096) count row (count == 0) refl is none

-- ---- what comes of a row

pub column_wrong : (old new : Formats) (own_old own_new : OwnPuids) (count column : ℕ) (row : Row) → Some column ≡ wrong_by old own_old count row
    → TakesFormat (Some column) old new own_old own_new count row
column_wrong old new own_old own_new count column row wrong = λ before rows known has.
    sym (wrong_same old own_old before rows count row known has) ∙ sym wrong

pub no_format : (old new : Formats) (own_old own_new : OwnPuids) (count : ℕ) (row : Row) → None ≡ wrong_by old own_old count row → (count == 0) ≡ true → new ≡ old → own_new ≡ own_old
    → TakesFormat None old new own_old own_new count row
no_format old new own_old own_new count row right none same also = λ before rows known has.
    let empty = no_puid (known_at old (at row 14)) (own_has own_old (at row 14)) (nat_lt (known_count old) 4096) count row none (sym right) in (
      sym (wrong_same old own_old before rows count row known has) ∙ sym right,
      rw same (same_known old before row empty known),
      rw also (same_own own_old rows row empty has),
    )

pub a_format : (old new : Formats) (own_old own_new : OwnPuids) (count : ℕ) (row : Row) → None ≡ wrong_by old own_old count row → (count == 0) ≡ false
    → AddsKnown old new (at row 14) (texts_in row) → AddsOwn own_old own_new (at row 14) → TakesFormat None old new own_old own_new count row
a_format old new own_old own_new count row right some adds also = λ before rows known has.
    let puid = some_puid old own_old count row some (sym right) in (
      sym (wrong_same old own_old before rows count row known has) ∙ sym right,
      more_known old new before row puid.1 known adds,
      more_own own_old own_new rows row puid.1 has also,
    )

-- ---- a PUID as text

text_by : (bytes text : List ℕ) (b : Bool) → is_utf8 bytes ≡ b → Some text ≡ (if b then Some bytes else None) → text ≡ bytes
text_by bytes text true is same = cc
text_by bytes text false is same = absurd (cc)

-- bytes as text are the same bytes
pub same_text : (bytes text : List ℕ) → Some text ≡ utf8_of bytes → text ≡ bytes
same_text bytes text is = text_by bytes text (is_utf8 bytes) refl is
