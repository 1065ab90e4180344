-- The texts of single fields are read as what they stand for.
use Rattle.std.proofs.Common.{◌≡◌, ◌∙◌, ℕ, ◌^◌, ◌<◌, ◌≤◌, true, cond, List, [], ◌∷◌, length, Some, None, refl, ap, arith, rules}
use Rattle.std.specs.Prelude.{◌&&◌, decimal, nat_le}
use Rattle.std.specs.Char.{is_ascii_digit}
use Rattle.std.specs.List.{list_all}
use Rattle.std.specs.Str.{IsAscii, IsUtf8}
use Rattle.std.specs.Str.Parse.{digits_value}
use Rattle.std.proofs.lemmas.Bool.{and_parts, and_from, le-leb}
use Rattle.std.proofs.lemmas.Bool.Decides.{nat_tests}
use Rattle.std.proofs.lemmas.Fmt.{decimal_nonempty, digits_decimal, digits_value-decimal, length-decimal-le}
use Rattle.std.proofs.lemmas.Str.{IsUtf8-from_ascii}
use Rattle.std.proofs.lemmas.Str.Ascii.{IsAscii-cons, IsAscii-nil}
use Rattle.std.proofs.lemmas.Str.Parse.{IsDigitsTest, IsNumeralModel, numerals_by_value}
use Rattle.droid_pronom.specs.RegistryFields.{anchor_of, has_bytes, is_puid, is_puid_byte, number_of, offsets_of}
use Rattle.droid_pronom.specs.declared.rows.Anchor.{Anchor}
use Rattle.droid_pronom.specs.declared.rows.Anchor.TheVariants.{Bof, Eof}
use Rattle.droid_pronom.specs.declared.rows.Offsets.{Offsets}
use Rattle.droid_signature.specs.RegistryTables.{anchor_text}

-- ---- a PUID is text

puid_byte : (c : ℕ) → is_puid_byte c ≡ true → c < 128
puid_byte c is = grind (arith, nat_tests)

puid_bytes : (text : List ℕ) → list_all is_puid_byte text ≡ true → IsAscii text
puid_bytes [] all = IsAscii-nil
puid_bytes (c ∷ text) all = let both = and_parts (is_puid_byte c) (list_all is_puid_byte text) all in IsAscii-cons c text (puid_byte c both.0) (puid_bytes text both.1)

pub puid_utf8 : (text : List ℕ) → is_puid text ≡ true → IsUtf8 text
puid_utf8 text is = IsUtf8-from_ascii text (puid_bytes text (and_parts (has_bytes 1 32 text) (list_all is_puid_byte text) is).1)

-- ---- a number is read as itself

digits_test : IsDigitsTest (λ ds. list_all is_ascii_digit ds ≡ true)
digits_test = search rules

digits : IsNumeralModel (λ ds. list_all is_ascii_digit ds ≡ true) (digits_value 10)
digits = numerals_by_value _ digits_test

pub number_read : (n : ℕ) → n ≤ 65535 → number_of (decimal n) ≡ Some n
number_read n small =
    let fits : n < 2 ^ 64 = omega arith in
    let some = decimal_nonempty n fits in
    let few = length-decimal-le 5 n (omega arith) (omega arith) fits in
    let all = digits_decimal digits n fits in
    let value = digits_value-decimal digits n fits in
    let long : has_bytes 1 5 (decimal n) ≡ true = and_from (nat_le 1 (length (decimal n))) (nat_le (length (decimal n)) 5) (le-leb 1 (length (decimal n)) some) (le-leb (length (decimal n)) 5 few) in
    let within : nat_le (digits_value 10 (decimal n)) 65535 ≡ true = le-leb (digits_value 10 (decimal n)) 65535 (rw value small) in
    let formed : (has_bytes 1 5 (decimal n) && list_all is_ascii_digit (decimal n) && nat_le (digits_value 10 (decimal n)) 65535) ≡ true =
    and_from (has_bytes 1 5 (decimal n) && list_all is_ascii_digit (decimal n)) (nat_le (digits_value 10 (decimal n)) 65535) (and_from (has_bytes 1 5 (decimal n)) (list_all is_ascii_digit (decimal n)) long all) within in
    ap (λ t. cond t (Some (digits_value 10 (decimal n))) None) formed ∙ ap Some value

-- ---- offsets are read as themselves

anchor_read : (anchor : Anchor) → anchor_of (anchor_text anchor) ≡ Some anchor
anchor_read Bof = refl
anchor_read Eof = refl

pub offsets_read : (offsets : Offsets) → offsets.min ≤ offsets.max → offsets.max ≤ 65535 → offsets_of (anchor_text offsets.anchor) (decimal offsets.min) (decimal offsets.max) ≡ Some offsets
offsets_read offsets ordered small = rw (anchor_read offsets.anchor, number_read offsets.min (omega arith), number_read offsets.max small, le-leb offsets.min offsets.max ordered) refl
