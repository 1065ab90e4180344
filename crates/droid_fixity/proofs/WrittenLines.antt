-- What a line says that was written.
use Rattle.std.proofs.Common.{◌≡◌, ◌∙◌, ◌<◌, ℕ, ◌+◌, ◌*◌, ◌==◌, ◌&&◌, ◌||◌, Bool, true, false, not, List, [], ◌∷◌, ◌++◌, length, take, drop, Option, Some, None, codes, if◌then◌else◌, inl, inr, refl, sym, ap, arith, append_assoc}
use Rattle.std.specs.List.{list_all, list_any}
use Rattle.std.specs.Option.{option_or}
use Rattle.std.specs.Str.{bytes_eq}
use Rattle.std.proofs.lemmas.Bool.{and_from, and_parts, eqb-true, not-true, or_from}
use Rattle.std.proofs.lemmas.List.Sums.{list_all-from_AllPass}
use Rattle.hex.specs.Hex.{encode_lower, is_hex_digit, lower_digits}
use Rattle.hex.proofs.HexLemmas.{decode_of-encode_lower, decode_of-ok, decode_sized-twice, length-encode_with}
use Rattle.droid_frame.specs.Fields.{IsBytes}
use Rattle.droid_frame.specs.declared.hash_value.HashValue.{HashValue}
use Rattle.droid_frame.specs.declared.hash_value.HashValue.TheVariants as values
use Rattle.droid_frame.specs.Paths.{is_plain}
use Rattle.droid_fixity.specs.Digests.{hash_of, md5_by, md5_of, sha256_by, sha256_of}
use Rattle.droid_fixity.specs.Grammar.{IsMark}
use Rattle.droid_fixity.specs.Lines.{behind_mark, checksum_entry, cut_at_gap, escapes_of, file_item, is_blank, is_gap, meaning, meaning_by_bytes, meaning_by_entry, entry_of, plain_entry, tag_entry, without_backslash}
use Rattle.droid_fixity.specs.FilePaths.{without_dot}
use Rattle.droid_fixity.specs.Spellings.{◌>>=◌, escaped, is_escaped, spelled, unescaped}
use Rattle.droid_fixity.specs.Writing.{line_by, shown}
use Rattle.droid_fixity.specs.declared.checksum_lists.form.Escapes.{Escapes}
use Rattle.droid_fixity.specs.declared.checksum_lists.form.Escapes.TheVariants as escapes
use Rattle.droid_fixity.specs.declared.checksum_lists.form.ManifestForm.{ManifestForm}
use Rattle.droid_fixity.specs.declared.checksum_lists.form.ManifestForm.TheVariants.{Checksums}
use Rattle.droid_fixity.specs.declared.checksum_lists.line_content.Meaning.TheVariants as meanings
use Rattle.droid_fixity.proofs.ClearBytes.{digits_clear, is_clear, plain_clear}
use Rattle.droid_fixity.proofs.Cuts.{cut_found, none_pass}
use Rattle.droid_fixity.proofs.EscapedPaths.{escaped_clear, escaped_dotless, is_dotless, plain_dotless, unescaped_escaped}
use Rattle.droid_fixity.proofs.Tests.{all_append, false_true, other_sign}

-- ---- the digits of a hash

-- digits that stand for a hash
pub record AreDigits (digits : List ℕ) (hash : HashValue) : Type 0 where
  pub each : list_all is_hex_digit digits ≡ true
  pub reads : hash_of digits ≡ Some hash

digits_pass : (digest : List ℕ) → IsBytes digest → list_all is_hex_digit (encode_lower digest) ≡ true
digits_pass digest bytes = list_all-from_AllPass is_hex_digit (encode_lower digest) ((decode_of-ok (encode_lower digest) digest (decode_of-encode_lower digest bytes)).1)

of_32 : (digits : List ℕ) → length digits ≡ 32 → hash_of digits ≡ md5_of digits
of_32 digits len = rw len refl

of_64 : (digits : List ℕ) → length digits ≡ 64 → hash_of digits ≡ sha256_of digits
of_64 digits len = rw len refl

pub md5_digits_are : (digest : List ℕ) → length digest ≡ 16 → IsBytes digest → AreDigits (encode_lower digest) (values.Md5 digest)
md5_digits_are digest len bytes =
    let twice = length-encode_with lower_digits digest in
    let all : length (encode_lower digest) ≡ 32 = omega (arith, twice, len) in
    record {
      each = digits_pass digest bytes;
      reads = of_32 (encode_lower digest) all ∙ ap md5_by (decode_sized-twice (encode_lower digest) 16 all ∙ decode_of-encode_lower digest bytes);
    }

pub sha256_digits_are : (digest : List ℕ) → length digest ≡ 32 → IsBytes digest → AreDigits (encode_lower digest) (values.Sha256 digest)
sha256_digits_are digest len bytes =
    let twice = length-encode_with lower_digits digest in
    let all : length (encode_lower digest) ≡ 64 = omega (arith, twice, len) in
    record {
      each = digits_pass digest bytes;
      reads = of_64 (encode_lower digest) all ∙ ap sha256_by (decode_sized-twice (encode_lower digest) 32 all ∙ decode_of-encode_lower digest bytes);
    }

-- ---- the digits are cut off

digit_no_gap : (b : ℕ) → is_hex_digit b ≡ true → is_gap b ≡ false
digit_no_gap b is = or_from (b == 32) (b == 9) (other_sign is_hex_digit b 32 is refl) (other_sign is_hex_digit b 9 is refl)

pub no_gaps : (digits : List ℕ) → list_all is_hex_digit digits ≡ true → none_pass is_gap digits ≡ true
no_gaps [] all = refl
no_gaps (b ∷ digits) all =
    let both = and_parts (is_hex_digit b) (list_all is_hex_digit digits) all in
    and_from (not (is_gap b)) (none_pass is_gap digits) (ap not (digit_no_gap b both.0)) (no_gaps digits both.1)

digits_cut : (digits rest : List ℕ) → list_all is_hex_digit digits ≡ true → cut_at_gap (digits ++ 32 ∷ rest) ≡ Some (digits, 32 ∷ rest)
digits_cut digits rest all = cut_found is_gap digits rest 32 (no_gaps digits all) refl

-- ---- the parts of a line

-- the parts of a line behind a backslash, by its two parts
abbrev pub parts_by : Escapes → Option (List ℕ × List ℕ) → Option (HashValue × Escapes × List ℕ)
parts_by how parts = parts >>= λ two. hash_of two.0 >>= λ hash. behind_mark two.1 >>= λ text. Some (hash, how, text)

pub entry_is : (line : List ℕ) → plain_entry line ≡ parts_by (escapes_of line) (cut_at_gap (without_backslash line))
unfolding plain_entry
entry_is line = refl

marked : (mark : ℕ) (text : List ℕ) → IsMark mark → behind_mark (32 ∷ mark ∷ text) ≡ Some text
marked mark text is =
    elim is [
      | inl space ↦ rw space refl
      | inr star ↦ rw star refl
    ]

parts_are : (digits text : List ℕ) (mark : ℕ) (hash : HashValue) (how : Escapes) → AreDigits digits hash → IsMark mark
    → parts_by how (cut_at_gap (digits ++ 32 ∷ mark ∷ text)) ≡ Some (hash, how, text)
parts_are digits text mark hash how are is =
    ap (parts_by how) (digits_cut digits (mark ∷ text) are.each)
    ∙ (ap (λ (found : Option HashValue). found >>= λ value. behind_mark (32 ∷ mark ∷ text) >>= λ rest. Some (value, how, rest)) are.reads
    ∙ ap (λ (found : Option (List ℕ)). found >>= λ rest. Some (hash, how, rest)) (marked mark text is))

-- whether a line does not begin as a byte order mark does
abbrev pub is_unmarked : List ℕ → Bool
is_unmarked [] = true
is_unmarked (b ∷ line) = not (b == 239)

-- a line of digits begins neither as a comment nor with a backslash, nor with a mark
pub record BeginsPlain (line : List ℕ) : Type 0 where
  pub blank : is_blank line ≡ false
  pub how : escapes_of line ≡ escapes.Nothing
  pub whole : without_backslash line ≡ line
  pub unmarked : is_unmarked line ≡ true

no_hash : (hash : HashValue) → hash_of [] ≡ Some hash → ⊥
no_hash hash h = absurd cc

pub begins_plain : (digits text : List ℕ) (hash : HashValue) → AreDigits digits hash → BeginsPlain (digits ++ text)
begins_plain [] text hash are = absurd (no_hash hash are.reads)
begins_plain (b ∷ digits) text hash are =
    let both = and_parts (is_hex_digit b) (list_all is_hex_digit digits) are.each in
    let backslash : (b == 92) ≡ false = other_sign is_hex_digit b 92 both.0 refl in
    record {
      blank = other_sign is_hex_digit b 35 both.0 refl;
      how = rw backslash refl;
      whole = rw backslash refl;
      unmarked = ap not (other_sign is_hex_digit b 239 both.0 refl);
    }

-- a line that is no line of `--tag`
by_plain : (line : List ℕ) (entry : HashValue × Escapes × List ℕ) → plain_entry line ≡ Some entry → checksum_entry line ≡ Some entry
by_plain line entry is = ap (λ (o : Option (HashValue × Escapes × List ℕ)). option_or o (tag_entry line)) is

read_plain : (digits text : List ℕ) (mark : ℕ) (hash : HashValue) → AreDigits digits hash → IsMark mark → checksum_entry (digits ++ 32 ∷ mark ∷ text) ≡ Some (hash, escapes.Nothing, text)
read_plain digits text mark hash are is =
    let line = digits ++ 32 ∷ mark ∷ text in
    let begins = begins_plain digits (32 ∷ mark ∷ text) hash are in
    by_plain line (hash, escapes.Nothing, text)
    (entry_is line ∙ (ap (λ (how : Escapes). parts_by how (cut_at_gap (without_backslash line))) begins.how
    ∙ (ap (λ (rest : List ℕ). parts_by escapes.Nothing (cut_at_gap rest)) begins.whole ∙ parts_are digits text mark hash escapes.Nothing are is)))

read_escaped : (digits text : List ℕ) (mark : ℕ) (hash : HashValue) → AreDigits digits hash → IsMark mark → checksum_entry (92 ∷ (digits ++ 32 ∷ mark ∷ text)) ≡ Some (hash, escapes.Backslash, text)
read_escaped digits text mark hash are is =
    by_plain (92 ∷ (digits ++ 32 ∷ mark ∷ text)) (hash, escapes.Backslash, text) (entry_is (92 ∷ (digits ++ 32 ∷ mark ∷ text)) ∙ parts_are digits text mark hash escapes.Backslash are is)

-- ---- what the line says

pub blank_no : (line : List ℕ) → is_blank line ≡ false → meaning Checksums line ≡ meaning_by_entry Checksums (entry_of Checksums line)
blank_no line h = rw h refl

pub plain_bytes : (hash : HashValue) (path : List ℕ) → is_plain path ≡ true → meaning_by_bytes hash (Some path) ≡ meanings.File (file_item hash (47 ∷ path))
plain_bytes hash path plain = rw plain refl

pub entry_says : (line text path : List ℕ) (hash : HashValue) (how : Escapes) → is_blank line ≡ false → checksum_entry line ≡ Some (hash, how, text)
    → spelled how (without_dot text) ≡ Some path → is_plain path ≡ true → meaning Checksums line ≡ meanings.File (file_item hash (47 ∷ path))
entry_says line text path hash how blank entry spells plain =
    blank_no line blank ∙ (ap (meaning_by_entry Checksums) entry ∙ (ap (meaning_by_bytes hash) spells ∙ plain_bytes hash path plain))

pub no_dot : (text : List ℕ) → is_dotless text ≡ true → without_dot text ≡ text
no_dot text h = rw (not-true (bytes_eq (take 2 text) (codes "./")) h) refl

pub plain_says : (digits text name : List ℕ) (mark : ℕ) (hash : HashValue) → AreDigits digits hash → IsMark mark → without_dot text ≡ name → is_plain name ≡ true
    → meaning Checksums (digits ++ 32 ∷ mark ∷ text) ≡ meanings.File (file_item hash (47 ∷ name))
plain_says digits text name mark hash are is below plain =
    entry_says (digits ++ 32 ∷ mark ∷ text) text name hash escapes.Nothing (begins_plain digits (32 ∷ mark ∷ text) hash are).blank (read_plain digits text mark hash are is) (ap Some below) plain

pub escaped_says : (digits text name : List ℕ) (mark : ℕ) (hash : HashValue) → AreDigits digits hash → IsMark mark → unescaped (without_dot text) ≡ Some name → is_plain name ≡ true
    → meaning Checksums (92 ∷ (digits ++ 32 ∷ mark ∷ text)) ≡ meanings.File (file_item hash (47 ∷ name))
escaped_says digits text name mark hash are is spells plain =
    entry_says (92 ∷ (digits ++ 32 ∷ mark ∷ text)) text name hash escapes.Backslash refl (read_escaped digits text mark hash are is) spells plain

-- ---- the line that is written

-- a line without its line feed
pub record IsBody (line body : List ℕ) (hash : HashValue) (path : List ℕ) : Type 0 where
  pub ends : line ≡ body ++ 10 ∷ []
  pub clear : list_all is_clear body ≡ true
  pub says : meaning Checksums body ≡ meanings.File (file_item hash (47 ∷ path))
  pub unmarked : is_unmarked body ≡ true

plain_body_clear : (digits path : List ℕ) (hash : HashValue) → AreDigits digits hash → list_all is_clear path ≡ true → list_all is_clear (digits ++ 32 ∷ 32 ∷ path) ≡ true
plain_body_clear digits path hash are clear = all_append is_clear digits (32 ∷ 32 ∷ path) (digits_clear digits are.each) clear

body_by : (test : Bool) (digits path : List ℕ) (hash : HashValue) → list_any is_escaped path ≡ test → AreDigits digits hash → is_plain path ≡ true
    → (body : List ℕ) × IsBody (if test then 92 ∷ (digits ++ 32 ∷ 32 ∷ (escaped path ++ 10 ∷ [])) else digits ++ 32 ∷ 32 ∷ (path ++ 10 ∷ [])) body hash path
body_by true digits path hash is are plain = (
  92 ∷ (digits ++ 32 ∷ 32 ∷ escaped path),
  record {
    ends = ap (λ (rest : List ℕ). 92 ∷ rest) (sym (append_assoc digits (32 ∷ 32 ∷ escaped path) (10 ∷ [])));
    clear = plain_body_clear digits (escaped path) hash are (escaped_clear path);
    says = escaped_says digits (escaped path) path 32 hash are (inl refl) (ap unescaped (no_dot (escaped path) (escaped_dotless path (plain_dotless path plain))) ∙ unescaped_escaped path) plain;
    unmarked = refl;
  },
)
body_by false digits path hash is are plain = (
  digits ++ 32 ∷ 32 ∷ path,
  record {
    ends = sym (append_assoc digits (32 ∷ 32 ∷ path) (10 ∷ []));
    clear = plain_body_clear digits path hash are (plain_clear path is);
    says = plain_says digits path path 32 hash are (inl refl) (no_dot path (plain_dotless path plain)) plain;
    unmarked = (begins_plain digits (32 ∷ 32 ∷ path) hash are).unmarked;
  },
)

dash_is : (path : List ℕ) → bytes_eq path (codes "-") ≡ true → path ≡ codes "-"
dash_is [] h = absurd (false_true h)
dash_is (b ∷ []) h = ap (λ (k : ℕ). k ∷ []) (eqb-true b 45 (and_parts (b == 45) true h).0)
dash_is (b ∷ c ∷ path) h = absurd (false_true ((and_parts (b == 45) false h).1))

shown_by : (dash : Bool) (digits path : List ℕ) (hash : HashValue) → bytes_eq path (codes "-") ≡ dash → AreDigits digits hash → is_plain path ≡ true
    → (body : List ℕ) × IsBody (line_by digits (if dash then codes "./-" else path)) body hash path
shown_by true digits path hash is are plain = (
  digits ++ 32 ∷ 32 ∷ codes "./-",
  record {
    ends = sym (append_assoc digits (32 ∷ 32 ∷ codes "./-") (10 ∷ []));
    clear = plain_body_clear digits (codes "./-") hash are refl;
    says = plain_says digits (codes "./-") path 32 hash are (inl refl) (sym (dash_is path is)) plain;
    unmarked = (begins_plain digits (32 ∷ 32 ∷ codes "./-") hash are).unmarked;
  },
)
shown_by false digits path hash is are plain = body_by (list_any is_escaped path) digits path hash refl are plain

pub body_of : (digits path : List ℕ) (hash : HashValue) → AreDigits digits hash → is_plain path ≡ true → (body : List ℕ) × IsBody (line_by digits (shown path)) body hash path
body_of digits path hash are plain = shown_by (bytes_eq path (codes "-")) digits path hash refl are plain
