-- Lines that were written are read back.
use Rattle.std.proofs.Common.{◌≡◌, ◌∙◌, ℕ, ◌+◌, ◌==◌, Bool, true, false, not, List, [], ◌∷◌, ◌++◌, Result, Ok, Err, refl, sym, ap, subst, append-nil, append_assoc}
use Rattle.std.specs.Prelude.{IsTrue}
use Rattle.std.specs.List.{AllByRecursion, flat_map, list_all, slice_split}
use Rattle.std.proofs.lemmas.Bool.{and_parts, eqb-true, not-true}
use Rattle.hex.specs.Hex.{encode_lower}
use Rattle.droid_frame.specs.declared.hash_value.HashValue.{HashValue}
use Rattle.droid_frame.specs.declared.hash_value.HashValue.TheVariants as values
use Rattle.droid_frame.specs.Paths.{is_file_path, is_plain}
use Rattle.droid_frame.specs.declared.item.Item.{Item}
use Rattle.droid_fixity.specs.Lines.{file_item, meaning, without_return}
use Rattle.droid_fixity.specs.Lists.{after, is_alike, items_from, items_of, some_items, taken, taken_file}
use Rattle.droid_fixity.specs.ReadBack.{AreListed, IsDigest, IsListed, lines_of}
use Rattle.droid_fixity.specs.Texts.{ends_line, without_mark}
use Rattle.droid_fixity.specs.Writing.{line, line_below, line_by, shown}
use Rattle.droid_fixity.specs.declared.checksum_lists.form.ManifestForm.TheVariants.{Checksums}
use Rattle.droid_fixity.specs.declared.checksum_lists.list_fault.ManifestFault.{ManifestFault}
use Rattle.droid_fixity.specs.declared.checksum_lists.line_content.Meaning.{Meaning}
use Rattle.droid_fixity.specs.declared.checksum_lists.line_content.Meaning.TheVariants as meanings
use Rattle.droid_fixity.proofs.ClearBytes.{first_line, is_clear, no_return}
use Rattle.droid_fixity.proofs.Tests.{false_true}
use Rattle.droid_fixity.proofs.WrittenLines.{AreDigits, IsBody, body_of, is_unmarked, md5_digits_are, sha256_digits_are}

-- a hash that can be listed has digits
record HasDigits (hash : HashValue) : Type 0 where
  pub digits : List ℕ
  pub are : AreDigits digits hash
  pub written : (path : List ℕ) → line_below hash path ≡ line_by digits path

has_digits : (hash : HashValue) → IsDigest hash → HasDigits hash
has_digits values.Nothing is = absurd is
has_digits (values.Md5 digest) is = record { digits = encode_lower digest; are = md5_digits_are digest is.0 is.1; written = λ path. refl }
has_digits (values.Sha256 digest) is = record { digits = encode_lower digest; are = sha256_digits_are digest is.0 is.1; written = λ path. refl }

-- the line of a file, without its line feed
record HasBody (hash : HashValue) (path : List ℕ) : Type 0 where
  pub body : List ℕ
  pub ends : line hash path ≡ body ++ 10 ∷ []
  pub clear : list_all is_clear body ≡ true
  pub says : meaning Checksums body ≡ meanings.File (file_item hash path)
  pub unmarked : is_unmarked body ≡ true

body_at : (hash : HashValue) (path : List ℕ) → IsDigest hash → is_plain path ≡ true → HasBody hash (47 ∷ path)
body_at hash path digest plain =
    let has = has_digits hash digest in
    let made = body_of has.digits path hash has.are plain in
    record { body = made.0; ends = has.written (shown path) ∙ made.1.ends; clear = made.1.clear; says = made.1.says; unmarked = made.1.unmarked }

has_body : (hash : HashValue) (path : List ℕ) → IsDigest hash → is_file_path path ≡ true → HasBody hash path
has_body hash [] digest is = absurd (false_true is)
has_body hash (b ∷ path) digest is =
    let both = and_parts (b == 47) (is_plain path) is in
    subst (λ (k : ℕ). HasBody hash (k ∷ path)) (sym (eqb-true b 47 both.0)) (body_at hash path digest both.1)

alike_front : (front items : List Item) (item : Item) → is_alike (front ++ item ∷ items) item.hash ≡ true → is_alike front item.hash ≡ true
alike_front [] items item h = refl
alike_front (first ∷ front) items item h = h

-- one line more
one_line : (number : ℕ) (front items : List Item) (item : Item) (text : List ℕ) → IsListed item → is_alike front item.hash ≡ true
    → items_from Checksums number front (slice_split (ends_line Checksums) (line item.hash item.path ++ text)) ≡ items_from Checksums (number + 1) (front ++ item ∷ []) (slice_split (ends_line Checksums) text)
one_line number front items item text listed alike =
    let has = has_body item.hash item.path listed.digest listed.path in
    let whole : line item.hash item.path ++ text ≡ has.body ++ 10 ∷ text = ap (λ (l : List ℕ). l ++ text) has.ends ∙ append_assoc has.body (10 ∷ []) text in
    let split : slice_split (ends_line Checksums) (line item.hash item.path ++ text) ≡ has.body ∷ slice_split (ends_line Checksums) text =
    ap (slice_split (ends_line Checksums)) whole ∙ first_line has.body text has.clear in
    let says : meaning Checksums (without_return has.body) ≡ meanings.File item =
    ap (meaning Checksums) (no_return has.body has.clear) ∙ (has.says ∙ ap meanings.File (sym listed.only)) in
    let takes : taken number front (meaning Checksums (without_return has.body)) ≡ Ok (front ++ item ∷ []) = ap (taken number front) says ∙ rw alike refl in
    ap (items_from Checksums number front) split
    ∙ ap (λ (r : Result (List Item) ManifestFault). after r (λ more. items_from Checksums (number + 1) more (slice_split (ends_line Checksums) text))) takes

read_from : (number : ℕ) (front items : List Item) → AllByRecursion IsListed items → AllByRecursion (λ item. IsTrue (is_alike (front ++ items) item.hash)) items
    → items_from Checksums number front (slice_split (ends_line Checksums) (lines_of items)) ≡ Ok (front ++ items)
read_from number front [] each kinds = ap Ok (sym (append-nil front))
read_from number front (item ∷ items) each kinds =
    let same : front ++ item ∷ items ≡ (front ++ item ∷ []) ++ items = sym (append_assoc front (item ∷ []) items) in
    one_line number front items item (lines_of items) each.0 (alike_front front items item kinds.0)
    ∙ (read_from (number + 1) (front ++ item ∷ []) items each.1 (subst (λ (all : List Item). AllByRecursion (λ one. IsTrue (is_alike all one.hash)) items) same kinds.1)
    ∙ ap Ok (sym same))

-- ---- a list begins with no byte order mark

no_mark : (b : ℕ) (text : List ℕ) → not (b == 239) ≡ true → without_mark (b ∷ text) ≡ b ∷ text
no_mark b text is = let other : (b == 239) ≡ false = not-true (b == 239) is in rw other refl

body_unmarked : (body text : List ℕ) → is_unmarked body ≡ true → without_mark (body ++ 10 ∷ text) ≡ body ++ 10 ∷ text
body_unmarked [] text is = refl
body_unmarked (b ∷ body) text is = no_mark b (body ++ 10 ∷ text) is

lines_unmarked : (item : Item) (items : List Item) → IsListed item → without_mark (lines_of (item ∷ items)) ≡ lines_of (item ∷ items)
lines_unmarked item items listed =
    let has = has_body item.hash item.path listed.digest listed.path in
    let whole : lines_of (item ∷ items) ≡ has.body ++ 10 ∷ lines_of items = ap (λ (l : List ℕ). l ++ lines_of items) has.ends ∙ append_assoc has.body (10 ∷ []) (lines_of items) in
    ap without_mark whole ∙ (body_unmarked has.body (lines_of items) has.unmarked ∙ sym whole)

pub read_back : (items : List Item) → AreListed items → ¬ (items ≡ []) → items_of Checksums (lines_of items) ≡ Ok items
read_back [] are some = absurd (some refl)
read_back (item ∷ items) are some =
    ap (λ (text : List ℕ). some_items (items_from Checksums 1 [] (slice_split (ends_line Checksums) text))) (lines_unmarked item items are.each.0)
    ∙ ap some_items (read_from 1 [] (item ∷ items) are.each are.kinds)
