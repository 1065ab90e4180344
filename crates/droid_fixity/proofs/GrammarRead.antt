-- A line of the grammar is read.
use Rattle.std.proofs.Common.{◌≡◌, ◌∙◌, ℕ, ◌==◌, ◌&&◌, ◌||◌, Bool, true, false, not, cond, List, [], ◌∷◌, ◌++◌, length, take, Option, Some, None, Result, Ok, Err, codes, inl, inr, ◌⊎◌, IsOk, refl, sym, ap}
use Rattle.std.specs.List.{list_all, position}
use Rattle.std.specs.Str.{bytes_eq}
use Rattle.std.proofs.lemmas.Bool.{and_from, and_parts, eqb-true}
use Rattle.std.proofs.lemmas.List.Sums.{list_all-from_AllPass}
use Rattle.hex.specs.Hex.{decode_sized, is_hex_digit}
use Rattle.hex.specs.declared.FromHexError.{FromHexError}
use Rattle.hex.proofs.HexLemmas.{IsOk-decode_sized}
use Rattle.droid_frame.specs.declared.hash_value.HashValue.{HashValue}
use Rattle.droid_frame.specs.Paths.{is_plain}
use Rattle.droid_fixity.specs.Digests.{hash_of, md5_by, md5_of, sha256_by, sha256_of}
use Rattle.droid_fixity.specs.Grammar.{AreGaps, IsBagLine, IsEscapedLine, IsEscapedTagLine, IsLine, IsPlainLine, IsTagLine, MayStand, NamesFile}
use Rattle.droid_fixity.specs.Lines.{bag_entry, behind_gaps, cut, cut_at_gap, entry_of, file_item, is_blank, is_gap, is_no_gap, meaning, meaning_by_bytes, meaning_by_entry, meaning_by_text, without_star}
use Rattle.droid_fixity.specs.FilePaths.{below, without_dot}
use Rattle.droid_fixity.specs.Spellings.{◌>>=◌, decoded, onto, unescaped, unescaped_from}
use Rattle.droid_fixity.specs.declared.checksum_lists.form.Escapes.{Escapes}
use Rattle.droid_fixity.specs.declared.checksum_lists.form.Escapes.TheVariants as escapes
use Rattle.droid_fixity.specs.declared.checksum_lists.form.ManifestForm.{ManifestForm}
use Rattle.droid_fixity.specs.declared.checksum_lists.form.ManifestForm.TheVariants.{Bag, Checksums}
use Rattle.droid_fixity.specs.declared.checksum_lists.line_content.Meaning.TheVariants as meanings
use Rattle.droid_fixity.proofs.Cuts.{cut_found, none_pass}
use Rattle.droid_fixity.proofs.Digits.{md5_ok, sha256_ok}
use Rattle.droid_fixity.proofs.EscapedPaths.{alone, dot_is_no_name, is_dotless, plain_dotless}
use Rattle.droid_fixity.proofs.TagLines.{escaped_tag_says, tag_says}
use Rattle.droid_fixity.proofs.Tests.{false_true}
use Rattle.droid_fixity.proofs.WrittenLines.{AreDigits, begins_plain, escaped_says, no_dot, no_gaps, plain_bytes, plain_says}

-- ---- what stands for a hash is digits

digits_by : (short long : Bool) (digits : List ℕ) (hash : HashValue) → cond short (md5_of digits) (cond long (sha256_of digits) None) ≡ Some hash → list_all is_hex_digit digits ≡ true
digits_by true long digits hash is = list_all-from_AllPass is_hex_digit digits (((IsOk-decode_sized digits 16).0 (md5_ok hash (decode_sized digits 16) is)).1)
digits_by false true digits hash is = list_all-from_AllPass is_hex_digit digits (((IsOk-decode_sized digits 32).0 (sha256_ok hash (decode_sized digits 32) is)).1)
digits_by false false digits hash is = absurd cc

are_digits : (digits : List ℕ) (hash : HashValue) → hash_of digits ≡ Some hash → AreDigits digits hash
are_digits digits hash is = record { each = digits_by (length digits == 32) (length digits == 64) digits hash is; reads = is }

-- ---- lines of `md5sum`

plain_named : (line name : List ℕ) (hash : HashValue) → IsPlainLine line hash name → is_plain name ≡ true → meaning Checksums line ≡ meanings.File (file_item hash (47 ∷ name))
plain_named line name hash is plain =
    let are = are_digits is.digits hash is.digest in
    let dotted : without_dot (is.dot ++ name) ≡ name = elim is.dotted [
      | inl dot ↦ rw dot refl
      | inr none ↦ rw none (no_dot name (plain_dotless name plain))
    ] in
    ap (meaning Checksums) is.whole ∙ plain_says is.digits (is.dot ++ name) name is.mark hash are is.marked dotted plain

-- a text that spells a path without `./` in front has none
onto_none : (name : List ℕ) (rest : Option (List ℕ)) → onto 46 (onto 47 rest) ≡ Some name → is_plain name ≡ true → ⊥
onto_none name None is plain = cc
onto_none name (Some rest) is plain =
    let same : 46 ∷ 47 ∷ rest ≡ name = cc in
    dot_is_no_name rest (ap is_plain same ∙ plain)

dotless_by : (dot slash : Bool) (a b : ℕ) (text name : List ℕ) → (a == 46) ≡ dot → (b == 47) ≡ slash → unescaped (a ∷ b ∷ text) ≡ Some name → is_plain name ≡ true
    → not (dot && (slash && true)) ≡ true
dotless_by false slash a b text name hd hs spells plain = refl
dotless_by true false a b text name hd hs spells plain = refl
dotless_by true true a b text name hd hs spells plain =
    absurd (onto_none name (unescaped_from false text)
    (ap (λ (k : ℕ). unescaped (k ∷ 47 ∷ text)) (sym (eqb-true a 46 hd)) ∙ (ap (λ (k : ℕ). unescaped (a ∷ k ∷ text)) (sym (eqb-true b 47 hs)) ∙ spells)) plain)

spelled_dotless : (text name : List ℕ) → unescaped text ≡ Some name → is_plain name ≡ true → is_dotless text ≡ true
spelled_dotless [] name spells plain = refl
spelled_dotless (a ∷ []) name spells plain = alone (a == 46)
spelled_dotless (a ∷ b ∷ text) name spells plain = dotless_by (a == 46) (b == 47) a b text name refl refl spells plain

escaped_named : (line name : List ℕ) (hash : HashValue) → IsEscapedLine line hash name → is_plain name ≡ true → meaning Checksums line ≡ meanings.File (file_item hash (47 ∷ name))
escaped_named line name hash is plain =
    let are = are_digits is.digits hash is.digest in
    let dotted : without_dot (is.dot ++ is.text) ≡ is.text = elim is.dotted [
      | inl dot ↦ rw dot refl
      | inr none ↦ rw none (no_dot is.text (spelled_dotless is.text name is.spells plain))
    ] in
    ap (meaning Checksums) is.whole ∙ escaped_says is.digits (is.dot ++ is.text) name is.mark hash are is.marked (ap unescaped dotted ∙ is.spells) plain

-- ---- lines of `md5sum --tag`

tag_named : (line name : List ℕ) (hash : HashValue) → IsTagLine line hash name → is_plain name ≡ true → meaning Checksums line ≡ meanings.File (file_item hash (47 ∷ name))
tag_named line name hash is plain =
    let dotted : without_dot (is.dot ++ name) ≡ name = elim is.dotted [
      | inl dot ↦ rw dot refl
      | inr none ↦ rw none (no_dot name (plain_dotless name plain))
    ] in
    ap (meaning Checksums) is.whole ∙ tag_says is.tag is.digits (is.dot ++ name) name hash is.tagged dotted plain

escaped_tag_named : (line name : List ℕ) (hash : HashValue) → IsEscapedTagLine line hash name → is_plain name ≡ true → meaning Checksums line ≡ meanings.File (file_item hash (47 ∷ name))
escaped_tag_named line name hash is plain =
    let dotted : without_dot (is.dot ++ is.text) ≡ is.text = elim is.dotted [
      | inl dot ↦ rw dot refl
      | inr none ↦ rw none (no_dot is.text (spelled_dotless is.text name is.spells plain))
    ] in
    ap (meaning Checksums) is.whole ∙ escaped_tag_says is.tag is.digits (is.dot ++ is.text) name hash is.tagged (ap unescaped dotted ∙ is.spells) plain

-- ---- lines of a bag

abbrev pub bag_parts_by : Option (List ℕ × List ℕ) → Option (HashValue × Escapes × List ℕ)
bag_parts_by parts = parts >>= λ two. hash_of two.0 >>= λ hash. behind_gaps two.1 >>= λ text. Some (hash, escapes.Percent, text)

pub bag_entry_is : (line : List ℕ) → bag_entry line ≡ bag_parts_by (cut_at_gap line)
unfolding bag_entry
bag_entry_is line = refl

-- what begins a path, or `*`, is no gap
gaps_none : (gaps : List ℕ) → list_all is_gap gaps ≡ true → none_pass is_no_gap gaps ≡ true
gaps_none [] all = refl
gaps_none (b ∷ gaps) all =
    let both = and_parts (is_gap b) (list_all is_gap gaps) all in
    and_from (not (is_no_gap b)) (none_pass is_no_gap gaps) (ap (λ (t : Bool). not (not t)) both.0) (gaps_none gaps both.1)

gaps_cut : (gaps rest : List ℕ) (first : ℕ) → AreGaps gaps → is_no_gap first ≡ true → behind_gaps (gaps ++ first ∷ rest) ≡ Some (without_star (first ∷ rest))
gaps_cut gaps rest first are no_gap =
    let all : list_all is_gap gaps ≡ true = ap (list_all is_gap) are.whole ∙ and_from (is_gap are.gap) (list_all is_gap are.more) are.first are.rest in
    ap (λ (parts : Option (List ℕ × List ℕ)). parts >>= λ two. Some (without_star two.1)) (cut_found is_no_gap gaps rest first (gaps_none gaps all) no_gap)

line_cut : (digits gaps rest : List ℕ) (hash : HashValue) → AreDigits digits hash → AreGaps gaps → cut_at_gap (digits ++ (gaps ++ rest)) ≡ Some (digits, gaps ++ rest)
line_cut digits gaps rest hash are gapped =
    let start : gaps ++ rest ≡ gapped.gap ∷ (gapped.more ++ rest) = ap (λ (g : List ℕ). g ++ rest) gapped.whole in
    ap (λ (r : List ℕ). cut_at_gap (digits ++ r)) start
    ∙ (cut_found is_gap digits (gapped.more ++ rest) gapped.gap (no_gaps digits are.each) gapped.first ∙ ap (λ (r : List ℕ). Some (digits, r)) (sym start))

bag_line_says : (digits gaps rest text name : List ℕ) (first : ℕ) (hash : HashValue) → AreDigits digits hash → AreGaps gaps → is_no_gap first ≡ true
    → below Bag (without_star (first ∷ rest)) ≡ Some text → decoded text ≡ name → is_plain name ≡ true → meaning Bag (digits ++ (gaps ++ first ∷ rest)) ≡ meanings.File (file_item hash (47 ∷ name))
bag_line_says digits gaps rest text name first hash are gapped no_gap inside spells plain =
    let line = digits ++ (gaps ++ first ∷ rest) in
    let blank : meaning Bag line ≡ meaning_by_entry Bag (entry_of Bag line) = rw (begins_plain digits (gaps ++ first ∷ rest) hash are).blank refl in
    let entry : bag_entry line ≡ Some (hash, escapes.Percent, without_star (first ∷ rest)) =
    bag_entry_is line ∙ (ap bag_parts_by (line_cut digits gaps (first ∷ rest) hash are gapped)
    ∙ (ap (λ (found : Option HashValue). found >>= λ value. behind_gaps (gaps ++ first ∷ rest) >>= λ t. Some (value, escapes.Percent, t)) are.reads
    ∙ ap (λ (found : Option (List ℕ)). found >>= λ t. Some (hash, escapes.Percent, t)) (gaps_cut gaps rest first gapped no_gap))) in
    blank ∙ (ap (meaning_by_entry Bag) entry ∙ (ap (λ (o : Option (List ℕ)). meaning_by_text hash escapes.Percent o) inside
    ∙ (ap (λ (bytes : List ℕ). meaning_by_bytes hash (Some bytes)) spells ∙ plain_bytes hash name plain)))

bag_named : (line name : List ℕ) (hash : HashValue) → IsBagLine line hash name → is_plain name ≡ true → meaning Bag line ≡ meanings.File (file_item hash (47 ∷ name))
bag_named line name hash is plain =
    let are = are_digits is.digits hash is.digest in
    ap (meaning Bag) is.whole ∙ elim is.starred [
      | inl star ↦ elim is.dotted [
        | inl dot ↦ rw (star, dot) (bag_line_says is.digits is.gaps (codes "./data/" ++ is.text) is.text name 42 hash are is.gapped refl refl is.spells plain)
        | inr none ↦ rw (star, none) (bag_line_says is.digits is.gaps (codes "data/" ++ is.text) is.text name 42 hash are is.gapped refl refl is.spells plain)
      ]
      | inr nothing ↦ elim is.dotted [
        | inl dot ↦ rw (nothing, dot) (bag_line_says is.digits is.gaps (codes "/data/" ++ is.text) is.text name 46 hash are is.gapped refl refl is.spells plain)
        | inr none ↦ rw (nothing, none) (bag_line_says is.digits is.gaps (codes "ata/" ++ is.text) is.text name 100 hash are is.gapped refl refl is.spells plain)
      ]
    ]

-- ---- both forms

by_form : (form : ManifestForm) (line name : List ℕ) (hash : HashValue) → IsLine form line hash name → is_plain name ≡ true → meaning form line ≡ meanings.File (file_item hash (47 ∷ name))
by_form Checksums line name hash is plain =
    elim is [
      | inl untagged ↦ elim untagged [
        | inl one ↦ plain_named line name hash one plain
        | inr other ↦ escaped_named line name hash other plain
      ]
      | inr tagged ↦ elim tagged [
        | inl one ↦ tag_named line name hash one plain
        | inr other ↦ escaped_tag_named line name hash other plain
      ]
    ]
by_form Bag line name hash is plain = bag_named line name hash is plain

pub named_read : (form : ManifestForm) (line : List ℕ) (hash : HashValue) (path : List ℕ) → NamesFile form line hash path → meaning form line ≡ meanings.File (file_item hash path)
named_read form line hash path is =
    by_form form line is.name hash is.is_line is.plain ∙ ap (λ (p : List ℕ). meanings.File (file_item hash p)) (sym is.path_is)
