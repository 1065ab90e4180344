-- Lines of `md5sum --tag`.
use Rattle.std.proofs.Common.{◌≡◌, ◌∙◌, ℕ, ◌+◌, ◌-◌, ◌*◌, ◌≤◌, Bool, true, false, cond, List, [], ◌∷◌, ◌++◌, length, take, drop, Option, Some, None, unwrap_or, codes, inl, inr, ◌⊎◌, refl, sym, ap, subst, arith, append_assoc}
use Rattle.std.specs.Option.{option_map, option_or}
use Rattle.std.specs.Prelude.{nat_le, if◌then◌else◌}
use Rattle.std.specs.Str.{bytes_eq}
use Rattle.std.proofs.lemmas.Bool.{le-leb}
use Rattle.std.proofs.lemmas.List.{drop_at, length-append, take-append-drop, take_at}
use Rattle.std.proofs.lemmas.Slice.Eq.{bytes_eq-Decides}
use Rattle.droid_frame.specs.declared.hash_value.HashValue.{HashValue}
use Rattle.droid_frame.specs.Paths.{is_plain}
use Rattle.droid_fixity.specs.Digests.{md5_of, sha256_of}
use Rattle.droid_fixity.specs.Grammar.{IsTag}
use Rattle.droid_fixity.specs.Lines.{before, checksum_entry, cut_at_gap, cut_last, escapes_of, file_item, front_if, is_blank, is_gap, md5_tag, meaning, plain_entry, sha256_tag, tag_entry, tag_parts, tagged, without_backslash}
use Rattle.droid_fixity.specs.FilePaths.{behind, without_dot}
use Rattle.droid_fixity.specs.Spellings.{◌>>=◌, spelled, unescaped}
use Rattle.droid_fixity.specs.declared.checksum_lists.form.Escapes.{Escapes}
use Rattle.droid_fixity.specs.declared.checksum_lists.form.Escapes.TheVariants as escapes
use Rattle.droid_fixity.specs.declared.checksum_lists.form.ManifestForm.TheVariants.{Checksums}
use Rattle.droid_fixity.specs.declared.checksum_lists.line_content.Meaning.TheVariants as meanings
use Rattle.droid_fixity.proofs.Cuts.{cut_found}
use Rattle.droid_fixity.proofs.Digits.{md5_length, sha256_length}
use Rattle.droid_fixity.proofs.WrittenLines.{entry_is, entry_says, parts_by}

-- ---- texts that end in a text

cut_at_end : (front back : List ℕ) (n : ℕ) → length back ≡ n → cut_last n (front ++ back) ≡ Some (front, back)
cut_at_end front back n len =
    let all = length-append front back in
    let within : nat_le n (length (front ++ back)) ≡ true = le-leb n (length (front ++ back)) (omega (arith, all, len)) in
    let place : length (front ++ back) - n ≡ length front = omega (arith, all, len) in
    ap (λ (t : Bool). if t then Some (take (length (front ++ back) - n) (front ++ back), drop (length (front ++ back) - n) (front ++ back)) else None) within
    ∙ (ap (λ (k : ℕ). Some (take k (front ++ back), drop k (front ++ back))) place
    ∙ (ap (λ (one : List ℕ). Some (one, drop (length front) (front ++ back))) (take_at front back (length front) refl)
    ∙ ap (λ (other : List ℕ). Some (front, other)) (drop_at front back (length front) refl)))

before_end : (front end : List ℕ) → before end (front ++ end) ≡ Some front
before_end front end =
    ap (λ (o : Option (List ℕ × List ℕ)). o >>= front_if end) (cut_at_end front end (length end) refl)
    ∙ ap (λ (t : Bool). if t then Some front else None) ((bytes_eq-Decides end end).1 refl)

-- what a cut says
cut_by : (test : Bool) (n : ℕ) (text : List ℕ) (parts : List ℕ × List ℕ) → (if test then Some (take n text, drop n text) else None) ≡ Some parts → text ≡ parts.0 ++ parts.1
cut_by true n text parts is =
    let one : take n text ≡ parts.0 = ap (λ (o : Option (List ℕ × List ℕ)). (unwrap_or o ([], [])).0) is in
    let other : drop n text ≡ parts.1 = ap (λ (o : Option (List ℕ × List ℕ)). (unwrap_or o ([], [])).1) is in
    sym (take-append-drop n text) ∙ (ap (λ (front : List ℕ). front ++ drop n text) one ∙ ap (λ (back : List ℕ). parts.0 ++ back) other)
cut_by false n text parts is = absurd cc

cut_is : (n : ℕ) (text : List ℕ) (parts : List ℕ × List ℕ) → cut_last n text ≡ Some parts → text ≡ parts.0 ++ parts.1
cut_is n text parts is = cut_by (nat_le n (length text)) (length text - n) text parts is

front_by : (test : Bool) (end front : List ℕ) (parts : List ℕ × List ℕ) → bytes_eq parts.1 end ≡ test → (if test then Some parts.0 else None) ≡ Some front → parts.0 ++ parts.1 ≡ front ++ end
front_by true end front parts same is =
    let one : parts.0 ≡ front = ap (λ (o : Option (List ℕ)). unwrap_or o []) is in
    ap (λ (f : List ℕ). f ++ parts.1) one ∙ ap (λ (e : List ℕ). front ++ e) ((bytes_eq-Decides parts.1 end).0 same)
front_by false end front parts same is = absurd cc

before_by : (end text front : List ℕ) (found : Option (List ℕ × List ℕ)) → cut_last (length end) text ≡ found → (found >>= front_if end) ≡ Some front → text ≡ front ++ end
before_by end text front None cut is = absurd cc
before_by end text front (Some parts) cut is = cut_is (length end) text parts cut ∙ front_by (bytes_eq parts.1 end) end front parts refl is

before_is : (end text front : List ℕ) → before end text ≡ Some front → text ≡ front ++ end
before_is end text front is = before_by end text front (cut_last (length end) text) refl is

-- ---- behind the name

-- the steps behind the name
abbrev with_path : List ℕ → HashValue → Option (HashValue × List ℕ)
with_path path hash = Some (hash, path)

abbrev step_hash : (List ℕ → Option HashValue) → List ℕ × List ℕ → List ℕ → Option (HashValue × List ℕ)
step_hash hash_in parts path = hash_in parts.1 >>= with_path path

abbrev step_path : (List ℕ → Option HashValue) → List ℕ × List ℕ → Option (HashValue × List ℕ)
step_path hash_in parts = before (codes ") = ") parts.0 >>= step_hash hash_in parts

tagged_steps : (n : ℕ) (hash_in : List ℕ → Option HashValue) (text : List ℕ) → tagged n hash_in text ≡ (cut_last n text >>= step_path hash_in)
unfolding tagged
tagged_steps n hash_in text = refl

md5_steps : (line : List ℕ) → md5_tag line ≡ (behind (codes "MD5 (") line >>= tagged 32 md5_of)
unfolding md5_tag
md5_steps line = refl

sha256_steps : (line : List ℕ) → sha256_tag line ≡ (behind (codes "SHA256 (") line >>= tagged 64 sha256_of)
unfolding sha256_tag
sha256_steps line = refl

tagged_read : (n : ℕ) (hash_in : List ℕ → Option HashValue) (text digits : List ℕ) (hash : HashValue) → length digits ≡ n → hash_in digits ≡ Some hash
    → tagged n hash_in (text ++ (codes ") = " ++ digits)) ≡ Some (hash, text)
tagged_read n hash_in text digits hash len reads =
    let whole : text ++ (codes ") = " ++ digits) ≡ (text ++ codes ") = ") ++ digits = sym (append_assoc text (codes ") = ") digits) in
    tagged_steps n hash_in (text ++ (codes ") = " ++ digits))
    ∙ (ap (λ (t : List ℕ). cut_last n t >>= step_path hash_in) whole
    ∙ (ap (λ (o : Option (List ℕ × List ℕ)). o >>= step_path hash_in) (cut_at_end (text ++ codes ") = ") digits n len)
    ∙ (ap (λ (o : Option (List ℕ)). o >>= step_hash hash_in (text ++ codes ") = ", digits)) (before_end text (codes ") = "))
    ∙ ap (λ (o : Option HashValue). o >>= with_path text) reads)))

-- ---- a line of the grammar is read

parts_read : (tag digits text : List ℕ) (hash : HashValue) → IsTag tag digits hash → tag_parts (tag ++ (text ++ (codes ") = " ++ digits))) ≡ Some (hash, text)
parts_read tag digits text hash (inl is) =
    let rest = text ++ (codes ") = " ++ digits) in
    ap (λ (t : List ℕ). tag_parts (t ++ rest)) is.0
    ∙ ap (λ (o : Option (HashValue × List ℕ)). option_or o (sha256_tag (codes "MD5 (" ++ rest)))
    (md5_steps (codes "MD5 (" ++ rest) ∙ tagged_read 32 md5_of text digits hash (md5_length digits hash is.1) is.1)
parts_read tag digits text hash (inr is) =
    let rest = text ++ (codes ") = " ++ digits) in
    ap (λ (t : List ℕ). tag_parts (t ++ rest)) is.0
    ∙ (ap (λ (o : Option (HashValue × List ℕ)). option_or o (sha256_tag (codes "SHA256 (" ++ rest))) (md5_steps (codes "SHA256 (" ++ rest))
    ∙ (sha256_steps (codes "SHA256 (" ++ rest) ∙ tagged_read 64 sha256_of text digits hash (sha256_length digits hash is.1) is.1))

-- a name of `--tag` is no digest
no_digest : (tag digits rest : List ℕ) (hash : HashValue) (how : Escapes) → IsTag tag digits hash → parts_by how (cut_at_gap (tag ++ rest)) ≡ None
no_digest tag digits rest hash how (inl is) =
    ap (λ (t : List ℕ). parts_by how (cut_at_gap (t ++ rest))) is.0 ∙ ap (parts_by how) (cut_found is_gap (codes "MD5") (40 ∷ rest) 32 refl refl)
no_digest tag digits rest hash how (inr is) =
    ap (λ (t : List ℕ). parts_by how (cut_at_gap (t ++ rest))) is.0 ∙ ap (parts_by how) (cut_found is_gap (codes "SHA256") (40 ∷ rest) 32 refl refl)

-- how a line begins that begins with a name of `--tag`
record BeginsTagged (line : List ℕ) : Type 0 where
  pub blank : is_blank line ≡ false
  pub how : escapes_of line ≡ escapes.Nothing
  pub whole : without_backslash line ≡ line

begins_tagged : (tag digits rest : List ℕ) (hash : HashValue) → IsTag tag digits hash → BeginsTagged (tag ++ rest)
begins_tagged tag digits rest hash (inl is) = record {
  blank = ap (λ (t : List ℕ). is_blank (t ++ rest)) is.0;
  how = ap (λ (t : List ℕ). escapes_of (t ++ rest)) is.0;
  whole = ap (λ (t : List ℕ). without_backslash (t ++ rest)) is.0 ∙ ap (λ (t : List ℕ). t ++ rest) (sym is.0);
}
begins_tagged tag digits rest hash (inr is) = record {
  blank = ap (λ (t : List ℕ). is_blank (t ++ rest)) is.0;
  how = ap (λ (t : List ℕ). escapes_of (t ++ rest)) is.0;
  whole = ap (λ (t : List ℕ). without_backslash (t ++ rest)) is.0 ∙ ap (λ (t : List ℕ). t ++ rest) (sym is.0);
}

-- a line without a digest in front is read as one of `--tag`
by_tag : (line text : List ℕ) (hash : HashValue) (how : Escapes) → plain_entry line ≡ None → escapes_of line ≡ how → tag_parts (without_backslash line) ≡ Some (hash, text)
    → checksum_entry line ≡ Some (hash, how, text)
by_tag line text hash how none spelling parts =
    ap (λ (o : Option (HashValue × Escapes × List ℕ)). option_or o (tag_entry line)) none
    ∙ (ap (λ (o : Option (HashValue × List ℕ)). option_map (λ two. (two.0, escapes_of line, two.1)) o) parts
    ∙ ap (λ (h : Escapes). Some (hash, h, text)) spelling)

pub tag_says : (tag digits text name : List ℕ) (hash : HashValue) → IsTag tag digits hash → without_dot text ≡ name → is_plain name ≡ true
    → meaning Checksums (tag ++ (text ++ (codes ") = " ++ digits))) ≡ meanings.File (file_item hash (47 ∷ name))
tag_says tag digits text name hash is below plain =
    let rest = text ++ (codes ") = " ++ digits) in
    let line = tag ++ rest in
    let begins = begins_tagged tag digits rest hash is in
    let none : plain_entry line ≡ None =
    entry_is line ∙ (ap (λ (l : List ℕ). parts_by (escapes_of line) (cut_at_gap l)) begins.whole ∙ no_digest tag digits rest hash (escapes_of line) is) in
    entry_says line text name hash escapes.Nothing begins.blank
    (by_tag line text hash escapes.Nothing none begins.how (ap tag_parts begins.whole ∙ parts_read tag digits text hash is)) (ap Some below) plain

pub escaped_tag_says : (tag digits text name : List ℕ) (hash : HashValue) → IsTag tag digits hash → unescaped (without_dot text) ≡ Some name → is_plain name ≡ true
    → meaning Checksums (92 ∷ (tag ++ (text ++ (codes ") = " ++ digits)))) ≡ meanings.File (file_item hash (47 ∷ name))
escaped_tag_says tag digits text name hash is spells plain =
    let rest = text ++ (codes ") = " ++ digits) in
    let line = 92 ∷ (tag ++ rest) in
    let none : plain_entry line ≡ None = entry_is line ∙ no_digest tag digits rest hash escapes.Backslash is in
    entry_says line text name hash escapes.Backslash refl (by_tag line text hash escapes.Backslash none refl (parts_read tag digits text hash is)) spells plain

-- ---- a line that is read is in the grammar

-- the parts of a line behind a backslash
pub record HasTag (line : List ℕ) (hash : HashValue) (text : List ℕ) : Type 0 where
  pub tag : List ℕ
  pub digits : List ℕ
  pub whole : line ≡ tag ++ (text ++ (codes ") = " ++ digits))
  pub is : IsTag tag digits hash

pub record HasDigits (hash_in : List ℕ → Option HashValue) (line : List ℕ) (hash : HashValue) (text : List ℕ) : Type 0 where
  pub digits : List ℕ
  pub whole : line ≡ text ++ (codes ") = " ++ digits)
  pub reads : hash_in digits ≡ Some hash

hash_step : (hash_in : List ℕ → Option HashValue) (front digits path text : List ℕ) (hash : HashValue) (found : Option HashValue) → hash_in digits ≡ found → front ≡ path ++ codes ") = "
    → (found >>= with_path path) ≡ Some (hash, text) → HasDigits hash_in (front ++ digits) hash text
hash_step hash_in front digits path text hash None reads ends is = absurd cc
hash_step hash_in front digits path text hash (Some h) reads ends is =
    let same : h ≡ hash = ap (λ (o : Option (HashValue × List ℕ)). (unwrap_or o (h, path)).0) is in
    let path_same : path ≡ text = ap (λ (o : Option (HashValue × List ℕ)). (unwrap_or o (h, path)).1) is in
    record {
      digits = digits;
      whole = ap (λ (f : List ℕ). f ++ digits) ends ∙ (ap (λ (p : List ℕ). (p ++ codes ") = ") ++ digits) path_same ∙ append_assoc text (codes ") = ") digits);
      reads = reads ∙ ap Some same;
    }

path_step : (hash_in : List ℕ → Option HashValue) (front digits text : List ℕ) (hash : HashValue) (found : Option (List ℕ)) → before (codes ") = ") front ≡ found
    → (found >>= step_hash hash_in (front, digits)) ≡ Some (hash, text) → HasDigits hash_in (front ++ digits) hash text
path_step hash_in front digits text hash None ends is = absurd cc
path_step hash_in front digits text hash (Some path) ends is =
    hash_step hash_in front digits path text hash (hash_in digits) refl (before_is (codes ") = ") front path ends) is

cut_step : (hash_in : List ℕ → Option HashValue) (n : ℕ) (line text : List ℕ) (hash : HashValue) (found : Option (List ℕ × List ℕ)) → cut_last n line ≡ found
    → (found >>= step_path hash_in) ≡ Some (hash, text) → HasDigits hash_in line hash text
cut_step hash_in n line text hash None cut is = absurd cc
cut_step hash_in n line text hash (Some parts) cut is =
    subst (λ (l : List ℕ). HasDigits hash_in l hash text) (sym (cut_is n line parts cut))
    (path_step hash_in parts.0 parts.1 text hash (before (codes ") = ") parts.0) refl is)

tagged_has : (hash_in : List ℕ → Option HashValue) (n : ℕ) (line text : List ℕ) (hash : HashValue) → tagged n hash_in line ≡ Some (hash, text) → HasDigits hash_in line hash text
tagged_has hash_in n line text hash is = cut_step hash_in n line text hash (cut_last n line) refl (sym (tagged_steps n hash_in line) ∙ is)

-- a name in front
behind_by : (test : Bool) (front text rest : List ℕ) → bytes_eq (take (length front) text) front ≡ test → cond test (Some (drop (length front) text)) None ≡ Some rest → text ≡ front ++ rest
behind_by true front text rest is some =
    let same : drop (length front) text ≡ rest = ap (λ (o : Option (List ℕ)). unwrap_or o []) some in
    sym (take-append-drop (length front) text)
    ∙ (ap (λ (f : List ℕ). f ++ drop (length front) text) ((bytes_eq-Decides (take (length front) text) front).0 is) ∙ ap (λ (r : List ℕ). front ++ r) same)
behind_by false front text rest is some = absurd cc

pub behind_is : (front text rest : List ℕ) → behind front text ≡ Some rest → text ≡ front ++ rest
behind_is front text rest is = behind_by (bytes_eq (take (length front) text) front) front text rest refl is

-- the rest of a line behind a name
record HasRest (tag : List ℕ) (hash_in : List ℕ → Option HashValue) (line : List ℕ) (hash : HashValue) (text : List ℕ) : Type 0 where
  pub digits : List ℕ
  pub whole : line ≡ tag ++ (text ++ (codes ") = " ++ digits))
  pub reads : hash_in digits ≡ Some hash

rest_step : (tag : List ℕ) (hash_in : List ℕ → Option HashValue) (n : ℕ) (line text : List ℕ) (hash : HashValue) (found : Option (List ℕ)) → behind tag line ≡ found
    → (found >>= tagged n hash_in) ≡ Some (hash, text) → HasRest tag hash_in line hash text
rest_step tag hash_in n line text hash None front is = absurd cc
rest_step tag hash_in n line text hash (Some rest) front is =
    let has = tagged_has hash_in n rest text hash is in
    record { digits = has.digits; whole = behind_is tag line rest front ∙ ap (λ (r : List ℕ). tag ++ r) has.whole; reads = has.reads }

md5_has : (line text : List ℕ) (hash : HashValue) → md5_tag line ≡ Some (hash, text) → HasTag line hash text
md5_has line text hash is =
    let has = rest_step (codes "MD5 (") md5_of 32 line text hash (behind (codes "MD5 (") line) refl (sym (md5_steps line) ∙ is) in
    record { tag = codes "MD5 ("; digits = has.digits; whole = has.whole; is = inl (refl, has.reads) }

sha256_has : (line text : List ℕ) (hash : HashValue) → sha256_tag line ≡ Some (hash, text) → HasTag line hash text
sha256_has line text hash is =
    let has = rest_step (codes "SHA256 (") sha256_of 64 line text hash (behind (codes "SHA256 (") line) refl (sym (sha256_steps line) ∙ is) in
    record { tag = codes "SHA256 ("; digits = has.digits; whole = has.whole; is = inr (refl, has.reads) }

either_has : (line text : List ℕ) (hash : HashValue) (one : Option (HashValue × List ℕ)) → md5_tag line ≡ one → option_or one (sha256_tag line) ≡ Some (hash, text) → HasTag line hash text
either_has line text hash (Some parts) one is = md5_has line text hash (one ∙ is)
either_has line text hash None one is = sha256_has line text hash is

pub parts_has : (line text : List ℕ) (hash : HashValue) → tag_parts line ≡ Some (hash, text) → HasTag line hash text
parts_has line text hash is = either_has line text hash (md5_tag line) refl is

-- ---- the entry of a line

-- the entry of a line of `--tag`: how the path is spelled comes out as it went in
pub record HasEntry (line : List ℕ) (hash : HashValue) (text : List ℕ) (how : Escapes) : Type 0 where
  pub parts : HasTag (without_backslash line) hash text
  pub same : escapes_of line ≡ how

abbrev with_how : Escapes → HashValue × List ℕ → HashValue × Escapes × List ℕ
with_how how two = (two.0, how, two.1)

entry_by : (line text : List ℕ) (hash : HashValue) (how : Escapes) (found : Option (HashValue × List ℕ)) → tag_parts (without_backslash line) ≡ found
    → option_map (with_how (escapes_of line)) found ≡ Some (hash, how, text) → HasEntry line hash text how
entry_by line text hash how None found is = absurd cc
entry_by line text hash how (Some parts) found is =
    let one : parts.0 ≡ hash = ap (λ (o : Option (HashValue × Escapes × List ℕ)). (unwrap_or o (parts.0, how, parts.1)).0) is in
    let two : parts.1 ≡ text = ap (λ (o : Option (HashValue × Escapes × List ℕ)). (unwrap_or o (parts.0, how, parts.1)).2) is in
    record {
      parts = parts_has (without_backslash line) text hash (found ∙ (ap (λ (h : HashValue). Some (h, parts.1)) one ∙ ap (λ (t : List ℕ). Some (hash, t)) two));
      same = ap (λ (o : Option (HashValue × Escapes × List ℕ)). (unwrap_or o (parts.0, how, parts.1)).1) is;
    }

pub has_entry : (line text : List ℕ) (hash : HashValue) (how : Escapes) → tag_entry line ≡ Some (hash, how, text) → HasEntry line hash text how
has_entry line text hash how is = entry_by line text hash how (tag_parts (without_backslash line)) refl is
