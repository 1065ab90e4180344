-- A line that is read is in the grammar.
use Rattle.std.proofs.Common.{◌≡◌, ◌∙◌, ℕ, ◌==◌, ◌&&◌, ◌||◌, Bool, true, false, not, cond, List, [], ◌∷◌, ◌++◌, length, take, drop, Option, Some, None, unwrap_or, codes, inl, inr, ◌⊎◌, refl, sym, ap, subst}
use Rattle.std.specs.List.{list_all, position}
use Rattle.std.specs.Option.{option_or}
use Rattle.std.specs.Str.{bytes_eq}
use Rattle.std.proofs.lemmas.Bool.{and_from, and_parts, eqb-true, or_cases}
use Rattle.std.proofs.lemmas.List.{take-append-drop}
use Rattle.std.proofs.lemmas.Slice.Eq.{bytes_eq-Decides}
use Rattle.droid_frame.specs.declared.hash_value.HashValue.{HashValue}
use Rattle.droid_frame.specs.declared.hash_value.HashValue.TheVariants as values
use Rattle.droid_frame.specs.Paths.{is_plain}
use Rattle.droid_fixity.specs.Digests.{hash_of}
use Rattle.droid_fixity.specs.Grammar.{AreGaps, IsBagLine, IsEscapedLine, IsEscapedTagLine, IsLine, IsMark, IsPlainLine, IsTagLine, MayStand, NamesFile}
use Rattle.droid_fixity.specs.Lines.{bag_entry, behind_gaps, behind_mark, checksum_entry, cut, cut_at_gap, entry_of, escapes_of, file_item, is_blank, is_gap, is_no_gap, meaning, meaning_by_bytes, meaning_by_entry, meaning_by_text, plain_entry, tag_entry, without_backslash, without_star}
use Rattle.droid_fixity.specs.FilePaths.{behind, below, or_all, without_dot}
use Rattle.droid_fixity.specs.Spellings.{◌>>=◌, decoded, spelled, unescaped}
use Rattle.droid_fixity.specs.declared.checksum_lists.form.Escapes.{Escapes}
use Rattle.droid_fixity.specs.declared.checksum_lists.form.Escapes.TheVariants as escapes
use Rattle.droid_fixity.specs.declared.checksum_lists.form.ManifestForm.{ManifestForm}
use Rattle.droid_fixity.specs.declared.checksum_lists.form.ManifestForm.TheVariants.{Bag, Checksums}
use Rattle.droid_fixity.specs.declared.checksum_lists.line_content.Meaning.{Meaning}
use Rattle.droid_fixity.specs.declared.checksum_lists.line_content.Meaning.TheVariants as meanings
use Rattle.droid_fixity.proofs.Cuts.{IsCut, cut_parts, none_pass}
use Rattle.droid_fixity.proofs.GrammarRead.{bag_entry_is, bag_parts_by}
use Rattle.droid_fixity.proofs.TagLines.{HasEntry, HasTag, behind_is, has_entry}
use Rattle.droid_fixity.proofs.Tests.{false_true}
use Rattle.droid_fixity.proofs.WrittenLines.{entry_is, parts_by}

-- ---- what a line was read from

abbrev hash_in : Meaning → HashValue
hash_in meanings.Blank = values.Nothing
hash_in (meanings.File item) = item.hash
hash_in meanings.Malformed = values.Nothing
hash_in meanings.Misplaced = values.Nothing

abbrev path_in : Meaning → List ℕ
path_in meanings.Blank = []
path_in (meanings.File item) = item.path
path_in meanings.Malformed = []
path_in meanings.Misplaced = []

abbrev is_file : Meaning → Bool
is_file meanings.Blank = false
is_file (meanings.File item) = true
is_file meanings.Malformed = false
is_file meanings.Misplaced = false

-- a hash and the bytes of a path
record AreBytes (bytes : Option (List ℕ)) (found hash : HashValue) (path : List ℕ) : Type 0 where
  pub name : List ℕ
  pub is : bytes ≡ Some name
  pub plain : is_plain name ≡ true
  pub same : found ≡ hash
  pub path_is : path ≡ 47 ∷ name

from_test : (test : Bool) (name path : List ℕ) (found hash : HashValue) → is_plain name ≡ test
    → cond test (meanings.File (file_item found (47 ∷ name))) meanings.Misplaced ≡ meanings.File (file_item hash path) → AreBytes (Some name) found hash path
from_test true name path found hash plain is = record { name = name; is = refl; plain = plain; same = ap hash_in is; path_is = sym (ap path_in is) }
from_test false name path found hash plain is = absurd (false_true (ap is_file is))

from_bytes : (bytes : Option (List ℕ)) (path : List ℕ) (found hash : HashValue) → meaning_by_bytes found bytes ≡ meanings.File (file_item hash path) → AreBytes bytes found hash path
from_bytes None path found hash is = absurd (false_true (ap is_file is))
from_bytes (Some name) path found hash is = from_test (is_plain name) name path found hash refl is

record AreText (how : Escapes) (text : Option (List ℕ)) (found hash : HashValue) (path : List ℕ) : Type 0 where
  pub rest : List ℕ
  pub is : text ≡ Some rest
  pub bytes : AreBytes (spelled how rest) found hash path

from_text : (how : Escapes) (text : Option (List ℕ)) (path : List ℕ) (found hash : HashValue) → meaning_by_text found how text ≡ meanings.File (file_item hash path) → AreText how text found hash path
from_text how None path found hash is = absurd (false_true (ap is_file is))
from_text how (Some rest) path found hash is = record { rest = rest; is = refl; bytes = from_bytes (spelled how rest) path found hash is }

record AreParts (form : ManifestForm) (entry : Option (HashValue × Escapes × List ℕ)) (hash : HashValue) (path : List ℕ) : Type 0 where
  pub how : Escapes
  pub text : List ℕ
  pub is : entry ≡ Some (hash, how, text)
  pub rest : List ℕ
  pub inside : below form text ≡ Some rest
  pub name : List ℕ
  pub spells : spelled how rest ≡ Some name
  pub plain : is_plain name ≡ true
  pub path_is : path ≡ 47 ∷ name

from_entry : (form : ManifestForm) (entry : Option (HashValue × Escapes × List ℕ)) (path : List ℕ) (hash : HashValue) → meaning_by_entry form entry ≡ meanings.File (file_item hash path) → AreParts form entry hash path
from_entry form None path hash is = absurd (false_true (ap is_file is))
from_entry form (Some parts) path hash is =
    let text = from_text parts.1 (below form parts.2) path parts.0 hash is in
    record {
      how = parts.1;
      text = parts.2;
      is = ap (λ (value : HashValue). Some (value, parts.1, parts.2)) text.bytes.same;
      rest = text.rest;
      inside = text.is;
      name = text.bytes.name;
      spells = text.bytes.is;
      plain = text.bytes.plain;
      path_is = text.bytes.path_is;
    }

from_line : (blank : Bool) (form : ManifestForm) (entry : Option (HashValue × Escapes × List ℕ)) (path : List ℕ) (hash : HashValue)
    → cond blank meanings.Blank (meaning_by_entry form entry) ≡ meanings.File (file_item hash path) → AreParts form entry hash path
from_line true form entry path hash is = absurd (false_true (ap is_file is))
from_line false form entry path hash is = from_entry form entry path hash is

-- ---- what stands in front of a path

abbrev pub HasDot : List ℕ → Type 0
HasDot text = (dot : List ℕ) × (MayStand (codes "./") dot × (text ≡ dot ++ without_dot text))

front_is : (front text : List ℕ) → bytes_eq (take (length front) text) front ≡ true → text ≡ front ++ drop (length front) text
front_is front text is =
    sym (take-append-drop (length front) text) ∙ ap (λ (f : List ℕ). f ++ drop (length front) text) ((bytes_eq-Decides (take (length front) text) front).0 is)

dot_by : (test : Bool) (text : List ℕ) → bytes_eq (take 2 text) (codes "./") ≡ test
    → (dot : List ℕ) × (MayStand (codes "./") dot × (text ≡ dot ++ or_all text (cond test (Some (drop 2 text)) None)))
dot_by true text is = (codes "./", (inl refl, front_is (codes "./") text is))
dot_by false text is = ([], (inr refl, refl))

has_dot : (text : List ℕ) → HasDot text
has_dot text = dot_by (bytes_eq (take 2 text) (codes "./")) text refl

-- ---- the parts of a line of `md5sum`

record HasMark (text rest : List ℕ) : Type 0 where
  pub mark : ℕ
  pub whole : text ≡ 32 ∷ mark ∷ rest
  pub is : IsMark mark

mark_is : (mark : ℕ) → ((mark == 32) || (mark == 42)) ≡ true → IsMark mark
mark_is mark is =
    elim (or_cases (mark == 32) (mark == 42) is) [
      | inl space ↦ inl (eqb-true mark 32 space)
      | inr star ↦ inr (eqb-true mark 42 star)
    ]

mark_by : (test : Bool) (space mark : ℕ) (text rest : List ℕ) → ((space == 32) && ((mark == 32) || (mark == 42))) ≡ test → cond test (Some text) None ≡ Some rest → HasMark (space ∷ mark ∷ text) rest
mark_by true space mark text rest is some =
    let both = and_parts (space == 32) ((mark == 32) || (mark == 42)) is in
    let same : text ≡ rest = ap (λ (o : Option (List ℕ)). unwrap_or o []) some in
    record {
      mark = mark;
      whole = ap (λ (s : ℕ). s ∷ mark ∷ text) (eqb-true space 32 both.0) ∙ ap (λ (t : List ℕ). 32 ∷ mark ∷ t) same;
      is = mark_is mark both.1;
    }
mark_by false space mark text rest is some = absurd cc

has_mark : (text rest : List ℕ) → behind_mark text ≡ Some rest → HasMark text rest
has_mark [] rest is = absurd cc
has_mark (space ∷ []) rest is = absurd cc
has_mark (space ∷ mark ∷ text) rest is = mark_by ((space == 32) && ((mark == 32) || (mark == 42))) space mark text rest refl is

-- the first step of a chain that gives something
record Follows {A B : Type 0} (first : Option A) (more : A → Option B) (end : B) : Type 0 where
  pub value : A
  pub is : first ≡ Some value
  pub ends : more value ≡ Some end

follows : {A B : Type 0} (first : Option A) (more : A → Option B) (end : B) → (first >>= more) ≡ Some end → Follows first more end
follows None more end is = absurd cc
follows (Some value) more end is = record { value = value; is = refl; ends = is }

abbrev parts_in : Option (HashValue × Escapes × List ℕ) → HashValue × Escapes × List ℕ
parts_in parts = unwrap_or parts (values.Nothing, escapes.Nothing, [])

record HasParts (line : List ℕ) (text : List ℕ) (hash : HashValue) : Type 0 where
  pub digits : List ℕ
  pub mark : ℕ
  pub whole : line ≡ digits ++ 32 ∷ mark ∷ text
  pub digest : hash_of digits ≡ Some hash
  pub is : IsMark mark

-- how the path is spelled comes out as it went in
record HasAll (line text : List ℕ) (hash : HashValue) (found how : Escapes) : Type 0 where
  pub parts : HasParts line text hash
  pub same : found ≡ how

has_parts : (line text : List ℕ) (hash : HashValue) (found how : Escapes) → parts_by found (cut_at_gap line) ≡ Some (hash, how, text) → HasAll line text hash found how
has_parts line text hash found how is =
    let one = follows (cut_at_gap line) (λ two. hash_of two.0 >>= λ value. behind_mark two.1 >>= λ rest. Some (value, found, rest)) (hash, how, text) is in
    let two = follows (hash_of one.value.0) (λ value. behind_mark one.value.1 >>= λ rest. Some (value, found, rest)) (hash, how, text) one.ends in
    let three = follows (behind_mark one.value.1) (λ rest. Some (two.value, found, rest)) (hash, how, text) two.ends in
    let parts = cut_parts is_gap line one.value.0 one.value.1 one.is in
    let hash_same : two.value ≡ hash = ap (λ (o : Option (HashValue × Escapes × List ℕ)). (parts_in o).0) three.ends in
    let text_same : three.value ≡ text = ap (λ (o : Option (HashValue × Escapes × List ℕ)). (parts_in o).2) three.ends in
    let mark = has_mark one.value.1 three.value three.is in
    record {
      parts = record {
        digits = one.value.0;
        mark = mark.mark;
        whole = parts.whole ∙ (ap (λ (r : List ℕ). one.value.0 ++ r) mark.whole ∙ ap (λ (t : List ℕ). one.value.0 ++ 32 ∷ mark.mark ∷ t) text_same);
        digest = two.is ∙ ap Some hash_same;
        is = mark.is;
      };
      same = ap (λ (o : Option (HashValue × Escapes × List ℕ)). (parts_in o).1) three.ends;
    }

-- the two kinds of line, by whether the path is escaped
checksum_by : (line text rest name : List ℕ) (hash : HashValue) → HasParts line text hash → below Checksums text ≡ Some rest → spelled escapes.Nothing rest ≡ Some name
    → IsPlainLine line hash name
checksum_by line text rest name hash parts inside spells =
    let dot = has_dot text in
    let named : without_dot text ≡ name = ap (λ (o : Option (List ℕ)). unwrap_or o []) inside ∙ ap (λ (o : Option (List ℕ)). unwrap_or o []) spells in
    record {
      digits = parts.digits;
      mark = parts.mark;
      dot = dot.0;
      whole = parts.whole ∙ (ap (λ (t : List ℕ). parts.digits ++ 32 ∷ parts.mark ∷ t) dot.1.1 ∙ ap (λ (t : List ℕ). parts.digits ++ 32 ∷ parts.mark ∷ (dot.0 ++ t)) named);
      digest = parts.digest;
      marked = parts.is;
      dotted = dot.1.0;
    }

escaped_by : (line text rest name : List ℕ) (hash : HashValue) → HasParts line text hash → below Checksums text ≡ Some rest → spelled escapes.Backslash rest ≡ Some name
    → IsEscapedLine (92 ∷ line) hash name
escaped_by line text rest name hash parts inside spells =
    let dot = has_dot text in
    let same : without_dot text ≡ rest = ap (λ (o : Option (List ℕ)). unwrap_or o []) inside in
    record {
      digits = parts.digits;
      mark = parts.mark;
      dot = dot.0;
      text = rest;
      whole = ap (λ (l : List ℕ). 92 ∷ l) (parts.whole ∙ (ap (λ (t : List ℕ). parts.digits ++ 32 ∷ parts.mark ∷ t) dot.1.1 ∙ ap (λ (t : List ℕ). parts.digits ++ 32 ∷ parts.mark ∷ (dot.0 ++ t)) same));
      digest = parts.digest;
      marked = parts.is;
      dotted = dot.1.0;
      spells = spells;
    }

plain_by_backslash : (test : Bool) (b : ℕ) (line text rest name : List ℕ) (hash : HashValue) (how : Escapes) → (b == 92) ≡ test
    → parts_by (cond test escapes.Backslash escapes.Nothing) (cut_at_gap (cond test line (b ∷ line))) ≡ Some (hash, how, text) → below Checksums text ≡ Some rest → spelled how rest ≡ Some name
    → IsPlainLine (b ∷ line) hash name ⊎ IsEscapedLine (b ∷ line) hash name
plain_by_backslash true b line text rest name hash how is entry inside spells =
    let all = has_parts line text hash escapes.Backslash how entry in
    let escaped = escaped_by line text rest name hash all.parts inside (ap (λ (h : Escapes). spelled h rest) all.same ∙ spells) in
    inr (subst (λ (k : ℕ). IsEscapedLine (k ∷ line) hash name) (sym (eqb-true b 92 is)) escaped)
plain_by_backslash false b line text rest name hash how is entry inside spells =
    let all = has_parts (b ∷ line) text hash escapes.Nothing how entry in
    inl (checksum_by (b ∷ line) text rest name hash all.parts inside (ap (λ (h : Escapes). spelled h rest) all.same ∙ spells))

plain_line : (line text rest name : List ℕ) (hash : HashValue) (how : Escapes) → plain_entry line ≡ Some (hash, how, text) → below Checksums text ≡ Some rest → spelled how rest ≡ Some name
    → IsPlainLine line hash name ⊎ IsEscapedLine line hash name
plain_line [] text rest name hash how entry inside spells =
    let all = has_parts [] text hash escapes.Nothing how (sym (entry_is []) ∙ entry) in
    inl (checksum_by [] text rest name hash all.parts inside (ap (λ (h : Escapes). spelled h rest) all.same ∙ spells))
plain_line (b ∷ line) text rest name hash how entry inside spells =
    plain_by_backslash (b == 92) b line text rest name hash how refl (sym (entry_is (b ∷ line)) ∙ entry) inside spells

-- the same of the lines of `--tag`
tag_by : (line text rest name : List ℕ) (hash : HashValue) → HasTag line hash text → below Checksums text ≡ Some rest → spelled escapes.Nothing rest ≡ Some name → IsTagLine line hash name
tag_by line text rest name hash parts inside spells =
    let dot = has_dot text in
    let named : without_dot text ≡ name = ap (λ (o : Option (List ℕ)). unwrap_or o []) inside ∙ ap (λ (o : Option (List ℕ)). unwrap_or o []) spells in
    record {
      tag = parts.tag;
      digits = parts.digits;
      dot = dot.0;
      whole = parts.whole ∙ ap (λ (t : List ℕ). parts.tag ++ (t ++ (codes ") = " ++ parts.digits))) (dot.1.1 ∙ ap (λ (t : List ℕ). dot.0 ++ t) named);
      tagged = parts.is;
      dotted = dot.1.0;
    }

escaped_tag_by : (line text rest name : List ℕ) (hash : HashValue) → HasTag line hash text → below Checksums text ≡ Some rest → spelled escapes.Backslash rest ≡ Some name
    → IsEscapedTagLine (92 ∷ line) hash name
escaped_tag_by line text rest name hash parts inside spells =
    let dot = has_dot text in
    let same : without_dot text ≡ rest = ap (λ (o : Option (List ℕ)). unwrap_or o []) inside in
    record {
      tag = parts.tag;
      digits = parts.digits;
      dot = dot.0;
      text = rest;
      whole = ap (λ (l : List ℕ). 92 ∷ l) (parts.whole ∙ ap (λ (t : List ℕ). parts.tag ++ (t ++ (codes ") = " ++ parts.digits))) (dot.1.1 ∙ ap (λ (t : List ℕ). dot.0 ++ t) same));
      tagged = parts.is;
      dotted = dot.1.0;
      spells = spells;
    }

tag_by_backslash : (test : Bool) (b : ℕ) (line text rest name : List ℕ) (hash : HashValue) (how : Escapes) → (b == 92) ≡ test
    → HasTag (cond test line (b ∷ line)) hash text → cond test escapes.Backslash escapes.Nothing ≡ how → below Checksums text ≡ Some rest → spelled how rest ≡ Some name
    → IsTagLine (b ∷ line) hash name ⊎ IsEscapedTagLine (b ∷ line) hash name
tag_by_backslash true b line text rest name hash how is parts same inside spells =
    let escaped = escaped_tag_by line text rest name hash parts inside (ap (λ (h : Escapes). spelled h rest) same ∙ spells) in
    inr (subst (λ (k : ℕ). IsEscapedTagLine (k ∷ line) hash name) (sym (eqb-true b 92 is)) escaped)
tag_by_backslash false b line text rest name hash how is parts same inside spells =
    inl (tag_by (b ∷ line) text rest name hash parts inside (ap (λ (h : Escapes). spelled h rest) same ∙ spells))

tag_line : (line text rest name : List ℕ) (hash : HashValue) (how : Escapes) → HasEntry line hash text how → below Checksums text ≡ Some rest → spelled how rest ≡ Some name
    → IsTagLine line hash name ⊎ IsEscapedTagLine line hash name
tag_line [] text rest name hash how has inside spells = inl (tag_by [] text rest name hash has.parts inside (ap (λ (h : Escapes). spelled h rest) has.same ∙ spells))
tag_line (b ∷ line) text rest name hash how has inside spells = tag_by_backslash (b == 92) b line text rest name hash how refl has.parts has.same inside spells

line_by_entry : (line text rest name : List ℕ) (hash : HashValue) (how : Escapes) (plain : Option (HashValue × Escapes × List ℕ)) → plain_entry line ≡ plain
    → option_or plain (tag_entry line) ≡ Some (hash, how, text) → below Checksums text ≡ Some rest → spelled how rest ≡ Some name → IsLine Checksums line hash name
line_by_entry line text rest name hash how (Some parts) plain entry inside spells = inl (plain_line line text rest name hash how (plain ∙ entry) inside spells)
line_by_entry line text rest name hash how None plain entry inside spells = inr (tag_line line text rest name hash how (has_entry line text hash how entry) inside spells)

checksum_line : (line text rest name : List ℕ) (hash : HashValue) (how : Escapes) → checksum_entry line ≡ Some (hash, how, text) → below Checksums text ≡ Some rest → spelled how rest ≡ Some name
    → IsLine Checksums line hash name
checksum_line line text rest name hash how entry inside spells = line_by_entry line text rest name hash how (plain_entry line) refl entry inside spells

-- ---- the parts of a line of a bag

-- a star may stand in front
star_by : (test : Bool) (b : ℕ) (text : List ℕ) → (b == 42) ≡ test → (star : List ℕ) × (MayStand (codes "*") star × (b ∷ text ≡ star ++ cond test text (b ∷ text)))
star_by true b text is = (codes "*", (inl refl, ap (λ (k : ℕ). k ∷ text) (eqb-true b 42 is)))
star_by false b text is = ([], (inr refl, refl))

has_star : (text : List ℕ) → (star : List ℕ) × (MayStand (codes "*") star × (text ≡ star ++ without_star text))
has_star [] = ([], (inr refl, refl))
has_star (b ∷ text) = star_by (b == 42) b text refl

gap_again : (gap : Bool) → not (not gap) ≡ true → gap ≡ true
gap_again true is = refl
gap_again false is = is

all_gaps : (text : List ℕ) → none_pass is_no_gap text ≡ true → list_all is_gap text ≡ true
all_gaps [] none = refl
all_gaps (b ∷ text) none =
    let both = and_parts (not (is_no_gap b)) (none_pass is_no_gap text) none in
    and_from (is_gap b) (list_all is_gap text) (gap_again (is_gap b) both.0) (all_gaps text both.1)

-- what stands behind digits begins with a gap, so the gaps in front are some
are_gaps : (front rest more : List ℕ) (gap first : ℕ) (after : List ℕ) → front ++ rest ≡ gap ∷ more → is_gap gap ≡ true → rest ≡ first ∷ after → is_no_gap first ≡ true → list_all is_gap front ≡ true → AreGaps front
are_gaps [] rest more gap first after whole is starts no_gap all =
    let heads : first ∷ after ≡ gap ∷ more = sym starts ∙ whole in
    let same : first ≡ gap = cc in
    let gap_first : is_gap first ≡ true = ap is_gap same ∙ is in
    absurd (false_true (ap not (sym gap_first) ∙ no_gap))
are_gaps (b ∷ front) rest more gap first after whole is starts no_gap all =
    let both = and_parts (is_gap b) (list_all is_gap front) all in
    record { gap = b; more = front; whole = refl; first = both.0; rest = both.1 }

bag_line : (line text rest name : List ℕ) (hash : HashValue) (how : Escapes) → bag_entry line ≡ Some (hash, how, text) → below Bag text ≡ Some rest → spelled how rest ≡ Some name → IsBagLine line hash name
bag_line line text rest name hash how entry inside spells =
    let one = follows (cut_at_gap line) (λ two. hash_of two.0 >>= λ value. behind_gaps two.1 >>= λ t. Some (value, escapes.Percent, t)) (hash, how, text) (sym (bag_entry_is line) ∙ entry) in
    let two = follows (hash_of one.value.0) (λ value. behind_gaps one.value.1 >>= λ t. Some (value, escapes.Percent, t)) (hash, how, text) one.ends in
    let three = follows (behind_gaps one.value.1) (λ t. Some (two.value, escapes.Percent, t)) (hash, how, text) two.ends in
    let four = follows (cut one.value.1 (position is_no_gap one.value.1)) (λ parts. Some (without_star parts.1)) three.value three.is in
    let parts = cut_parts is_gap line one.value.0 one.value.1 one.is in
    let inner = cut_parts is_no_gap one.value.1 four.value.0 four.value.1 four.is in
    let hash_same : two.value ≡ hash = ap (λ (o : Option (HashValue × Escapes × List ℕ)). (parts_in o).0) three.ends in
    let text_same : without_star four.value.1 ≡ text = ap (λ (o : Option (List ℕ)). unwrap_or o []) four.ends ∙ ap (λ (o : Option (HashValue × Escapes × List ℕ)). (parts_in o).2) three.ends in
    let how_same : escapes.Percent ≡ how = ap (λ (o : Option (HashValue × Escapes × List ℕ)). (parts_in o).1) three.ends in
    let star = has_star four.value.1 in
    let dot = has_dot text in
    let folder : without_dot text ≡ codes "data/" ++ rest = behind_is (codes "data/") (without_dot text) rest inside in
    let path : text ≡ dot.0 ++ (codes "data/" ++ rest) = dot.1.1 ∙ ap (λ (t : List ℕ). dot.0 ++ t) folder in
    let tail : four.value.1 ≡ star.0 ++ (dot.0 ++ (codes "data/" ++ rest)) = star.1.1 ∙ ap (λ (t : List ℕ). star.0 ++ t) (text_same ∙ path) in
    record {
      digits = one.value.0;
      gaps = four.value.0;
      star = star.0;
      dot = dot.0;
      text = rest;
      whole = parts.whole ∙ ap (λ (r : List ℕ). one.value.0 ++ r) (inner.whole ∙ ap (λ (t : List ℕ). four.value.0 ++ t) tail);
      digest = two.is ∙ ap Some hash_same;
      gapped = are_gaps four.value.0 four.value.1 parts.more parts.first inner.first inner.more (sym inner.whole ∙ parts.starts) parts.passes inner.starts inner.passes (all_gaps four.value.0 inner.none);
      starred = star.1.0;
      dotted = dot.1.0;
      spells = ap (λ (o : Option (List ℕ)). unwrap_or o []) (ap (λ (h : Escapes). spelled h rest) how_same ∙ spells);
    }

-- ---- both forms

by_form : (form : ManifestForm) (line text rest name : List ℕ) (hash : HashValue) (how : Escapes) → entry_of form line ≡ Some (hash, how, text) → below form text ≡ Some rest → spelled how rest ≡ Some name
    → IsLine form line hash name
by_form Checksums line text rest name hash how entry inside spells = checksum_line line text rest name hash how entry inside spells
by_form Bag line text rest name hash how entry inside spells = bag_line line text rest name hash how entry inside spells

pub read_named : (form : ManifestForm) (line : List ℕ) (hash : HashValue) (path : List ℕ) → meaning form line ≡ meanings.File (file_item hash path) → NamesFile form line hash path
read_named form line hash path is =
    let parts = from_line (is_blank line) form (entry_of form line) path hash is in
    record {
      name = parts.name;
      is_line = by_form form line parts.text parts.rest parts.name hash parts.how parts.is parts.inside parts.spells;
      plain = parts.plain;
      path_is = parts.path_is;
    }
