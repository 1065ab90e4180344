-- What is written for subsequences that were read is read as their patterns.
use Rattle.std.proofs.Common.{◌≡◌, ℕ, zero, suc, ◌+◌, ◌<◌, ◌≤◌, Bool, true, false, List, [], ◌∷◌, ◌++◌, length, take, get_or, refl, sym, ap, ◌∙◌, subst, append_assoc}
use Rattle.std.specs.Prelude.{◌==◌, ◌&&◌, ◌||◌, not, decimal, codes, if◌then◌else◌}
use Rattle.std.specs.List.{AllByRecursion, list_all}
use Rattle.std.proofs.lemmas.Bool.{and_parts, false≢true}
use Rattle.std.proofs.lemmas.List.{take_more}
use Rattle.droid_pattern.specs.Patterns.{Element, Byte, AnyByte, Gap, OpenGap, Range, Except, Choice, has_byte, is_gap}
use Rattle.droid_signature_file.specs.Records.{SubSequenceRecord}
use Rattle.droid_signature_file.specs.declared.subsequence.Fragment.{Fragment}
use Rattle.droid_signature_file.specs.Expansions.{joined, patterns_of}
use Rattle.droid_signature_file.specs.Pieces.{gap_patterns}
use Rattle.droid_signature_pattern.specs.Texts.{AreShort}
use Rattle.droid_signature_pattern.specs.Written.{AreAllWritable, AreWritable, written, written_all, written_each}
use Rattle.droid_signature_pattern.proofs.Exits.{all_append}
use Rattle.droid_signature_pattern.proofs.Spelled.{all_are}
use Rattle.droid_signature_pattern.proofs.Writable.{joined_can, terms_can}
use Rattle.droid_signature_pattern.specs.Choices.{AreReadAs}
use Rattle.droid_signature_pattern.specs.Ends.{ends_in_byte}
use Rattle.droid_signature_pattern.specs.Parts.{AreReadFragments, AreReadParts, IsReadFragment, IsReadPart, IsReadText, ReadFragment, ReadPart, further_levels, joined_all, left_levels, level, outermost_of, part_levels, right_levels, row_levels, row_patterns, side_patterns}
use Rattle.droid_signature_pattern.specs.declared.part_texts.Way.{Way}
use Rattle.droid_signature_pattern.specs.declared.part_texts.Way.TheVariants as way

-- what ends in a byte still does behind something
ends_behind : (front text : List ℕ) → ends_in_byte (front ++ text) ≡ true → (text ≡ [] → ends_in_byte front ≡ true) × ((c : ℕ) (rest : List ℕ) → text ≡ c ∷ rest → ends_in_byte text ≡ true)
ends_behind [] text e = (λ none. absurd (false≢true (ap ends_in_byte (sym none) ∙ e)), λ c rest is. e)
ends_behind (x ∷ []) [] e = (λ none. e, λ c rest is. absurd cc)
ends_behind (x ∷ []) (c ∷ rest) e = (λ none. absurd cc, λ c' rest' is. e)
ends_behind (x ∷ y ∷ front) text e = ends_behind (y ∷ front) text e

-- a text that ends in a mark that is no digit
ends_as : (front : List ℕ) (c : ℕ) → ends_in_byte (front ++ c ∷ []) ≡ (not (c == 125) && not (c == 42))
ends_as [] c = refl
ends_as (x ∷ []) c = refl
ends_as (x ∷ y ∷ front) c = ends_as (y ∷ front) c

gap_ends : (t : Bool) (n m : ℕ) → ends_in_byte (if t then 123 ∷ (decimal n ++ 125 ∷ []) else 123 ∷ (decimal n ++ (45 ∷ (decimal m ++ 125 ∷ [])))) ≡ false
gap_ends true n m = ends_as (123 ∷ decimal n) 125
gap_ends false n m = ap ends_in_byte (ap (λ l. 123 ∷ l) (sym (append_assoc (decimal n) (45 ∷ decimal m) (125 ∷ [])))) ∙ ends_as (123 ∷ (decimal n ++ (45 ∷ decimal m))) 125

open_ends : (t : Bool) (n : ℕ) → ends_in_byte (if t then 42 ∷ [] else 123 ∷ (decimal n ++ codes "-*}")) ≡ false
open_ends true n = refl
open_ends false n = ap ends_in_byte (ap (λ l. 123 ∷ l) (sym (append_assoc (decimal n) (45 ∷ 42 ∷ []) (125 ∷ [])))) ∙ ends_as (123 ∷ (decimal n ++ (45 ∷ 42 ∷ []))) 125

gap_ends_so : (e : Element) → is_gap e ≡ true → ends_in_byte (written e) ≡ false
gap_ends_so (Byte b) is = absurd (false≢true is)
gap_ends_so AnyByte is = absurd (false≢true is)
gap_ends_so (Gap n m) is = gap_ends (n == m) n m
gap_ends_so (OpenGap n) is = open_ends (n == 0) n
gap_ends_so (Range low high) is = absurd (false≢true is)
gap_ends_so (Except b) is = absurd (false≢true is)
gap_ends_so (Choice runs) is = absurd (false≢true is)

-- a pattern whose text ends in a byte has one
has_where : (t : Bool) (e : Element) (es : List Element) → is_gap e ≡ t → ends_in_byte (written e ++ written_all es) ≡ true → ((ends_in_byte (written_all es) ≡ true) → has_byte es ≡ true)
    → (not t || has_byte es) ≡ true
has_where false e es is ends more = refl
has_where true e es is ends more = go (written_all es) refl (ends_behind (written e) (written_all es) ends)
  where
    go : (text : List ℕ) → written_all es ≡ text → (written_all es ≡ [] → ends_in_byte (written e) ≡ true) × ((c : ℕ) (rest : List ℕ) → written_all es ≡ c ∷ rest → ends_in_byte (written_all es) ≡ true) → has_byte es ≡ true
    go [] none h = absurd (false≢true (sym (gap_ends_so e is) ∙ h.0 none))
    go (c ∷ rest) some h = more (h.1 c rest some)

has_some : (es : List Element) → ends_in_byte (written_all es) ≡ true → has_byte es ≡ true
has_some [] ends = absurd (false≢true ends)
has_some (e ∷ es) ends = has_where (is_gap e) e es refl ends (λ h. has_some es h)

pub read_as : (patterns : List (List Element)) → AreAllWritable patterns → AreShort (written_each patterns) → list_all ends_in_byte (written_each patterns) ≡ true → AreReadAs (written_each patterns) patterns
read_as [] can short ends = tt
read_as (es ∷ patterns) (can, cans) (short, shorts) ends =
    let both = and_parts (ends_in_byte (written_all es)) (list_all ends_in_byte (written_each patterns)) ends in
    (record { short = short; elements = all_are es can; has_byte = has_some es both.0 }, read_as patterns cans shorts both.1)

-- what was read can be written
text_can : (text : List ℕ) (it : ReadFragment) → IsReadText text it.terms → AreAllWritable (patterns_of it.terms)
text_can text it is = terms_can text it.terms is.spelled

gap_where : (t : Bool) (least most : ℕ) → least ≤ most → most ≤ 65535 → AreAllWritable (if t then [] ∷ [] else (Gap least most ∷ []) ∷ [])
gap_where true least most ordered small = (tt, tt)
gap_where false least most ordered small = (((ordered, small), tt), tt)

side_can : (from : Way) (fragment : Fragment) (it : ReadFragment) → IsReadFragment fragment it → AreAllWritable (side_patterns from it)
side_can way.Left fragment it is =
    joined_can (patterns_of it.terms) (joined (gap_patterns it.least it.most) ([] ∷ [])) (text_can fragment.text it is.text)
    (joined_can (gap_patterns it.least it.most) ([] ∷ []) (gap_where (it.most == 0) it.least it.most is.side.ordered is.small) (tt, tt))
side_can way.Right fragment it is =
    joined_can (gap_patterns it.least it.most) (joined (patterns_of it.terms) ([] ∷ [])) (gap_where (it.most == 0) it.least it.most is.side.ordered is.small)
    (joined_can (patterns_of it.terms) ([] ∷ []) (text_can fragment.text it is.text) (tt, tt))

chosen_can : (t : Bool) (ps : List (List Element)) → AreAllWritable ps → AreAllWritable (if t then ps else [])
chosen_can true ps can = can
chosen_can false ps can = tt

level_can : (from : Way) (position : ℕ) (fragments : List Fragment) (its : List ReadFragment) → AreReadFragments fragments its → AreAllWritable (level from position its)
level_can from position [] [] are = tt
level_can from position [] (it ∷ its) are = absurd are
level_can from position (fragment ∷ fragments) [] are = absurd are
level_can from position (fragment ∷ fragments) (it ∷ its) (is, are) =
    all_append AreWritable (if it.position == position then side_patterns from it else []) (level from position its)
    (chosen_can (it.position == position) (side_patterns from it) (side_can from fragment it is)) (level_can from position fragments its are)

abbrev AllLevelsCan : List (List (List Element)) → Type 0
AllLevelsCan levels = AllByRecursion AreAllWritable levels

levels_can : (levels : List (List (List Element))) → AllLevelsCan levels → AreAllWritable (joined_all levels)
levels_can [] can = (tt, tt)
levels_can (l ∷ levels) (here, more) = joined_can l (joined_all levels) here (levels_can levels more)

left_can : (fragments : List Fragment) (its : List ReadFragment) → AreReadFragments fragments its → (position : ℕ) → AllLevelsCan (left_levels its position)
left_can fragments its are zero = tt
left_can fragments its are (suc inner) = (level_can way.Left (suc inner) fragments its are, left_can fragments its are inner)

right_can : (fragments : List Fragment) (its : List ReadFragment) → AreReadFragments fragments its → (position : ℕ) → AllLevelsCan (right_levels its position)
right_can fragments its are zero = tt
right_can fragments its are (suc inner) =
    all_append AreAllWritable (right_levels its inner) (level way.Right (suc inner) its ∷ []) (right_can fragments its are inner) (level_can way.Right (suc inner) fragments its are, tt)

part_can : (part : SubSequenceRecord) (read : ReadPart) → IsReadPart part read → AllLevelsCan (part_levels read)
part_can part read is =
    all_append AreAllWritable (left_levels read.left (outermost_of read.left)) (patterns_of read.terms ∷ right_levels read.right (outermost_of read.right))
    (left_can part.left read.left is.left (outermost_of read.left)) (terms_can part.text read.terms is.text.spelled, right_can part.right read.right is.right (outermost_of read.right))

further_can : (parts : List SubSequenceRecord) (reads : List ReadPart) → AreReadParts parts reads → AllLevelsCan (further_levels reads)
further_can [] [] are = tt
further_can [] (read ∷ reads) are = absurd are
further_can (part ∷ parts) [] are = absurd are
further_can (part ∷ parts) (read ∷ reads) (is, are) = (((is.small, tt), tt), all_append AreAllWritable (part_levels read) (further_levels reads) (part_can part read is) (further_can parts reads are))

pub row_can : (part : SubSequenceRecord) (parts : List SubSequenceRecord) (first : ReadPart) (rest : List ReadPart) → IsReadPart part first → AreReadParts parts rest → AreAllWritable (row_patterns first rest)
row_can part parts first rest is are = levels_can (row_levels first rest) (all_append AreAllWritable (part_levels first) (further_levels rest) (part_can part first is) (further_can parts rest are))

-- one more that is read
pub fragments_push : (fragments : List Fragment) (its : List ReadFragment) (fragment : Fragment) (it : ReadFragment) → AreReadFragments fragments its → IsReadFragment fragment it
    → AreReadFragments (fragments ++ fragment ∷ []) (its ++ it ∷ [])
fragments_push [] [] fragment it are is = (is, tt)
fragments_push [] (x ∷ its) fragment it are is = absurd are
fragments_push (f ∷ fragments) [] fragment it are is = absurd are
fragments_push (f ∷ fragments) (x ∷ its) fragment it (here, are) is = (here, fragments_push fragments its fragment it are is)

pub fragments_more : (fragments : List Fragment) (i : ℕ) (fragment : Fragment) (its new : List ReadFragment) (it : ReadFragment) → i < length fragments → fragment ≡ get_or fragments i fragment
    → AreReadFragments (take i fragments) its → IsReadFragment fragment it → new ≡ its ++ it ∷ [] → AreReadFragments (take (i + 1) fragments) new
fragments_more fragments i fragment its new it below is are one grown =
    let P : List ReadFragment → Type 0 = λ l. AreReadFragments (take (i + 1) fragments) l in
    let Q : List Fragment → Type 0 = λ l. AreReadFragments l (its ++ it ∷ []) in
    subst P (sym grown) (subst Q (ap (λ y. take i fragments ++ y ∷ []) is ∙ sym (take_more fragments i fragment below)) (fragments_push (take i fragments) its fragment it are one))

parts_push : (parts : List SubSequenceRecord) (reads : List ReadPart) (part : SubSequenceRecord) (read : ReadPart) → AreReadParts parts reads → IsReadPart part read
    → AreReadParts (parts ++ part ∷ []) (reads ++ read ∷ [])
parts_push [] [] part read are is = (is, tt)
parts_push [] (x ∷ reads) part read are is = absurd are
parts_push (p ∷ parts) [] part read are is = absurd are
parts_push (p ∷ parts) (x ∷ reads) part read (here, are) is = (here, parts_push parts reads part read are is)

pub parts_more : (parts : List SubSequenceRecord) (i : ℕ) (part : SubSequenceRecord) (reads new : List ReadPart) (read : ReadPart) → i < length parts → part ≡ get_or parts i part
    → AreReadParts (take i parts) reads → IsReadPart part read → new ≡ reads ++ read ∷ [] → AreReadParts (take (i + 1) parts) new
parts_more parts i part reads new read below is are one grown =
    let P : List ReadPart → Type 0 = λ l. AreReadParts (take (i + 1) parts) l in
    let Q : List SubSequenceRecord → Type 0 = λ l. AreReadParts l (reads ++ read ∷ []) in
    subst P (sym grown) (subst Q (ap (λ y. take i parts ++ y ∷ []) is ∙ sym (take_more parts i part below)) (parts_push (take i parts) reads part read are one))
