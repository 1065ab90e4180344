-- Rows whose fields all stand between double quotes, by what `csv` reads of them.
use Rattle.std.proofs.Common.{Bor, ◌≡◌, ◌∙◌, ◌<◌, ◌+◌, ℕ, zero, suc, ◌==◌, true, false, not, List, [], ◌∷◌, ◌++◌, ◌≤◌, set, append-nil, append_assoc, length, take, drop, get_or, Some, refl, sym, ap, subst, arith}
use Rattle.std.specs.List.{list_all, position}
use Rattle.std.proofs.lemmas.Bool.{and_from, and_parts, eqb-true, not-true}
use Rattle.std.proofs.lemmas.List.{drop_more, length-append, length-set, map-append, take-append-drop, take_all, take_more_set}
use Rattle.std.proofs.lemmas.List.Quantifiers.{position-Some}
use Rattle.csv.specs.Machine.{next_record}
use Rattle.csv.specs.Reading.{default_config, strip_bom}
use Rattle.csv.specs.declared.parser.State.TheVariants as st
use Rattle.csv.specs.Records.{field_at}
use Rattle.droid_export.specs.PlainRows.{IsQuoted, fields_in, is_no_quote, is_quote}
use Rattle.droid_export.specs.Table.{field_or}

-- ---- what `csv` reads

-- the bytes of a field between double quotes, and the one that ends it
quoted_run : (fields : List (List ℕ)) (field text rest : List ℕ) → list_all is_no_quote text ≡ true
    → next_record default_config st.InQuoted fields field (text ++ 34 ∷ rest) ≡ next_record default_config st.AfterQuote fields (field ++ text) rest
unfolding next_record
quoted_run fields field [] rest plain = rw (append-nil field) refl
quoted_run fields field (b ∷ text) rest plain =
    let both = and_parts (is_no_quote b) (list_all is_no_quote text) plain in
    rw (not-true (b == 34) both.0) (quoted_run fields (field ++ (b ∷ [])) text rest both.1
    ∙ ap (λ (f : List ℕ). next_record default_config st.AfterQuote fields f rest) (append_assoc field (b ∷ []) text))

-- a field is read whole, and a comma comes next
pub one_more : (fields : List (List ℕ)) (text field rest inner : List ℕ) → IsQuoted 44 text field rest → text ≡ 34 ∷ inner
    → next_record default_config st.InQuoted fields [] inner ≡ next_record default_config st.StartField (fields ++ (field ∷ [])) [] rest
unfolding next_record
one_more fields text field rest inner is begins =
    let same : inner ≡ field ++ 34 ∷ 44 ∷ rest = ap (λ (t : List ℕ). drop 1 t) (sym begins ∙ is.whole) in
    rw same (quoted_run fields [] field (44 ∷ rest) is.plain)

-- the last one, and a line feed comes next
pub last_one : (fields : List (List ℕ)) (text field rest inner : List ℕ) → IsQuoted 10 text field rest → text ≡ 34 ∷ inner
    → next_record default_config st.InQuoted fields [] inner ≡ Some (fields ++ (field ∷ []), st.StartRecord, rest)
unfolding next_record
last_one fields text field rest inner is begins =
    let same : inner ≡ field ++ 34 ∷ 10 ∷ rest = ap (λ (t : List ℕ). drop 1 t) (sym begins ∙ is.whole) in
    rw same (quoted_run fields [] field (10 ∷ rest) is.plain)

-- a text that begins with a double quote has no byte order mark
pub unmarked : (inner : List ℕ) → strip_bom (34 ∷ inner) ≡ 34 ∷ inner
unfolding strip_bom
unmarked [] = refl
unmarked (b ∷ []) = refl
unmarked (b ∷ c ∷ inner) = refl

-- ---- where a field ends

none_before : (text : List ℕ) (n : ℕ) → ((k : ℕ) → k < n → is_quote (get_or text k 0) ≡ false) → list_all is_no_quote (take n text) ≡ true
none_before text zero none = refl
none_before [] (suc n) none = refl
none_before (b ∷ text) (suc n) none =
    and_from (is_no_quote b) (list_all is_no_quote (take n text)) (ap not (none 0 (omega arith)))
    (none_before text n (λ k below. none (suc k) (omega (arith, below))))

pub quoted_at : (mark : ℕ) (text inner field back behind rest : List ℕ) (first other found n : ℕ) → text ≡ first ∷ inner → first ≡ 34 → position is_quote inner ≡ Some n
    → field ≡ take n inner → back ≡ drop n inner → back ≡ other ∷ behind → behind ≡ found ∷ rest → found ≡ mark → IsQuoted mark text field rest
quoted_at mark text inner field back behind rest first other found n begins quote is front from ends next mark_is =
    let at = position-Some is_quote inner n 0 is in
    let starts : drop n inner ≡ get_or inner n 0 ∷ drop (n + 1) inner = drop_more inner n 0 at.0 in
    let more : drop (n + 1) inner ≡ mark ∷ rest = ap (λ (t : List ℕ). drop 1 t) (sym starts ∙ (sym from ∙ ends)) ∙ (next ∙ ap (λ (b : ℕ). b ∷ rest) mark_is) in
    let whole : inner ≡ take n inner ++ 34 ∷ mark ∷ rest = sym (take-append-drop n inner) ∙ ap (λ (t : List ℕ). take n inner ++ t) (starts ∙ rw (eqb-true (get_or inner n 0) 34 at.1, more) refl) in
    record {
      whole = begins ∙ rw (quote, front) (ap (λ (t : List ℕ). 34 ∷ t) whole);
      plain = rw front (none_before inner n at.2);
    }

-- ---- the fields of a row

pub count_is : (fields : List (Bor (List ℕ))) → length (fields_in fields) ≡ length fields
count_is [] = refl
count_is (field ∷ fields) = ap (λ (n : ℕ). suc n) (count_is fields)

pub field_found : (fields : List (Bor (List ℕ))) (place : ℕ) (field d : Bor (List ℕ)) → place < length fields → field ≡ get_or fields place d → field.now ≡ field_or (fields_in fields) place
unfolding field_at
field_found [] place field d below is = absurd (omega (arith, below))
field_found (f ∷ fields) zero field d below is = ap (λ (it : Bor (List ℕ)). it.now) is
field_found (f ∷ fields) (suc place) field d below is = field_found fields place field d (omega (arith, below)) is

pub no_field : (fields : List (Bor (List ℕ))) (place : ℕ) → length fields ≤ place → [] ≡ field_or (fields_in fields) place
unfolding field_at
no_field [] place past = refl
no_field (f ∷ fields) zero past = absurd (omega (arith, past))
no_field (f ∷ fields) (suc place) past = no_field fields place (omega (arith, past))

-- what comes after a field is shorter
pub shorter_after : (mark : ℕ) (text field rest : List ℕ) → IsQuoted mark text field rest → length rest < length text
shorter_after mark text field rest is =
    let len = ap length is.whole in
    let sum = length-append field (34 ∷ mark ∷ rest) in
    omega (arith, len, sum)

-- ---- a row, field by field

-- what stands in front of the rest is read as the first n fields
pub record Reads (text : List ℕ) (fields : List (Bor (List ℕ))) (n : ℕ) (rest : List ℕ) : Type 0 where
  pub within : length rest ≤ length text
  pub first : n ≡ 0 → rest ≡ text
  pub unmarked : 0 < n → strip_bom text ≡ text
  pub next : (inner : List ℕ) → rest ≡ 34 ∷ inner
      → next_record default_config st.StartRecord [] [] text ≡ next_record default_config st.InQuoted (fields_in (take n fields)) [] inner

pub reads_none : (text : List ℕ) (fields : List (Bor (List ℕ))) → Reads text fields 0 text
unfolding next_record
reads_none text fields = record {
  within = omega arith;
  first = λ none. refl;
  unmarked = λ some. absurd (omega (arith, some));
  next = λ inner begins. rw begins refl;
}

begins_at : (mark : ℕ) (text field rest : List ℕ) → IsQuoted mark text field rest → (inner : List ℕ) × (text ≡ 34 ∷ inner)
begins_at mark text field rest is = (field ++ 34 ∷ mark ∷ rest, is.whole)

no_mark_in : (text rest inner : List ℕ) (n : ℕ) → (n ≡ 0 → rest ≡ text) → (0 < n → strip_bom text ≡ text) → rest ≡ 34 ∷ inner → strip_bom text ≡ text
no_mark_in text rest inner zero first more begins =
    subst (λ (t : List ℕ). strip_bom t ≡ t) (sym begins ∙ first refl) (unmarked inner)
no_mark_in text rest inner (suc n) first more begins = more (omega arith)

fields_more : (fields : List (Bor (List ℕ))) (n : ℕ) (field : Bor (List ℕ)) → n < length fields → fields_in (take n fields) ++ field.now ∷ [] ≡ fields_in (take (n + 1) (set fields n field))
fields_more fields n field below =
    sym (ap fields_in (take_more_set fields n field below) ∙ map-append (λ (f : Bor (List ℕ)). f.now) (take n fields) (field ∷ []))

pub reads_more : (text rest behind : List ℕ) (fields : List (Bor (List ℕ))) (n : ℕ) (field : Bor (List ℕ)) → n < length fields → IsQuoted 44 rest field.now behind
    → Reads text fields n rest → Reads text (set fields n field) (n + 1) behind
unfolding next_record
reads_more text rest behind fields n field below is reads =
    let at = begins_at 44 rest field.now behind is in
    let less = shorter_after 44 rest field.now behind is in
    let within = reads.within in
    record {
      within = omega (arith, less, within);
      first = λ none. absurd (omega (arith, none));
      unmarked = λ some. no_mark_in text rest at.0 n reads.first reads.unmarked at.1;
      next = λ inner begins.
          reads.next at.0 at.1
          ∙ (one_more (fields_in (take n fields)) rest field.now behind at.0 is at.1
          ∙ rw (begins, fields_more fields n field below) refl);
    }

pub reads_last : (text rest behind : List ℕ) (fields : List (Bor (List ℕ))) (field : Bor (List ℕ)) → length fields ≡ 18 → IsQuoted 10 rest field.now behind
    → Reads text fields 17 rest → next_record default_config st.StartRecord [] [] text ≡ Some (fields_in (set fields 17 field), st.StartRecord, behind)
reads_last text rest behind fields field eighteen is reads =
    let at = begins_at 10 rest field.now behind is in
    let len = length-set fields 17 field in
    let all : take 18 (set fields 17 field) ≡ set fields 17 field = take_all 18 (set fields 17 field) (omega (arith, len, eighteen)) in
    reads.next at.0 at.1
    ∙ (last_one (fields_in (take 17 fields)) rest field.now behind at.0 is at.1
    ∙ ap (λ (f : List (List ℕ)). Some (f, st.StartRecord, behind)) (fields_more fields 17 field (omega (arith, eighteen)) ∙ ap fields_in all))

pub reads_shorter : (text rest behind : List ℕ) (fields : List (Bor (List ℕ))) (field : List ℕ) → IsQuoted 10 rest field behind → Reads text fields 17 rest → length behind < length text
reads_shorter text rest behind fields field is reads =
    let less = shorter_after 10 rest field behind is in
    let within = reads.within in
    omega (arith, less, within)
