-- A text begins with at most one row, or breaks in at most one column.
use Rattle.std.proofs.Common.{◌≡◌, ◌∙◌, ◌<◌, ◌+◌, inl, inr, ℕ, suc, zero, List, [], ◌∷◌, ◌++◌, append_assoc, length, Option, Some, None, Result, Ok, Err, refl, sym, ap, subst, arith}
use Rattle.droid_export.specs.Csv.{joined, line, quoted}
use Rattle.droid_lists.specs.ProfileTexts.{IsWrongRow}
use Rattle.droid_lists.specs.RowReading.{Field, Line, fields_from, first_field, first_row, mark_behind, with_fields}
use Rattle.droid_lists.specs.RowTests.{Row}
use Rattle.droid_lists.specs.Spelling.{Breaks, Spells, front_line}
use Rattle.droid_lists.proofs.FieldSpelling.{is_quoted, quoted_read}
use Rattle.droid_lists.proofs.RowSpelling.{mark_apart, mark_comma}

-- ---- what is spelled is read

-- one field in front of what is left
field_step : (count column mark : ℕ) (text value rest : List ℕ) (read : Result Line ℕ) → mark_behind column ≡ mark → text ≡ quoted value ++ mark ∷ rest
    → fields_from count (column + 1) rest ≡ read → fields_from (suc count) column text ≡ with_fields (value ∷ []) read
unfolding fields_from
field_step count column mark text value rest read is spelled more =
    let found : first_field (mark_behind column) text ≡ Some (record { value = value; rest = rest }) =
    ap (λ (t : List ℕ). first_field (mark_behind column) t) (spelled ∙ ap (λ (m : ℕ). quoted value ++ m ∷ rest) (sym is)) ∙ quoted_read (mark_behind column) value rest (mark_apart column) in
    rw (found, more) refl

last_text : (value rest : List ℕ) → line (value ∷ []) ++ rest ≡ quoted value ++ 10 ∷ rest
unfolding line joined
last_text value rest = append_assoc (quoted value) (10 ∷ []) rest

more_text : (value next rest : List ℕ) (fields : Row) → line (value ∷ next ∷ fields) ++ rest ≡ quoted value ++ 44 ∷ (line (next ∷ fields) ++ rest)
unfolding line joined
more_text value next rest fields =
    append_assoc (quoted value ++ 44 ∷ joined (next ∷ fields)) (10 ∷ []) rest
    ∙ (append_assoc (quoted value) (44 ∷ joined (next ∷ fields)) (10 ∷ rest)
    ∙ ap (λ (t : List ℕ). quoted value ++ 44 ∷ t) (sym (append_assoc (joined (next ∷ fields)) (10 ∷ []) rest)))

nothing_left : (column : ℕ) (text : List ℕ) → fields_from zero column text ≡ Ok (record { fields = []; rest = text })
unfolding fields_from
nothing_left column text = refl

fields_read : (count column : ℕ) (fields : Row) (rest : List ℕ) → suc count + column ≡ 18 → length fields ≡ suc count
    → fields_from (suc count) column (line fields ++ rest) ≡ Ok (record { fields = fields; rest = rest })
fields_read count column [] rest sum len = absurd (omega (arith, len))
fields_read zero column (value ∷ []) rest sum len =
    let at : column ≡ 17 = omega (arith, sum) in
    let mark : mark_behind column ≡ 10 = rw at refl in
    field_step zero column 10 (line (value ∷ []) ++ rest) value rest (Ok (record { fields = []; rest = rest })) mark (last_text value rest) (nothing_left (column + 1) rest)
fields_read zero column (value ∷ next ∷ fields) rest sum len = absurd (omega (arith, len))
fields_read (suc count) column (value ∷ []) rest sum len = absurd (omega (arith, len))
fields_read (suc count) column (value ∷ next ∷ fields) rest sum len =
    field_step (suc count) column 44 (line (value ∷ next ∷ fields) ++ rest) value (line (next ∷ fields) ++ rest) (Ok (record { fields = next ∷ fields; rest = rest }))
    (mark_comma column (omega (arith, sum))) (more_text value next rest fields) (fields_read count (column + 1) (next ∷ fields) rest (omega (arith, sum)) (omega (arith, len)))

-- a spelled row is what is read
pub spelled_read : (text : List ℕ) (row : Row) (rest : List ℕ) → Spells text row rest → first_row text ≡ Ok (record { fields = row; rest = rest })
spelled_read text row rest is = ap (λ (t : List ℕ). first_row t) is.whole ∙ fields_read 17 0 row rest refl is.count

-- ---- what breaks is not read

none_by : (mark : ℕ) (text : List ℕ) (read : Option Field) → first_field mark text ≡ read → ((field behind : List ℕ) → text ≡ quoted field ++ mark ∷ behind → ⊥) → read ≡ None
none_by mark text None is never = refl
none_by mark text (Some field) is never = absurd (never field.value field.rest (is_quoted mark text field is))

here_broken : (count column : ℕ) (rest : List ℕ) → first_field (mark_behind column) rest ≡ None → fields_from (suc count) column rest ≡ Err column
unfolding fields_from
here_broken count column rest none = rw none refl

front_text : (value rest : List ℕ) (fields : Row) → front_line (value ∷ fields) ++ rest ≡ quoted value ++ 44 ∷ (front_line fields ++ rest)
front_text value rest fields =
    append_assoc (quoted value ++ 44 ∷ []) (front_line fields) rest ∙ append_assoc (quoted value) (44 ∷ []) (front_line fields ++ rest)

broken_read : (count column : ℕ) (fields : Row) (rest : List ℕ) (broken : ℕ) → suc count + column ≡ 18 → column + length fields ≡ broken → broken < 18
    → first_field (mark_behind broken) rest ≡ None → fields_from (suc count) column (front_line fields ++ rest) ≡ Err broken
broken_read count column [] rest broken sum at below none =
    let same : column ≡ broken = omega (arith, at) in
    here_broken count column rest (subst (λ (c : ℕ). first_field (mark_behind c) rest ≡ None) (sym same) none) ∙ ap Err same
broken_read zero column (value ∷ fields) rest broken sum at below none = absurd (omega (arith, sum, at, below))
broken_read (suc count) column (value ∷ fields) rest broken sum at below none =
    field_step (suc count) column 44 (front_line (value ∷ fields) ++ rest) value (front_line fields ++ rest) (Err broken)
    (mark_comma column (omega (arith, sum))) (front_text value rest fields) (broken_read count (column + 1) fields rest broken (omega (arith, sum)) (omega (arith, at)) below none)

-- a row that breaks in a column is not read
pub breaks_read : (text : List ℕ) (column : ℕ) → Breaks text column → first_row text ≡ Err column
breaks_read text column breaks =
    let none = none_by (mark_behind column) breaks.rest (first_field (mark_behind column) breaks.rest) refl breaks.broken in
    ap (λ (t : List ℕ). first_row t) breaks.front ∙ broken_read 17 0 breaks.fields breaks.rest column refl (omega (arith, breaks.count)) breaks.within none

-- ---- so there is one at most

-- two rows that a text begins with are one
pub one_row : (text : List ℕ) (row other : Row) (rest behind : List ℕ) → Spells text row rest → Spells text other behind → (row ≡ other) × (rest ≡ behind)
one_row text row other rest behind first second =
    let both : Ok (record { fields = row; rest = rest }) ≡ Ok (record { fields = other; rest = behind }) = sym (spelled_read text row rest first) ∙ spelled_read text other behind second in
    let same : record { fields = row; rest = rest } ≡ record { fields = other; rest = behind } = cc in
    (ap (λ (it : Line). it.fields) same, ap (λ (it : Line). it.rest) same)

pub not_both : (text : List ℕ) (row : Row) (rest : List ℕ) (column : ℕ) → Spells text row rest → Breaks text column → ⊥
not_both text row rest column spelled breaks =
    let both : ◌≡◌ {A = Result Line ℕ} (Ok (record { fields = row; rest = rest })) (Err column) = sym (spelled_read text row rest spelled) ∙ breaks_read text column breaks in
    absurd (cc)

-- a row is wrong first in one column
pub one_column : (wrong : Row → Option ℕ) (text : List ℕ) (column other : ℕ) → IsWrongRow wrong text column → IsWrongRow wrong text other → column ≡ other
one_column wrong text column other (inl first) (inl second) =
    let both : Err column ≡ Err other = sym (breaks_read text column first) ∙ breaks_read text other second in
    let same : column ≡ other = cc in
    same
one_column wrong text column other (inl first) (inr second) = absurd (not_both text second.row second.rest column second.spelled first)
one_column wrong text column other (inr first) (inl second) = absurd (not_both text first.row first.rest other first.spelled second)
one_column wrong text column other (inr first) (inr second) =
    let row = (one_row text first.row second.row first.rest second.rest first.spelled second.spelled).0 in
    let both : Some column ≡ Some other = sym first.other ∙ (ap wrong row ∙ second.other) in
    let same : column ≡ other = cc in
    same

-- a right row is not wrong
pub right_or_wrong : (wrong : Row → Option ℕ) (text : List ℕ) (row : Row) (rest : List ℕ) (column : ℕ) → Spells text row rest → wrong row ≡ None → IsWrongRow wrong text column → ⊥
right_or_wrong wrong text row rest column spelled right (inl breaks) = not_both text row rest column spelled breaks
right_or_wrong wrong text row rest column spelled right (inr is) =
    let same = (one_row text row is.row rest is.rest spelled is.spelled).0 in
    let both : None ≡ Some column = sym right ∙ (ap wrong same ∙ is.other) in
    absurd (cc)
