-- The names of the columns are read exactly where they are those of a profile.
use Rattle.std.proofs.Common.{◌≡◌, ◌∙◌, ◌<◌, ◌≤◌, ◌+◌, ◌-◌, ℕ, suc, zero, Bool, true, false, List, [], ◌∷◌, length, map, Option, Some, None, refl, sym, ap, subst, arith, ◌⊎◌, inl, inr}
use Rattle.std.specs.Prelude.{if◌then◌else◌, slice_get}
use Rattle.std.specs.Str.{bytes_eq}
use Rattle.std.proofs.lemmas.Bool.{cases_lt}
use Rattle.std.proofs.lemmas.Slice.Eq.{bytes_eq-Decides}
use Rattle.csv.specs.Records.{field_at}
use Rattle.droid_export.specs.declared.column.Column.{Column}
use Rattle.droid_lists.specs.ProfileTexts.{other_from}
use Rattle.droid_lists.specs.RowReading.{at}
use Rattle.droid_lists.specs.RowTests.{Row}

-- ---- column by column

step_of : (count left column : ℕ) (names due : Row) → left ≡ suc count
    → other_from left column names due ≡ (if bytes_eq (at names column) (at due column) then other_from count (column + 1) names due else Some column)
unfolding other_from
step_of count left column names due is = rw is refl

next_of : (column : ℕ) (names due : Row) → column < 18
    → other_from (18 - column) column names due ≡ (if bytes_eq (at names column) (at due column) then other_from (18 - (column + 1)) (column + 1) names due else Some column)
next_of column names due below = step_of (18 - (column + 1)) (18 - column) column names due (omega (arith, below))

-- this name is right
pub right_name : (column : ℕ) (names due : Row) → column < 18 → at names column ≡ at due column
    → other_from (18 - column) column names due ≡ other_from (18 - (column + 1)) (column + 1) names due
right_name column names due below same = next_of column names due below ∙ rw ((bytes_eq-Decides (at names column) (at due column)).1 same) refl

-- this name is wrong
pub wrong_name : (column : ℕ) (names due : Row) → column < 18 → bytes_eq (at names column) (at due column) ≡ false → other_from (18 - column) column names due ≡ Some column
wrong_name column names due below other = next_of column names due below ∙ rw other refl

no_names : (left column : ℕ) (names due : Row) → left ≡ 0 → other_from left column names due ≡ None
unfolding other_from
no_names left column names due is = rw is refl

pub all_names : (column : ℕ) (names due : Row) → 18 ≤ column → other_from (18 - column) column names due ≡ None
all_names column names due past = no_names (18 - column) column names due (omega (arith, past))

-- ---- all columns

-- a column from this one on is this one, or a later one
same_at : (count column : ℕ) (names due : Row) (c : ℕ) → (column < c) ⊎ (c ≤ column) → at names column ≡ at due column → other_from count (column + 1) names due ≡ None
    → column ≤ c → c < column + suc count
    → (other_from count (column + 1) names due ≡ None → column + 1 ≤ c → c < (column + 1) + count → at names c ≡ at due c)
    → at names c ≡ at due c
same_at count column names due c (inl past) here none from below more = more none (omega (arith, past)) (omega (arith, below))
same_at count column names due c (inr up_to) here none from below more =
    let is : column ≡ c = omega (arith, from, up_to) in
    subst (λ (k : ℕ). at names k ≡ at due k) is here

same_by : (count column : ℕ) (names due : Row) (c : ℕ) (b : Bool) → bytes_eq (at names column) (at due column) ≡ b
    → (if b then other_from count (column + 1) names due else Some column) ≡ None → column ≤ c → c < column + suc count
    → (other_from count (column + 1) names due ≡ None → column + 1 ≤ c → c < (column + 1) + count → at names c ≡ at due c)
    → at names c ≡ at due c
same_by count column names due c false test none from below more = absurd (cc)
same_by count column names due c true test none from below more =
    same_at count column names due c (cases_lt column c) ((bytes_eq-Decides (at names column) (at due column)).0 test) none from below more

same_from : (count column : ℕ) (names due : Row) (c : ℕ) → other_from count column names due ≡ None → column ≤ c → c < column + count → at names c ≡ at due c
unfolding other_from
same_from zero column names due c none from below = absurd (omega (arith, from, below))
same_from (suc count) column names due c none from below =
    same_by count column names due c (bytes_eq (at names column) (at due column)) refl none from below (λ e f g. same_from count (column + 1) names due c e f g)

same_rows : (xs ys : Row) → length xs ≡ length ys → ((c : ℕ) → c < length xs → at xs c ≡ at ys c) → xs ≡ ys
unfolding field_at
same_rows [] [] len same = refl
same_rows [] (y ∷ ys) len same = absurd (omega (arith, len))
same_rows (x ∷ xs) [] len same = absurd (omega (arith, len))
same_rows (x ∷ xs) (y ∷ ys) len same =
    let head : x ≡ y = same 0 (omega arith) in
    let tail : xs ≡ ys = same_rows xs ys (omega (arith, len)) (λ c below. same (suc c) (omega (arith, below))) in
    rw (head, tail) refl

-- 18 fields without a wrong name are the names
pub are_names : (names due : Row) → length names ≡ 18 → length due ≡ 18 → other_from 18 0 names due ≡ None → names ≡ due
are_names names due count due_count none =
    same_rows names due (count ∙ sym due_count) (λ c below. same_from 18 0 names due c none (omega arith) (omega (arith, below, count)))

-- ---- the name of a column

-- the column at a place has the name there
pub name_at : (name : Column → List ℕ) (columns : List Column) (place : ℕ) (column : Column) → slice_get columns place ≡ Some column → name column ≡ at (map name columns) place
unfolding field_at
name_at name [] place column is = absurd (cc)
name_at name (first ∷ columns) zero column is =
    let same : column ≡ first = cc in
    ap name same
name_at name (first ∷ columns) (suc place) column is = name_at name columns place column is

-- past the last there is no name
pub none_at : (name : Column → List ℕ) (columns : List Column) (place : ℕ) → slice_get columns place ≡ None → [] ≡ at (map name columns) place
unfolding field_at
none_at name [] place is = refl
none_at name (first ∷ columns) zero is = absurd (cc)
none_at name (first ∷ columns) (suc place) is = none_at name columns place is
