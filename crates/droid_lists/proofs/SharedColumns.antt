-- The columns that the rows of a record share, one by one.
use Rattle.std.proofs.Common.{◌≡◌, ◌∙◌, ◌<◌, ◌+◌, ℕ, zero, suc, Bool, true, false, List, [], ◌∷◌, drop, map, Some, refl, ap, arith}
use Rattle.std.specs.Prelude.{if◌then◌else◌, not}
use Rattle.std.specs.Str.{bytes_eq}
use Rattle.droid_export.specs.Profiles.{shared_columns}
use Rattle.droid_lists.specs.RowTests.{Row, Test, at, first_wrong, shared_tests}

-- so many numbers from this one on
abbrev up_from : ℕ → ℕ → List ℕ
up_from zero number = []
up_from (suc count) number = number ∷ up_from count (number + 1)

one_by : (count number k : ℕ) (test : ℕ → Test) → k < count → drop k (map test (up_from count number)) ≡ test (number + k) ∷ drop (suc k) (map test (up_from count number))
one_by zero number k test below = absurd (omega (arith, below))
one_by (suc count) number zero test below =
    let same : number ≡ number + zero = omega arith in
    ap (λ (n : ℕ). test n ∷ map test (up_from count (number + 1))) same
one_by (suc count) number (suc k) test below =
    let same : (number + 1) + k ≡ number + suc k = omega arith in
    one_by count (number + 1) k test (omega (arith, below)) ∙ ap (λ (n : ℕ). test n ∷ drop (suc k) (map test (up_from count (number + 1)))) same

one_column : (k : ℕ) (test : ℕ → Test) → k < 14 → drop k (map test shared_columns) ≡ test k ∷ drop (k + 1) (map test shared_columns)
one_column k test below =
    let here : 0 + k ≡ k = omega arith in
    let next : suc k ≡ k + 1 = omega arith in
    one_by 14 0 k test below ∙ (ap (λ (n : ℕ). test n ∷ drop (suc k) (map test shared_columns)) here ∙ ap (λ (n : ℕ). test k ∷ drop n (map test shared_columns)) next)

-- the tests from a column on
step_of : (first row : Row) (k : ℕ) (b : Bool) → k < 14 → bytes_eq (at row k) (at first k) ≡ b
    → first_wrong (drop k (shared_tests first row)) ≡ (if b then first_wrong (drop (k + 1) (shared_tests first row)) else Some k)
step_of first row k b below is =
    ap first_wrong (one_column k (λ column. (bytes_eq (at row column) (at first column), column)) below)
    ∙ ap (λ (it : Bool). if it then first_wrong (drop (k + 1) (shared_tests first row)) else Some k) is

-- this column is another
pub other_column : (first row : Row) (k : ℕ) → k < 14 → bytes_eq (at row k) (at first k) ≡ false → first_wrong (drop k (shared_tests first row)) ≡ Some k
other_column first row k below is = step_of first row k false below is

-- this column is the same
pub same_column : (first row : Row) (k : ℕ) → k < 14 → bytes_eq (at row k) (at first k) ≡ true
    → first_wrong (drop k (shared_tests first row)) ≡ first_wrong (drop (k + 1) (shared_tests first row))
same_column first row k below is = step_of first row k true below is

-- ---- tests in the code

pub differs : (same other : Bool) → other ≡ not same → other ≡ true → same ≡ false
differs true other is holds = absurd (cc)
differs false other is holds = refl

pub equals : (same other : Bool) → other ≡ not same → other ≡ false → same ≡ true
equals true other is fails = refl
equals false other is fails = absurd (cc)
