-- What `=` and `<>` say of whole numbers and of texts.
use Rattle.std.proofs.Common.{◌≡◌, ℕ, pos, List, Bool, true, false, not, Some, ◌==◌, ◌&&◌, bytes_eq, refl, arith}
use Rattle.std.proofs.lemmas.Int.{ints}
use Rattle.std.proofs.lemmas.Bool.Decides.{nat_tests}
use Rattle.std.proofs.lemmas.Map.Text.{is_eq-slice_cmp}
use Rattle.std.specs.Ordering.{is_eq, is_ne, int_cmp}
use Rattle.sqlite.specs.declared.types.Value.TheVariants.{Int, Text}
use Rattle.sqlite.specs.Collation.TheVariants.{Binary}
use Rattle.sqlite.specs.Ops.{binary, is_true}
use Rattle.sqlite_sql.specs.declared.ops.BinaryOp.TheVariants.{Compare}
use Rattle.sqlite_sql.specs.declared.ops.CompareOp.TheVariants.{Eq, Ne}
use Rattle.sqlite_sql.specs.Ops.{from_truth}
use Rattle.sqlite_value.proofs.OrderLemmas.{value_cmp-Int, value_cmp-Text}

by_truth : (t : Bool) → is_true (from_truth (Some t)) ≡ t
by_truth true = refl
by_truth false = refl

is_eq_nat : (a b : ℕ) → is_eq (int_cmp (pos a) (pos b)) ≡ (a == b)
is_eq_nat a b = grind (arith, ints, nat_tests)

is_ne_nat : (a b : ℕ) → is_ne (int_cmp (pos a) (pos b)) ≡ not (a == b)
is_ne_nat a b = grind (arith, ints, nat_tests)

pub equal_numbers : (a b : ℕ) → is_true (binary (Compare Eq Binary) (Int (pos a)) (Int (pos b))) ≡ (a == b)
unfolding binary
equal_numbers a b = rw (value_cmp-Int (pos a) (pos b), is_eq_nat a b) (by_truth (a == b))

pub different_numbers : (a b : ℕ) → is_true (binary (Compare Ne Binary) (Int (pos a)) (Int (pos b))) ≡ not (a == b)
unfolding binary
different_numbers a b = rw (value_cmp-Int (pos a) (pos b), is_ne_nat a b) (by_truth (not (a == b)))

pub equal_texts : (a b : List ℕ) → is_true (binary (Compare Eq Binary) (Text a) (Text b)) ≡ bytes_eq a b
unfolding binary
equal_texts a b = rw (value_cmp-Text a b, is_eq-slice_cmp a b) (by_truth (bytes_eq a b))

-- ---- all of some tests, as WHERE has them

pub all_of_one : (a : Bool) → (a && true) ≡ a
all_of_one true = refl
all_of_one false = refl

pub all_of_two : (a b : Bool) → (a && (b && true)) ≡ (a && b)
all_of_two true b = all_of_one b
all_of_two false b = refl

pub all_of_three : (a b c : Bool) → (a && (b && (c && true))) ≡ (a && (b && c))
all_of_three true b c = all_of_two b c
all_of_three false b c = refl
