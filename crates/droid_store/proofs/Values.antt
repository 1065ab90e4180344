-- What a column of a table stores of the value that it is given: the same value, where it is of the column's kind.
use Rattle.std.proofs.Common.{◌≡◌, ℕ, ℤ, pos, List, Bool, true, false, not, cond, if◌then◌else◌, refl, sym, ap, ◌∙◌}
use Rattle.std.specs.Ordering.{int_eq}
use Rattle.sqlite.specs.declared.types.Value.{Value}
use Rattle.sqlite.specs.declared.types.Value.TheVariants as value
use Rattle.sqlite.specs.Kind.TheVariants.{Integer, Text, Blob}
use Rattle.sqlite.specs.Ops.{unary}
use Rattle.sqlite.specs.Cast.{cast}

either : (b : Bool) (x : Value) → cond b x x ≡ x
either true x = refl
either false x = refl

pub cast_null : cast Integer value.Null ≡ value.Null
unfolding unary
cast_null = either _ value.Null

pub cast_int : (n : ℤ) → cast Integer (value.Int n) ≡ value.Int n
unfolding unary
cast_int n = either _ (value.Int n)

pub cast_text : (t : List ℕ) → cast Text (value.Text t) ≡ value.Text t
cast_text t = refl

pub cast_blob : (b : List ℕ) → cast Blob (value.Blob b) ≡ value.Blob b
cast_blob b = refl

-- ---- what is read back is what was bound

pub same_int : (m n : ℤ) → value.Int m ≡ value.Int n → m ≡ n
same_int m n is = cc

pub same_number : (m n : ℕ) → value.Int (pos m) ≡ value.Int (pos n) → m ≡ n
same_number m n is = cc

pub same_text : (s t : List ℕ) → value.Text s ≡ value.Text t → s ≡ t
same_text s t is = cc

pub same_blob : (b c : List ℕ) → value.Blob b ≡ value.Blob c → b ≡ c
same_blob b c is = cc

-- a truth value is bound as 1 or 0, and any number but 0 reads as true
pub same_flag : (b c : Bool) (n : ℤ) → value.Int (if b then pos 1 else pos 0) ≡ value.Int n → c ≡ not (int_eq n (pos 0)) → c ≡ b
same_flag b c n is reads = reads ∙ ap (λ m. not (int_eq m (pos 0))) (sym (same_int (if b then pos 1 else pos 0) n is)) ∙ by_cases b
  where
    by_cases : (t : Bool) → not (int_eq (if t then pos 1 else pos 0) (pos 0)) ≡ t
    by_cases true = refl
    by_cases false = refl
