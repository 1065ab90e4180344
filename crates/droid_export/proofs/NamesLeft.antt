-- The names of a header that are left.
use Rattle.std.proofs.Common.{◌≡◌, ◌∙◌, ◌+◌, ◌<◌, ◌||◌, ℕ, zero, suc, Bool, true, false, List, [], ◌∷◌, length, drop, refl, ap, arith}
use Rattle.std.specs.Str.{bytes_eq}
use Rattle.csv.specs.Records.{field_at}
use Rattle.droid_frame.specs.declared.hash_kind.HashKind.{HashKind}
use Rattle.droid_export.specs.Headers.{has_name}
use Rattle.droid_export.specs.Table.{field_or, name_of}
use Rattle.droid_export.specs.declared.column.Column.{Column}

first_left : (hash : HashKind) (column : Column) (names : List (List ℕ)) (place : ℕ) → place < length names
    → has_name hash (drop place names) column ≡ (bytes_eq (field_or names place) (name_of hash column) || has_name hash (drop (suc place) names) column)
unfolding field_at
first_left hash column [] place below = absurd (omega (arith, below))
first_left hash column (name ∷ names) zero below = refl
first_left hash column (name ∷ names) (suc place) below = first_left hash column names place (omega (arith, below))

pub name_found : (hash : HashKind) (column : Column) (names : List (List ℕ)) (place : ℕ) → place < length names → bytes_eq (field_or names place) (name_of hash column) ≡ true
    → has_name hash (drop place names) column ≡ true
name_found hash column names place below is =
    first_left hash column names place below ∙ ap (λ (b : Bool). b || has_name hash (drop (suc place) names) column) is

pub name_passed : (hash : HashKind) (column : Column) (names : List (List ℕ)) (place : ℕ) → place < length names → bytes_eq (field_or names place) (name_of hash column) ≡ false
    → has_name hash (drop place names) column ≡ has_name hash (drop (place + 1) names) column
name_passed hash column names place below is =
    let next : suc place ≡ place + 1 = omega arith in
    first_left hash column names place below
    ∙ (ap (λ (b : Bool). b || has_name hash (drop (suc place) names) column) is ∙ ap (λ (n : ℕ). has_name hash (drop n names) column) next)
