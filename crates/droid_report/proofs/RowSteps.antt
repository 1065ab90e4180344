-- Rows of tables, one after the other.
use Rattle.std.proofs.Common.{◌≡◌, ◌∙◌, ℕ, ◌+◌, ◌<◌, List, [], ◌∷◌, ◌++◌, append-nil, append_assoc, add-zero, length, length-take, take, get_or, map, Vec, sym, ap, arith}
use Rattle.std.proofs.lemmas.List.{map_more, map_push, take_more}
use Rattle.std.specs.declared.alloc.Global.{Global}
use Rattle.droid_report.specs.declared.html.tables.Cell.{Cell}
use Rattle.droid_report.specs.ShownClasses.{flat_map_at}
use Rattle.droid_report.specs.Seen.{Seen, row_seen, rows_seen}

pub row_for : {X : Type 0} (row : X → List Seen) (xs : List X) (i : ℕ) (x : X) (lines : List (Vec Cell Global)) (line : Vec Cell Global)
    → i < length xs → rows_seen lines ≡ map row (take i xs) → row_seen line ≡ row (get_or xs i x) → rows_seen (lines ++ line ∷ []) ≡ map row (take (i + 1) xs)
row_for row xs i x lines line below before here =
    map_push row_seen lines line
    ∙ (ap (λ (rows : List (List Seen)). rows ++ row_seen line ∷ []) before
    ∙ (ap (λ (r : List Seen). map row (take i xs) ++ r ∷ []) here ∙ sym (map_more row xs i x below)))

-- ---- with their places

append_at : {A B : Type 0} (f : ℕ → A → List B) (at : ℕ) (xs ys : List A) → flat_map_at f at (xs ++ ys) ≡ flat_map_at f at xs ++ flat_map_at f (at + length xs) ys
append_at f at [] ys = ap (λ (n : ℕ). flat_map_at f n ys) (sym (add-zero at))
append_at f at (x ∷ xs) ys =
    let sum : at + 1 + length xs ≡ at + length (x ∷ xs) = omega arith in
    ap (λ ps. f at x ++ ps) (append_at f (at + 1) xs ys ∙ ap (λ (n : ℕ). flat_map_at f (at + 1) xs ++ flat_map_at f n ys) sum)
    ∙ sym (append_assoc (f at x) (flat_map_at f (at + 1) xs) (flat_map_at f (at + length (x ∷ xs)) ys))

pub more_at : {A B : Type 0} (f : ℕ → A → List B) (xs : List A) (i : ℕ) (d : A) → i < length xs → flat_map_at f 0 (take i xs) ++ f i (get_or xs i d) ≡ flat_map_at f 0 (take (i + 1) xs)
more_at {A = A} f xs i d below =
    let here : 0 + length (take i xs) ≡ i = omega (arith, length-take {A = A}) in
    sym (ap (flat_map_at f 0) (take_more xs i d below)
    ∙ (append_at f 0 (take i xs) (get_or xs i d ∷ [])
    ∙ ap (λ ps. flat_map_at f 0 (take i xs) ++ ps) (append-nil (f (0 + length (take i xs)) (get_or xs i d)) ∙ ap (λ (n : ℕ). f n (get_or xs i d)) here)))
