-- Rows without where they lie in memory, one row more.
use Rattle.std.proofs.Common.{◌≡◌, ◌∙◌, ℕ, ◌++◌, List, [], ◌∷◌, Bool, cond, ◌+◌, not, Some, drop, map, take, refl, sym, ap}
use Rattle.std.specs.List.{insert, position_or_len}
use Rattle.std.proofs.lemmas.List.{drop-map, map-append, take-map}
use Rattle.droid_report.specs.Rows.{Line, last}

pub last_pushed : (lines : List Line) (line : Line) → last (lines ++ line ∷ []) ≡ Some line
last_pushed [] line = refl
last_pushed (one ∷ []) line = refl
last_pushed (one ∷ next ∷ lines) line = last_pushed (next ∷ lines) line

pub map_insert : {X Y : Type 0} (f : X → Y) (xs : List X) (i : ℕ) (x : X) → map f (insert xs i x) ≡ insert (map f xs) i (f x)
map_insert {Y = Y} f xs i x =
    map-append f (take i xs) (x ∷ drop i xs)
    ∙ (ap (λ (ys : List Y). ys ++ f x ∷ map f (drop i xs)) (sym (take-map f i xs)) ∙ ap (λ (ys : List Y). take i (map f xs) ++ f x ∷ ys) (sym (drop-map f i xs)))

pub position_map : {X Y : Type 0} (f : X → Y) (test : Y → Bool) (xs : List X) → position_or_len (λ x. test (f x)) xs ≡ position_or_len test (map f xs)
position_map f test [] = refl
position_map f test (x ∷ xs) = ap (λ (n : ℕ). cond (not (test (f x))) (1 + n) 0) (position_map f test xs)
