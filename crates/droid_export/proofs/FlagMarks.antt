-- Flags that are set one after another.
use Rattle.std.proofs.Common.{◌≡◌, ℕ, zero, suc, ◌<◌, ◌==◌, Bool, true, false, not, ◌||◌, ◌&&◌, List, [], ◌∷◌, ◌++◌, length, take, drop, map, get_or, refl, sym, arith}
use Rattle.std.specs.List.{list_any, list_all}
use Rattle.std.specs.Bool.{beq}
use Rattle.std.proofs.Math.Dec.{eqb-suc-zero, eqb-zero-suc, eqb-suc-suc}
use Rattle.std.proofs.Math.Bool.{or-false}
use Rattle.std.proofs.lemmas.List.{append-nil, drop_all, take_all}

and_true : (a : Bool) → (a && true) ≡ a
and_true true = refl
and_true false = refl

and_false : (a : Bool) → (a && false) ≡ false
and_false true = refl
and_false false = refl

-- one flag more, at the end
pub last_place : (ys : List Bool) (b : Bool) (spot : ℕ) → get_or (ys ++ b ∷ []) spot false ≡ (get_or ys spot false || (b && (length ys == spot)))
last_place [] b zero = sym (and_true b)
last_place [] b (suc spot) = rw eqb-zero-suc (sym (and_false b))
last_place (y ∷ ys) b zero = rw (eqb-suc-zero, and_false b) (sym (or-false y))
last_place (y ∷ ys) b (suc spot) = rw eqb-suc-suc (last_place ys b spot)

-- whether all flags are set, or any
set_true : (flag : Bool) → beq flag true ≡ flag
set_true true = refl
set_true false = refl

pub any_set : (flags : List Bool) → list_any (λ flag. beq flag true) flags ≡ list_any (λ flag. flag) flags
any_set [] = refl
any_set (true ∷ flags) = refl
any_set (false ∷ flags) = any_set flags

pub all_set : (flags : List Bool) → not (list_any (λ flag. beq flag false) flags) ≡ list_all (λ flag. flag) flags
all_set [] = refl
all_set (true ∷ flags) = all_set flags
all_set (false ∷ flags) = refl

pub any_of_flags : {X : Type 0} (f : X → Bool) (xs : List X) → list_any (λ flag. flag) (map f xs) ≡ list_any f xs
any_of_flags f [] = refl
any_of_flags f (x ∷ xs) = rw (any_of_flags f xs) refl

pub all_of_flags : {X : Type 0} (f : X → Bool) (xs : List X) → list_all (λ flag. flag) (map f xs) ≡ list_all f xs
all_of_flags f [] = refl
all_of_flags f (x ∷ xs) = rw (all_of_flags f xs) refl

-- two tests that answer the same
pub any_same : {X : Type 0} (p q : X → Bool) → ((x : X) → p x ≡ q x) → (xs : List X) → list_any p xs ≡ list_any q xs
any_same p q each [] = refl
any_same p q each (x ∷ xs) = rw (each x, any_same p q each xs) refl

-- flags that are the same at each place
pub same_flags : (xs ys : List Bool) → length xs ≡ length ys → ((spot : ℕ) → spot < length xs → get_or xs spot false ≡ get_or ys spot false) → xs ≡ ys
same_flags [] [] long each = refl
same_flags [] (y ∷ ys) long each = absurd (omega arith)
same_flags (x ∷ xs) [] long each = absurd (omega arith)
same_flags (x ∷ xs) (y ∷ ys) long each =
    let first : x ≡ y = each 0 (omega arith) in
    let rest : xs ≡ ys = same_flags xs ys (omega arith) (λ spot below. each (suc spot) (omega arith)) in
    rw (first, rest) refl

-- a list that is written over whole
pub written_over : (n : ℕ) (old new wanted : List Bool) → length new ≡ n → length old ≡ n → new ≡ wanted → take n (new ++ drop (length new) old) ≡ wanted
written_over n old new wanted long longer same =
    rw (drop_all (length new) old (omega arith), append-nil new, take_all n new (omega arith)) same
