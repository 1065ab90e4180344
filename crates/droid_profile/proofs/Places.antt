-- Lists with one item changed.
use Rattle.std.proofs.Common.{◌≡◌, ℕ, zero, suc, ◌<◌, List, [], ◌∷◌, length, set, slice_get, Some, None, Option, refl, ap, arith}

pub set_here : {A : Type 0} (xs : List A) (place : ℕ) (x : A) → place < length xs → slice_get (set xs place x) place ≡ Some x
set_here [] place x within = absurd (omega (arith, within))
set_here (y ∷ ys) zero x within = refl
set_here (y ∷ ys) (suc place) x within = set_here ys place x (omega (arith, within))

pub set_else : {A : Type 0} (xs : List A) (place other : ℕ) (x : A) → (other ≡ place → ⊥) → slice_get (set xs place x) other ≡ slice_get xs other
set_else [] place other x apart = refl
set_else (y ∷ ys) zero zero x apart = absurd (apart refl)
set_else (y ∷ ys) zero (suc other) x apart = refl
set_else (y ∷ ys) (suc place) zero x apart = refl
set_else (y ∷ ys) (suc place) (suc other) x apart = set_else ys place other x (λ same. apart (ap suc same))

-- two places that hold one item each
pub same_item : {A : Type 0} (found : Option A) (x y : A) → found ≡ Some x → found ≡ Some y → x ≡ y
same_item None x y is_x is_y = absurd cc
same_item (Some z) x y is_x is_y = cc

-- an item at each place within
pub item_at : {A : Type 0} (xs : List A) (place : ℕ) → place < length xs → (x : A) × (slice_get xs place ≡ Some x)
item_at [] place within = absurd (omega (arith, within))
item_at (x ∷ xs) zero within = (x, refl)
item_at (x ∷ xs) (suc place) within = item_at xs place (omega (arith, within))

-- the last change counts
pub set_twice : {A : Type 0} (xs : List A) (place : ℕ) (x y : A) → set (set xs place x) place y ≡ set xs place y
set_twice {A = A} [] place x y = refl
set_twice {A = A} (z ∷ zs) zero x y = refl
set_twice {A = A} (z ∷ zs) (suc place) x y = ap (λ (l : List A). z ∷ l) (set_twice zs place x y)

-- an item set where it stands
pub set_same : {A : Type 0} (xs : List A) (place : ℕ) (x : A) → slice_get xs place ≡ Some x → xs ≡ set xs place x
set_same {A = A} [] place x there = refl
set_same {A = A} (y ∷ ys) zero x there = ap (λ (z : A). z ∷ ys) (same_item (Some y) y x refl there)
set_same {A = A} (y ∷ ys) (suc place) x there = ap (λ (l : List A). y ∷ l) (set_same ys place x there)
