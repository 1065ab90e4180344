-- Lists with one item more at the end.
use Rattle.std.proofs.Common.{◌≡◌, ℕ, zero, suc, ◌<◌, Bool, true, false, ◌&&◌, List, [], ◌∷◌, ◌++◌, length, slice_get, Some, refl, ap, subst, ◌∙◌, arith}
use Rattle.std.specs.List.{flat_map, list_all, AllByRecursion}
use Rattle.std.proofs.lemmas.Bool.{false≢true}

-- ---- places

-- an item at a place is one of the front, or the last one
pub data AtPlace {A : Type 0} (xs : List A) (x : A) (place : ℕ) (y : A) : Type 0 where
  InFront : slice_get xs place ≡ Some y → AtPlace xs x place y
  IsLast : place ≡ length xs → y ≡ x → AtPlace xs x place y

one_later : {A : Type 0} (first : A) (xs : List A) (x : A) (place : ℕ) (y : A) → AtPlace xs x place y → AtPlace (first ∷ xs) x (suc place) y
one_later first xs x place y (InFront there) = InFront there
one_later first xs x place y (IsLast at is) = IsLast (ap suc at) is

pub at_place : {A : Type 0} (xs : List A) (x : A) (place : ℕ) (y : A) → slice_get (xs ++ x ∷ []) place ≡ Some y → AtPlace xs x place y
at_place [] x zero y there = IsLast refl cc
at_place [] x (suc place) y there = absurd cc
at_place (first ∷ xs) x zero y there = InFront there
at_place (first ∷ xs) x (suc place) y there = one_later first xs x place y (at_place xs x place y there)

pub in_front : {A : Type 0} (xs more : List A) (place : ℕ) → place < length xs → slice_get (xs ++ more) place ≡ slice_get xs place
in_front [] more place within = absurd (omega (arith, within))
in_front (x ∷ xs) more zero within = refl
in_front (x ∷ xs) more (suc place) within = in_front xs more place (omega (arith, within))

pub last_place : {A : Type 0} (xs : List A) (x : A) → slice_get (xs ++ x ∷ []) (length xs) ≡ Some x
last_place [] x = refl
last_place (first ∷ xs) x = last_place xs x

pub within_list : {A : Type 0} (xs : List A) (place : ℕ) (x : A) → slice_get xs place ≡ Some x → place < length xs
within_list [] place x there = absurd cc
within_list (y ∷ ys) zero x there = omega arith
within_list (y ∷ ys) (suc place) x there = omega (arith, within_list ys place x there)

-- ---- what holds of each

pub holds_at : {A : Type 0} (P : A → Type 0) (xs : List A) (place : ℕ) (x : A) → AllByRecursion P xs → slice_get xs place ≡ Some x → P x
holds_at P [] place x all there = absurd cc
holds_at P (y ∷ ys) zero x all there = let same : y ≡ x = cc in subst P same all.0
holds_at P (y ∷ ys) (suc place) x all there = holds_at P ys place x all.1 there

pub all_weaker : {A : Type 0} (P Q : A → Type 0) (xs : List A) → ((x : A) → P x → Q x) → AllByRecursion P xs → AllByRecursion Q xs
all_weaker P Q [] weaker all = tt
all_weaker P Q (x ∷ xs) weaker all = (weaker x all.0, all_weaker P Q xs weaker all.1)

-- it holds of the front and of the last one
pub all_front : {A : Type 0} (P : A → Type 0) (xs : List A) (x : A) → AllByRecursion P (xs ++ x ∷ []) → AllByRecursion P xs
all_front P [] x all = tt
all_front P (y ∷ ys) x all = (all.0, all_front P ys x all.1)

pub all_last : {A : Type 0} (P : A → Type 0) (xs : List A) (x : A) → AllByRecursion P (xs ++ x ∷ []) → P x
all_last P [] x all = all.0
all_last P (y ∷ ys) x all = all_last P ys x all.1

pub same_flat_map : {A B : Type 0} (f g : A → List B) (P : A → Type 0) (xs : List A) → ((x : A) → P x → f x ≡ g x) → AllByRecursion P xs → flat_map f xs ≡ flat_map g xs
same_flat_map f g P [] same all = refl
same_flat_map {B = B} f g P (x ∷ xs) same all = ap (λ (l : List B). l ++ flat_map f xs) (same x all.0) ∙ ap (λ (l : List B). g x ++ l) (same_flat_map f g P xs same all.1)

-- ---- tests

both : (a b : Bool) → (a && b) ≡ true → (a ≡ true) × (b ≡ true)
both true b is = (refl, is)
both false b is = absurd (false≢true is)

and_true : (a b : Bool) → a ≡ true → b ≡ true → (a && b) ≡ true
and_true a b is_a is_b = rw is_a is_b

pub all_true_more : {A : Type 0} (p : A → Bool) (xs : List A) (x : A) → list_all p xs ≡ true → p x ≡ true → list_all p (xs ++ x ∷ []) ≡ true
all_true_more p [] x all last = and_true (p x) true last refl
all_true_more p (y ∷ ys) x all last =
    let parts = both (p y) (list_all p ys) all in
    and_true (p y) (list_all p (ys ++ x ∷ [])) parts.0 (all_true_more p ys x parts.1 last)

-- the last item is changed
pub all_true_last : {A : Type 0} (p : A → Bool) (xs : List A) (x y : A) → (p x ≡ true → p y ≡ true) → list_all p (xs ++ x ∷ []) ≡ true → list_all p (xs ++ y ∷ []) ≡ true
all_true_last p [] x y changed all = and_true (p y) true (changed (both (p x) true all).0) refl
all_true_last p (z ∷ zs) x y changed all =
    let parts = both (p z) (list_all p (zs ++ x ∷ [])) all in
    and_true (p z) (list_all p (zs ++ y ∷ [])) parts.0 (all_true_last p zs x y changed parts.1)
