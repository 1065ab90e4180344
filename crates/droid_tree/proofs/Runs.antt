-- Steps after steps, and lists that grow by one item.
use Rattle.std.proofs.Common.{◌≡◌, List, [], ◌∷◌, ◌++◌, drop, length, length-drop, refl, ap, subst, ◌∙◌, append-nil, arith}
use Rattle.std.specs.List.{flat_map, AllByRecursion}
use Rattle.std.proofs.lemmas.Grind.{flat_map-append}
use Rattle.droid_tree.specs.Observation.{GoesOver}

pub over_one : {S A : Type 0} (step : S → A → S → Type 0) (first last : S) (item : A) → step first item last → GoesOver step first (item ∷ []) last
over_one step first last item does = (last, does, refl)

pub over_more : {S A : Type 0} (step : S → A → S → Type 0) (first middle last : S) (xs ys : List A) → GoesOver step first xs middle → GoesOver step middle ys last → GoesOver step first (xs ++ ys) last
over_more {S} {A} step first middle last [] ys p q = subst (λ (s : S). GoesOver step s ys last) p q
over_more {S} {A} step first middle last (x ∷ xs) ys p q = (p.0, p.1, over_more step p.0 middle last xs ys p.2 q)

pub all_more : {A : Type 0} (P : A → Type 0) (xs : List A) (x : A) → AllByRecursion P xs → P x → AllByRecursion P (xs ++ x ∷ [])
all_more P [] x all last = (last, tt)
all_more P (y ∷ xs) x all last = (all.0, all_more P xs x all.1 last)

-- one item more of what each item gives
pub given_more : {A B : Type 0} (f : A → List B) (xs : List A) (x : A) → flat_map f (xs ++ x ∷ []) ≡ flat_map f xs ++ f x
given_more f xs x = flat_map-append f xs (x ∷ []) ∙ ap (λ (l : List _). flat_map f xs ++ l) (append-nil (f x))

-- a list that loses nothing with its first item is empty
pub none_left : {A : Type 0} (items : List A) → items ≡ drop 1 items → items ≡ []
none_left [] none = refl
none_left (item ∷ items) none = absurd (omega (arith, ap length none, length-drop 1 (item ∷ items)))
