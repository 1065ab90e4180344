-- Lists, item by item.
use Rattle.std.proofs.Common.{◌≡◌, ℕ, ◌+◌, ◌<◌, ◌&&◌, Bool, true, false, List, [], ◌∷◌, ◌++◌, length, take, drop, refl, sym, ap, ◌∙◌, get_or, append_assoc, append-nil}
use Rattle.std.specs.List.{flat_map, list_all, AllByRecursion}
use Rattle.std.proofs.lemmas.List.{take_more, take-append-drop}
use Rattle.std.proofs.lemmas.List.Folds.{list_all-append}
use Rattle.std.proofs.lemmas.Grind.{flat_map-append}

-- one item more
pub one_more : {A : Type 0} (xs : List A) (at : ℕ) (x : A) → at < length xs → x ≡ get_or xs at x → take (at + 1) xs ≡ take at xs ++ x ∷ []
one_more {A} xs at x within there = take_more xs at x within ∙ ap (λ (y : A). take at xs ++ y ∷ []) (sym there)

-- the items before, this one, and those behind it
pub around : {A : Type 0} (xs : List A) (at : ℕ) (x : A) → at < length xs → x ≡ get_or xs at x → (take at xs ++ x ∷ []) ++ drop (at + 1) xs ≡ xs
around {A} xs at x within there = ap (λ (l : List A). l ++ drop (at + 1) xs) (sym (one_more xs at x within there)) ∙ take-append-drop (at + 1) xs

-- one item more of what each item gives
pub given_more : {A B : Type 0} (f : A → List B) (xs : List A) (x : A) → flat_map f (xs ++ x ∷ []) ≡ flat_map f xs ++ f x
given_more {A} {B} f xs x = flat_map-append f xs (x ∷ []) ∙ ap (λ (l : List B). flat_map f xs ++ l) (append-nil (f x))

-- one item more that all have to pass
and_true : (b : Bool) → (b && true) ≡ b
and_true true = refl
and_true false = refl

pub passed_more : {A : Type 0} (p : A → Bool) (xs : List A) (x : A) (all last both : Bool) → all ≡ list_all p xs → last ≡ p x → both ≡ (all && last) → both ≡ list_all p (xs ++ x ∷ [])
passed_more p xs x all last both front next is =
    is ∙ (ap (λ (b : Bool). b && last) front ∙ (ap (λ (b : Bool). list_all p xs && b) (next ∙ sym (and_true (p x))) ∙ sym (list_all-append p xs (x ∷ []))))

-- what holds of all of two lists
pub all_append : {A : Type 0} (P : A → Type 0) (xs ys : List A) → AllByRecursion P xs → AllByRecursion P ys → AllByRecursion P (xs ++ ys)
all_append P [] ys all more = more
all_append P (x ∷ xs) ys all more = (all.0, all_append P xs ys all.1 more)

-- four lists in a row
pub regroup : {A : Type 0} (a b c d : List A) → (a ++ b) ++ (c ++ d) ≡ (a ++ (b ++ c)) ++ d
regroup a b c d = simp append_assoc
