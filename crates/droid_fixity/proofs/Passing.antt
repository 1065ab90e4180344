-- Lists that are passed through tests.
use Rattle.std.proofs.Common.{◌≡◌, ◌∙◌, ℕ, zero, suc, ◌+◌, ◌<◌, Bool, true, false, List, [], ◌∷◌, ◌++◌, length, take, get_or, Option, Some, None, cond, refl, ap, inl, inr, arith}
use Rattle.std.specs.List.{AllByRecursion, filter, filter_map, cons_option, slice_get}
use Rattle.std.specs.Option.{option_to_list}
use Rattle.std.specs.Prelude.{Contains, ◌⊎◌}
use Rattle.std.proofs.lemmas.List.{take_more}
use Rattle.std.proofs.lemmas.List.Elements.{filter_map-append}

-- some element has this
abbrev pub AnyByRecursion : {X : Type 0} → (X → Type 0) → List X → Type 0
AnyByRecursion P [] = ⊥
AnyByRecursion P (x ∷ xs) = P x ⊎ AnyByRecursion P xs

pub any_with_all : {X : Type 0} (P Q R : X → Type 0) (xs : List X) → ((x : X) → P x → Q x → R x) → AnyByRecursion P xs → AllByRecursion Q xs → AnyByRecursion R xs
any_with_all P Q R [] both any all = absurd any
any_with_all P Q R (x ∷ xs) both (inl here) all = inl (both x here all.0)
any_with_all P Q R (x ∷ xs) both (inr there) all = inr (any_with_all P Q R xs both there all.1)

-- one more element of what a function gives
last_given : {Y : Type 0} (y : Option Y) → cons_option y [] ≡ option_to_list y
last_given None = refl
last_given (Some y) = refl

pub filter_map_more : {X Y : Type 0} (f : X → Option Y) (xs : List X) (k : ℕ) (d : X) → k < length xs
    → filter_map f (take (k + 1) xs) ≡ filter_map f (take k xs) ++ option_to_list (f (get_or xs k d))
filter_map_more f xs k d below =
    ap (filter_map f) (take_more xs k d below) ∙ (filter_map-append f (take k xs) (get_or xs k d ∷ []) ∙ ap (λ (ys : List _). filter_map f (take k xs) ++ ys) (last_given (f (get_or xs k d))))

-- what a function gives of some element is there
push_front : {Y : Type 0} (o : Option Y) (ys : List Y) (y : Y) → Contains ys y → Contains (cons_option o ys) y
push_front None ys y there = there
push_front (Some x) ys y there = (suc there.0, omega (arith, there.1), there.2)

pub given_is_there : {X Y : Type 0} (f : X → Option Y) (xs : List X) (y : Y) → AnyByRecursion (λ x. f x ≡ Some y) xs → Contains (filter_map f xs) y
given_is_there f [] y any = absurd any
given_is_there f (x ∷ xs) y (inl here) = rw here (0, omega arith, refl)
given_is_there f (x ∷ xs) y (inr there) = push_front (f x) (filter_map f xs) y (given_is_there f xs y there)

-- each of what a function gives has what it gives it
given_all_by : {Y : Type 0} (P : Y → Type 0) (o : Option Y) (ys : List Y) → ((y : Y) → o ≡ Some y → P y) → AllByRecursion P ys → AllByRecursion P (cons_option o ys)
given_all_by P None ys one rest = rest
given_all_by P (Some y) ys one rest = (one y refl, rest)

pub given_all : {X Y : Type 0} (P : Y → Type 0) (Q : X → Type 0) (f : X → Option Y) (xs : List X) → ((x : X) (y : Y) → Q x → f x ≡ Some y → P y) → AllByRecursion Q xs → AllByRecursion P (filter_map f xs)
given_all P Q f [] each all = tt
given_all P Q f (x ∷ xs) each all = given_all_by P (f x) (filter_map f xs) (λ y is. each x y all.0 is) (given_all P Q f xs each all.1)

-- what passes a test
passing_all_by : {X : Type 0} (P : X → Type 0) (test : Bool) (x : X) (xs : List X) → (test ≡ true → P x) → AllByRecursion P xs → AllByRecursion P (cond test (x ∷ xs) xs)
passing_all_by P true x xs one rest = (one refl, rest)
passing_all_by P false x xs one rest = rest

pub passing_all : {X : Type 0} (P : X → Type 0) (test : X → Bool) (xs : List X) → AllByRecursion P xs → AllByRecursion (λ x. (test x ≡ true) × P x) (filter test xs)
passing_all P test [] all = tt
passing_all P test (x ∷ xs) all = passing_all_by (λ y. (test y ≡ true) × P y) (test x) x (filter test xs) (λ holds. (holds, all.0)) (passing_all P test xs all.1)

pub nothing_all : {X : Type 0} (xs : List X) → AllByRecursion (λ x. Unit {0}) xs
nothing_all [] = tt
nothing_all (x ∷ xs) = (tt, nothing_all xs)

-- the only one that passes both tests passes each
pub only_passes : {X : Type 0} (test other : X → Bool) (xs : List X) (x : X) → filter test (filter other xs) ≡ x ∷ [] → (test x ≡ true) × (other x ≡ true)
only_passes test other xs x only =
    let all = passing_all (λ y. (other y ≡ true) × Unit {0}) test (filter other xs) (passing_all (λ y. Unit {0}) other xs (nothing_all xs)) in
    let one = rw only at all in
    (one.0.0, one.0.1.0)

-- one that passes is there
there_by : {X : Type 0} (test : Bool) (x y : X) (xs : List X) → AnyByRecursion (λ z. z ≡ y) xs → AnyByRecursion (λ z. z ≡ y) (cond test (x ∷ xs) xs)
there_by true x y xs there = inr there
there_by false x y xs there = there

pub passing_is_there : {X : Type 0} (test : X → Bool) (xs : List X) (y : X) → test y ≡ true → AnyByRecursion (λ z. z ≡ y) xs → AnyByRecursion (λ z. z ≡ y) (filter test xs)
passing_is_there test [] y holds any = absurd any
passing_is_there test (x ∷ xs) y holds (inl same) = rw (ap test same ∙ holds) (inl same)
passing_is_there test (x ∷ xs) y holds (inr there) = there_by (test x) x y (filter test xs) (passing_is_there test xs y holds there)

pub at_is_there : {X : Type 0} (xs : List X) (place : ℕ) (y : X) → slice_get xs place ≡ Some y → AnyByRecursion (λ z. z ≡ y) xs
at_is_there [] place y there = cc
at_is_there (x ∷ xs) zero y there = let same : x ≡ y = cc in inl same
at_is_there (x ∷ xs) (suc place) y there = inr (at_is_there xs place y there)

any_of_one : {X : Type 0} (x y : X) → AnyByRecursion (λ z. z ≡ y) (x ∷ []) → x ≡ y
any_of_one x y (inl same) = same
any_of_one x y (inr none) = absurd none

-- what passes both tests is the only one that does
pub is_the_only : {X : Type 0} (test other : X → Bool) (xs : List X) (place : ℕ) (x y : X) → filter test (filter other xs) ≡ x ∷ [] → slice_get xs place ≡ Some y → other y ≡ true → test y ≡ true → x ≡ y
is_the_only test other xs place x y only there passes holds =
    let any = passing_is_there test (filter other xs) y holds (passing_is_there other xs y passes (at_is_there xs place y there)) in
    any_of_one x y (rw only at any)
