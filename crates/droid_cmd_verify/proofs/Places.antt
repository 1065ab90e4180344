-- Elements of lists, by their places.
use Rattle.std.proofs.Common.{◌≡◌, ◌∙◌, ◌<◌, ℕ, zero, suc, Bool, true, false, cond, List, [], ◌∷◌, ◌++◌, filter, map, length, Some, refl, sym, ap, subst, arith}
use Rattle.std.specs.List.{AllByRecursion, Contains, slice_get, slice_index_or}
use Rattle.std.specs.Prelude.{IsPermutation}
use Rattle.std.proofs.lemmas.List.Sorted.{Contains-permutation, IsPermutation-sym}

-- ---- elements

pub contains_at : {X : Type 0} (xs : List X) (place : ℕ) (x : X) → slice_get xs place ≡ Some x → Contains xs x
contains_at [] place x there = cc
contains_at (y ∷ xs) zero x there = let same : y ≡ x = cc in (0, omega arith, same)
contains_at (y ∷ xs) (suc place) x there = let rest = contains_at xs place x there in (suc rest.0, omega (arith, rest.1), rest.2)

has_at : {X : Type 0} (P : X → Type 0) (xs : List X) (x : X) (k : ℕ) → AllByRecursion P xs → k < length xs → slice_index_or xs k x ≡ x → P x
has_at P [] x k all below is = absurd (omega (arith, below))
has_at P (y ∷ xs) x zero all below is = subst P is all.0
has_at P (y ∷ xs) x (suc k) all below is = has_at P xs x k all.1 (omega (arith, below)) is

-- what holds of each element holds at each place of the list in another order
pub sorted_has : {X : Type 0} (P : X → Type 0) (xs sorted : List X) (place : ℕ) (x : X) → AllByRecursion P xs → IsPermutation xs sorted → slice_get sorted place ≡ Some x → P x
sorted_has P xs sorted place x all same there =
    let has = Contains-permutation sorted xs x (IsPermutation-sym xs sorted same) (contains_at sorted place x there) in
    has_at P xs x has.0 all has.1 has.2

-- ---- what passes a test

rest_none : {X : Type 0} (passes : Bool) (y : X) (xs : List X) → cond passes (y ∷ xs) xs ≡ [] → xs ≡ []
rest_none true y xs none = absurd cc
rest_none false y xs none = none

passes_at : {X : Type 0} (test : X → Bool) (xs : List X) (x : X) (k : ℕ) → filter test xs ≡ [] → k < length xs → slice_index_or xs k x ≡ x → test x ≡ true → ⊥
passes_at test [] x k none below is holds = absurd (omega (arith, below))
passes_at test (y ∷ xs) x zero none below is holds =
    let yes : test y ≡ true = ap test is ∙ holds in
    let bad : y ∷ filter test xs ≡ [] = sym (ap (λ (t : Bool). cond t (y ∷ filter test xs) (filter test xs)) yes) ∙ none in
    cc
passes_at test (y ∷ xs) x (suc k) none below is holds = passes_at test xs x k (rest_none (test y) y (filter test xs) none) (omega (arith, below)) is holds

-- an element that passes is among those that do
pub none_passes : {X : Type 0} (test : X → Bool) (xs : List X) (x : X) → filter test xs ≡ [] → Contains xs x → test x ≡ true → ⊥
none_passes test xs x none has holds = passes_at test xs x has.0 none has.1 has.2 holds

all_pass_by : {X : Type 0} (P : X → Type 0) (passes : Bool) (y : X) (xs : List X) → P y → AllByRecursion P xs → AllByRecursion P (cond passes (y ∷ xs) xs)
all_pass_by P true y xs one rest = (one, rest)
all_pass_by P false y xs one rest = rest

pub some_pass : {X : Type 0} (P : X → Type 0) (test : X → Bool) (xs : List X) → AllByRecursion P xs → AllByRecursion P (filter test xs)
some_pass P test [] all = tt
some_pass P test (y ∷ xs) all = all_pass_by P (test y) y (filter test xs) all.0 (some_pass P test xs all.1)

-- ---- nothing

pub parts_none : {X : Type 0} (xs ys : List X) → xs ++ ys ≡ [] → (xs ≡ []) × (ys ≡ [])
parts_none [] ys is = (refl, is)
parts_none (x ∷ xs) ys is = absurd cc

pub map_none : {X Y : Type 0} (f : X → Y) (xs : List X) → map f xs ≡ [] → xs ≡ []
map_none f [] is = refl
map_none f (x ∷ xs) is = absurd cc
