-- Elements of lists: where a look-up finds them, and what a change of one leaves of the others.
use Rattle.std.proofs.Common.{◌≡◌, ℕ, zero, suc, ◌+◌, ◌<◌, ◌≤◌, Bool, true, false, cond, List, [], ◌∷◌, ◌++◌, length, get_or, set, Option, Some, None, refl, sym, ap, ◌∙◌, arith, ◌⊎◌, inl, inr}
use Rattle.std.specs.List.{slice_get, find, Contains, count_by}
use Rattle.std.proofs.lemmas.List.Sums.{sum_by-append}
use Rattle.std.proofs.lemmas.Option.{slice_get_within, slice_get-get_or, get_or_from_slice_get}

pub contains_got : {X : Type 0} (xs : List X) (k : ℕ) (x : X) → slice_get xs k ≡ Some x → Contains xs x
contains_got xs k x is = (k, slice_get_within xs k x is, get_or_from_slice_get xs k x x is)

contains_later : {X : Type 0} (y : X) (xs : List X) (x : X) → Contains xs x → Contains (y ∷ xs) x
contains_later y xs x there = (suc there.0, omega (arith, there.1), there.2)

-- ---- what a search finds

found_by : {X : Type 0} (b : Bool) (p : X → Bool) (y : X) (ys : List X) (x : X) → p y ≡ b → (find p ys ≡ Some x → Contains ys x × (p x ≡ true)) → cond b (Some y) (find p ys) ≡ Some x → Contains (y ∷ ys) x × (p x ≡ true)
found_by true p y ys x passes rest is =
    let same : y ≡ x = cc in
    ((0, omega arith, same), ap p (sym same) ∙ passes)
found_by false p y ys x passes rest is = let later = rest is in (contains_later y ys x later.0, later.1)

pub found_in : {X : Type 0} (p : X → Bool) (xs : List X) (x : X) → find p xs ≡ Some x → Contains xs x × (p x ≡ true)
found_in p [] x is = absurd cc
found_in p (y ∷ ys) x is = found_by (p y) p y ys x refl (found_in p ys x) is

-- the count of a list is that of its first and that of the others
count_cons : {X : Type 0} (p : X → Bool) (y : X) (ys : List X) → count_by p (y ∷ ys) ≡ cond (p y) 1 0 + count_by p ys
count_cons p y ys =
    let joined = sum_by-append (λ x. cond (p x) 1 0) (y ∷ []) ys in
    omega (arith, joined)

counts_none : {X : Type 0} (b : Bool) (y : X) (found : Option X) (count : ℕ) → (found ≡ None → count ≡ 0) → cond b (Some y) found ≡ None → cond b 1 0 + count ≡ 0
counts_none true y found count rest is = absurd cc
counts_none false y found count rest is = let none = rest is in omega arith

-- what a search doesn't find isn't there at all
pub none_there : {X : Type 0} (p : X → Bool) (xs : List X) → find p xs ≡ None → count_by p xs ≡ 0
none_there p [] is = refl
none_there p (y ∷ ys) is = count_cons p y ys ∙ counts_none (p y) y (find p ys) (count_by p ys) (none_there p ys) is

pub count_push : {X : Type 0} (p : X → Bool) (xs : List X) (x : X) → count_by p (xs ++ x ∷ []) ≡ count_by p xs + cond (p x) 1 0
count_push p xs x =
    let joined = sum_by-append (λ y. cond (p y) 1 0) xs (x ∷ []) in
    omega (arith, joined)

counts_first : (b : Bool) (count : ℕ) → b ≡ true → 1 ≤ cond b 1 0 + count
counts_first true count is = omega arith
counts_first false count is = absurd cc

counted_at : {X : Type 0} (p : X → Bool) (xs : List X) (k : ℕ) (x : X) → slice_get xs k ≡ Some x → p x ≡ true → 1 ≤ count_by p xs
counted_at p [] k x is passes = absurd cc
counted_at p (y ∷ ys) zero x is passes =
    let same : x ≡ y = cc in
    rw (count_cons p y ys) (counts_first (p y) (count_by p ys) (ap p (sym same) ∙ passes))
counted_at p (y ∷ ys) (suc k) x is passes = let rest = counted_at p ys k x is passes in omega (arith, rest, count_cons p y ys)

-- ---- one element in another's place, and one more

pub set_cases : {X : Type 0} (xs : List X) (i : ℕ) (y : X) (k : ℕ) (x : X) → slice_get (set xs i y) k ≡ Some x → ((k ≡ i) × (y ≡ x)) ⊎ (slice_get xs k ≡ Some x)
set_cases [] i y k x is = absurd cc
set_cases (z ∷ zs) zero y zero x is = inl (refl, cc)
set_cases (z ∷ zs) zero y (suc k) x is = inr is
set_cases (z ∷ zs) (suc i) y zero x is = inr is
set_cases (z ∷ zs) (suc i) y (suc k) x is =
    elim (set_cases zs i y k x is) [ inl t ↦ inl (ap suc t.0, t.1) | inr t ↦ inr t ]

pub set_here : {X : Type 0} (xs : List X) (i : ℕ) (y old : X) → slice_get xs i ≡ Some old → slice_get (set xs i y) i ≡ Some y
set_here [] i y old is = absurd cc
set_here (z ∷ zs) zero y old is = refl
set_here (z ∷ zs) (suc i) y old is = set_here zs i y old is

-- an element stays where it is, or the other took its place
pub set_stays : {X : Type 0} (xs : List X) (i : ℕ) (y : X) (k : ℕ) (x : X) → slice_get xs k ≡ Some x → (k ≡ i) ⊎ (slice_get (set xs i y) k ≡ Some x)
set_stays [] i y k x is = absurd cc
set_stays (z ∷ zs) zero y zero x is = inl refl
set_stays (z ∷ zs) zero y (suc k) x is = inr is
set_stays (z ∷ zs) (suc i) y zero x is = inr is
set_stays (z ∷ zs) (suc i) y (suc k) x is =
    elim (set_stays zs i y k x is) [ inl t ↦ inl (ap suc t) | inr t ↦ inr t ]

pub push_cases : {X : Type 0} (xs : List X) (y : X) (k : ℕ) (x : X) → slice_get (xs ++ y ∷ []) k ≡ Some x → (slice_get xs k ≡ Some x) ⊎ ((k ≡ length xs) × (y ≡ x))
push_cases [] y zero x is = inr (refl, cc)
push_cases [] y (suc k) x is = absurd cc
push_cases (z ∷ zs) y zero x is = inl is
push_cases (z ∷ zs) y (suc k) x is =
    elim (push_cases zs y k x is) [ inl t ↦ inl t | inr t ↦ inr (ap suc t.0, t.1) ]

pub push_stays : {X : Type 0} (xs ys : List X) (k : ℕ) (x : X) → slice_get xs k ≡ Some x → slice_get (xs ++ ys) k ≡ Some x
push_stays [] ys k x is = absurd cc
push_stays (z ∷ zs) ys zero x is = is
push_stays (z ∷ zs) ys (suc k) x is = push_stays zs ys k x is

got_at : {X : Type 0} (xs : List X) (k : ℕ) (x : X) → k < length xs → get_or xs k x ≡ x → slice_get xs k ≡ Some x
got_at {X} xs k x below is = slice_get-get_or xs k x below ∙ ap (λ (y : X). Some y) is

pub got_from : {X : Type 0} (xs : List X) (x : X) → Contains xs x → (k : ℕ) × (slice_get xs k ≡ Some x)
got_from xs x there = (there.0, got_at xs there.0 x there.1 there.2)

pub counted : {X : Type 0} (p : X → Bool) (xs : List X) (x : X) → Contains xs x → p x ≡ true → 1 ≤ count_by p xs
counted p xs x there passes =
    let at = got_from xs x there in
    counted_at p xs at.0 x at.1 passes
