-- A test of some or all items of a list, made place by place: the remaining items decide it.
use Rattle.std.proofs.Common.{◌≡◌, ℕ, zero, suc, ◌+◌, ◌<◌, ◌≤◌, Bool, true, false, ◌||◌, ◌&&◌, List, [], ◌∷◌, Some, None, length, drop, refl, sym, ◌∙◌, ap, arith, add-one}
use Rattle.std.specs.List.{list_any, list_all, slice_get}
use Rattle.std.proofs.lemmas.List.{drop_all}
use Rattle.std.proofs.lemmas.Option.{slice_get_within}

or_true : (b : Bool) → (b || true) ≡ true
or_true true = refl
or_true false = refl

and_false : (b : Bool) → (b && false) ≡ false
and_false true = refl
and_false false = refl

-- an item that passes
pub any_found : {X : Type 0} (p : X → Bool) (xs : List X) (k : ℕ) (x : X) → slice_get xs k ≡ Some x → p x ≡ true → true ≡ list_any p xs
any_found p [] k x here passes = absurd (omega (arith, slice_get_within [] k x here))
any_found p (y ∷ ys) zero x here passes =
    let same : y ≡ x = cc in
    rw (same, passes) refl
any_found p (y ∷ ys) (suc k) x here passes = rw (← any_found p ys k x here passes) (sym (or_true (p y)))

any_rest : {X : Type 0} (p : X → Bool) (xs : List X) (k : ℕ) (x : X) → slice_get xs k ≡ Some x → p x ≡ false → list_any p (drop (suc k) xs) ≡ list_any p (drop k xs)
any_rest p [] k x here fails = absurd (omega (arith, slice_get_within [] k x here))
any_rest p (y ∷ ys) zero x here fails =
    let same : y ≡ x = cc in
    rw (same, fails) refl
any_rest p (y ∷ ys) (suc k) x here fails = any_rest p ys k x here fails

-- an item that doesn't
pub any_next : {X : Type 0} (p : X → Bool) (xs : List X) (k : ℕ) (x : X) → slice_get xs k ≡ Some x → p x ≡ false
    → list_any p (drop k xs) ≡ list_any p xs → list_any p (drop (k + 1) xs) ≡ list_any p xs
any_next p xs k x here fails so_far = rw add-one (any_rest p xs k x here fails ∙ so_far)

-- no item is left
pub any_end : {X : Type 0} (p : X → Bool) (xs : List X) (k : ℕ) → length xs ≤ k → list_any p (drop k xs) ≡ list_any p xs → false ≡ list_any p xs
any_end p xs k past so_far = ap (list_any p) (sym (drop_all k xs past)) ∙ so_far

-- an item that doesn't pass
pub all_missed : {X : Type 0} (p : X → Bool) (xs : List X) (k : ℕ) (x : X) → slice_get xs k ≡ Some x → p x ≡ false → false ≡ list_all p xs
all_missed p [] k x here fails = absurd (omega (arith, slice_get_within [] k x here))
all_missed p (y ∷ ys) zero x here fails =
    let same : y ≡ x = cc in
    rw (same, fails) refl
all_missed p (y ∷ ys) (suc k) x here fails = rw (← all_missed p ys k x here fails) (sym (and_false (p y)))

all_rest : {X : Type 0} (p : X → Bool) (xs : List X) (k : ℕ) (x : X) → slice_get xs k ≡ Some x → p x ≡ true → list_all p (drop (suc k) xs) ≡ list_all p (drop k xs)
all_rest p [] k x here passes = absurd (omega (arith, slice_get_within [] k x here))
all_rest p (y ∷ ys) zero x here passes =
    let same : y ≡ x = cc in
    rw (same, passes) refl
all_rest p (y ∷ ys) (suc k) x here passes = all_rest p ys k x here passes

-- an item that does
pub all_next : {X : Type 0} (p : X → Bool) (xs : List X) (k : ℕ) (x : X) → slice_get xs k ≡ Some x → p x ≡ true
    → list_all p (drop k xs) ≡ list_all p xs → list_all p (drop (k + 1) xs) ≡ list_all p xs
all_next p xs k x here passes so_far = rw add-one (all_rest p xs k x here passes ∙ so_far)

pub all_end : {X : Type 0} (p : X → Bool) (xs : List X) (k : ℕ) → length xs ≤ k → list_all p (drop k xs) ≡ list_all p xs → true ≡ list_all p xs
all_end p xs k past so_far = ap (list_all p) (sym (drop_all k xs past)) ∙ so_far

-- an item that isn't there
pub some_is_there : {X : Type 0} {P : Type 0} (xs : List X) (k : ℕ) → slice_get xs k ≡ None → k < length xs → P
some_is_there [] k gone below = absurd (omega arith)
some_is_there (x ∷ xs) zero gone below = cc gone
some_is_there (x ∷ xs) (suc k) gone below = some_is_there xs k gone (omega arith)
