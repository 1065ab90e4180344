-- Lists of flags, and facts on each or some item of a list.
use Rattle.std.proofs.Common.{◌≡◌, ◌⊎◌, ℕ, zero, suc, ◌+◌, ◌<◌, Bool, true, false, List, [], ◌∷◌, ◌++◌, length, Some, refl, ap, sym, ◌∙◌, inl, inr, arith, set, replicate, get_or, drop, add-one, drop-cons}
use Rattle.std.proofs.lemmas.Option.{slice_get-get_or}
use Rattle.std.specs.List.{slice_get, AllByRecursion}
use Rattle.droid_pronom.specs.Registry.{AnyOf}

pub all_push : {X : Type 0} (P : X → Type 0) (xs : List X) (x : X) → AllByRecursion P xs → P x → AllByRecursion P (xs ++ x ∷ [])
all_push P [] x h p = (p, tt)
all_push P (y ∷ ys) x h p = (h.0, all_push P ys x h.1 p)

pub all_more : {X : Type 0} (P Q : X → Type 0) → ((x : X) → P x → Q x) → (xs : List X) → AllByRecursion P xs → AllByRecursion Q xs
all_more P Q f [] h = tt
all_more P Q f (y ∷ ys) h = (f y h.0, all_more P Q f ys h.1)

pub any_more : {X : Type 0} (P Q : X → Type 0) → ((x : X) → P x → Q x) → (xs : List X) → AnyOf P xs → AnyOf Q xs
any_more P Q f [] h = absurd h
any_more P Q f (y ∷ ys) h = elim h [ inl p ↦ inl (f y p) | inr a ↦ inr (any_more P Q f ys a) ]

pub any_before : {X : Type 0} (P : X → Type 0) (xs : List X) (x : X) → AnyOf P xs → AnyOf P (xs ++ x ∷ [])
any_before P [] x h = absurd h
any_before P (y ∷ ys) x h = elim h [ inl p ↦ inl p | inr a ↦ inr (any_before P ys x a) ]

pub any_last : {X : Type 0} (P : X → Type 0) (xs : List X) (x : X) → P x → AnyOf P (xs ++ x ∷ [])
any_last P [] x p = inl p
any_last P (y ∷ ys) x p = inr (any_last P ys x p)

pub any_parts : {X : Type 0} (P : X → Type 0) (xs : List X) (x : X) → AnyOf P (xs ++ x ∷ []) → AnyOf P xs ⊎ P x
any_parts P [] x h = elim h [ inl p ↦ inr p | inr a ↦ absurd a ]
any_parts P (y ∷ ys) x h = elim h [ inl p ↦ inl (inl p) | inr a ↦ elim (any_parts P ys x a) [ inl b ↦ inl (inr b) | inr p ↦ inr p ] ]

-- a flag that was set stands
pub set_here : (flags : List Bool) (p : ℕ) → p < length flags → slice_get (set flags p true) p ≡ Some true
set_here [] p h = absurd (omega arith)
set_here (b ∷ bs) zero h = refl
set_here (b ∷ bs) (suc p) h = set_here bs p (omega arith)

pub set_keeps : (flags : List Bool) (p k : ℕ) → slice_get flags k ≡ Some true → slice_get (set flags p true) k ≡ Some true
set_keeps [] p k h = h
set_keeps (b ∷ bs) zero zero h = refl
set_keeps (b ∷ bs) zero (suc k) h = h
set_keeps (b ∷ bs) (suc p) zero h = h
set_keeps (b ∷ bs) (suc p) (suc k) h = set_keeps bs p k h

pub set_only : (flags : List Bool) (p k : ℕ) → slice_get (set flags p true) k ≡ Some true → (k ≡ p) ⊎ (slice_get flags k ≡ Some true)
set_only [] p k h = inr h
set_only (b ∷ bs) zero zero h = inl refl
set_only (b ∷ bs) zero (suc k) h = inr h
set_only (b ∷ bs) (suc p) zero h = inr h
set_only (b ∷ bs) (suc p) (suc k) h = elim (set_only bs p k h) [ inl e ↦ inl (ap suc e) | inr g ↦ inr g ]

-- no flag stands in a list of unset ones
pub unset : (n k : ℕ) → slice_get (replicate n false) k ≡ Some true → ⊥
unset zero k h = cc
unset (suc n) zero h = cc
unset (suc n) (suc k) h = unset n k h

-- one more flag that is unset
pub unset_push : (flags : List Bool) (k : ℕ) → slice_get (flags ++ false ∷ []) k ≡ Some true → slice_get flags k ≡ Some true
unset_push [] zero h = cc
unset_push [] (suc k) h = cc
unset_push (b ∷ bs) zero h = h
unset_push (b ∷ bs) (suc k) h = unset_push bs k h

pub push_keeps : (flags : List Bool) (b : Bool) (k : ℕ) → slice_get flags k ≡ Some true → slice_get (flags ++ b ∷ []) k ≡ Some true
push_keeps [] b k h = cc
push_keeps (c ∷ cs) b zero h = h
push_keeps (c ∷ cs) b (suc k) h = push_keeps cs b k h

-- a flag that reads as set stands, and one that doesn't, doesn't
pub stands_at : (flags : List Bool) (p : ℕ) (d : Bool) → p < length flags → get_or flags p d ≡ true → slice_get flags p ≡ Some true
stands_at flags p d below e = slice_get-get_or flags p d below ∙ ap Some e

pub stands_not : (flags : List Bool) (p : ℕ) (d : Bool) → p < length flags → get_or flags p d ≡ false → slice_get flags p ≡ Some true → ⊥
stands_not flags p d below e stands = let is = sym stands ∙ slice_get-get_or flags p d below ∙ ap Some e in cc

-- the items from a place on
pub rest_at : {X : Type 0} (xs : List X) (i : ℕ) (d : X) → i < length xs → drop i xs ≡ get_or xs i d ∷ drop (i + 1) xs
rest_at xs i d below = rw (add-one, drop-cons xs i d) refl

pub rest_of_item : {X : Type 0} (xs : List X) (i : ℕ) (x : X) → i < length xs → x ≡ get_or xs i x → drop i xs ≡ x ∷ drop (i + 1) xs
rest_of_item xs i x below e = rest_at xs i x below ∙ ap (λ y. y ∷ drop (i + 1) xs) (sym e)
