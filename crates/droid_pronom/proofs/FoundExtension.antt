-- The extension, by where the last dot is.
use Rattle.std.proofs.Common.{◌≡◌, ℕ, zero, suc, ◌+◌, ◌<◌, ◌≤◌, Bool, true, false, ◌||◌, ◌==◌, List, [], ◌∷◌, length, get_or, drop, refl, sym, arith, add-one, Some, None}
use Rattle.std.specs.List.{list_any}
use Rattle.memchr.specs.Find.{IsLastByte, is_byte}
use Rattle.std.proofs.lemmas.Bool.{false_from_ne_true, eqb-true}
use Rattle.droid_pronom.specs.Found.{is_dot, after_last_dot, extension_of}

-- no dot
any_none : (xs : List ℕ) → ((j : ℕ) → j < length xs → (get_or xs j 0 == 46) ≡ true → ⊥) → list_any is_dot xs ≡ false
any_none [] none = refl
any_none (x ∷ xs) none =
    let here : (x == 46) ≡ false = false_from_ne_true _ (none 0 (omega arith)) in
    rw here (any_none xs (λ j below. none (suc j) (omega arith)))

-- a dot at a place
any_at : (xs : List ℕ) (k : ℕ) → k < length xs → (get_or xs k 0 == 46) ≡ true → list_any is_dot xs ≡ true
any_at [] k below dot = absurd (omega arith)
any_at (x ∷ xs) zero below dot = rw dot refl
any_at (x ∷ xs) (suc k) below dot = rw (any_at xs k (omega arith) dot) (or_true (x == 46))
  where
    or_true : (b : Bool) → (b || true) ≡ true
    or_true true = refl
    or_true false = refl

after_none : (xs : List ℕ) → ((j : ℕ) → j < length xs → (get_or xs j 0 == 46) ≡ true → ⊥) → after_last_dot xs ≡ []
after_none [] none = refl
after_none (x ∷ xs) none =
    let here : (x == 46) ≡ false = false_from_ne_true _ (none 0 (omega arith)) in
    let later : list_any is_dot xs ≡ false = any_none xs (λ j below. none (suc j) (omega arith)) in
    rw (later, here) refl

after_at : (xs : List ℕ) (k : ℕ) → k < length xs → (get_or xs k 0 == 46) ≡ true → ((j : ℕ) → k < j → j < length xs → (get_or xs j 0 == 46) ≡ true → ⊥)
    → after_last_dot xs ≡ drop (suc k) xs
after_at [] k below dot last = absurd (omega arith)
after_at (x ∷ xs) zero below dot last =
    let later : list_any is_dot xs ≡ false = any_none xs (λ j b. last (suc j) (omega arith) (omega arith)) in
    rw (later, dot) refl
after_at (x ∷ xs) (suc k) below dot last =
    let later : list_any is_dot xs ≡ true = any_at xs k (omega arith) dot in
    rw later (after_at xs k (omega arith) dot (λ j more b. last (suc j) (omega arith) (omega arith)))

-- the last dot is past the first byte
pub extension_at : (name : List ℕ) (k : ℕ) → 0 < k → k < length name → (get_or name k 0 == 46) ≡ true
    → ((j : ℕ) → k < j → j < length name → (get_or name j 0 == 46) ≡ true → ⊥) → drop (k + 1) name ≡ extension_of name
extension_at [] k past below dot last = absurd (omega arith)
extension_at (x ∷ xs) zero past below dot last = absurd (omega arith)
extension_at (x ∷ xs) (suc k) past below dot last =
    rw add-one (sym (after_at xs k (omega arith) dot (λ j more b. last (suc j) (omega arith) (omega arith))))

-- no dot is past the first byte
pub extension_none : (name : List ℕ) → ((j : ℕ) → 0 < j → j < length name → (get_or name j 0 == 46) ≡ true → ⊥) → [] ≡ extension_of name
extension_none [] none = refl
extension_none (x ∷ xs) none = sym (after_none xs (λ j below. none (suc j) (omega arith) (omega arith)))

-- ---- the same from what the search for the last dot says

pub dot_at : (name : List ℕ) (k : ℕ) → IsLastByte (is_byte 46) name (Some k) → (k < length name) × (get_or name k 0 ≡ 46)
dot_at name k h = (h.0.high, eqb-true _ _ h.1)

pub extension_some : (name : List ℕ) (k : ℕ) → IsLastByte (is_byte 46) name (Some k) → 0 < k → drop (k + 1) name ≡ extension_of name
extension_some name k h past = extension_at name k past h.0.high h.1 (λ j more below. h.0.after j (omega arith) below)

pub extension_first : (name : List ℕ) (k : ℕ) → IsLastByte (is_byte 46) name (Some k) → k ≤ 0 → [] ≡ extension_of name
extension_first name k h first = extension_none name (λ j past below. h.0.after j (omega arith) below)

pub extension_no_dot : (name : List ℕ) → IsLastByte (is_byte 46) name None → [] ≡ extension_of name
extension_no_dot name h = extension_none name (λ j past below. h j (omega arith) below)
