-- The fields of a record, by their places.
use Rattle.std.proofs.Common.{◌≡◌, ℕ, zero, suc, ◌<◌, List, [], ◌∷◌, length, Option, Some, None, IsSome, option_map, refl, sym, ap, ◌∙◌, arith}
use Rattle.csv.specs.Records.{field_at}

-- a field that is there
field_there : (xs : List (List ℕ)) (i : ℕ) → i < length xs → IsSome (field_at xs i)
unfolding field_at
field_there [] i h = absurd (omega arith)
field_there (x ∷ xs) zero h = refl
field_there (x ∷ xs) (suc i) h = field_there xs i (omega arith)

some_of_map : {A B : Type 0} (f : A → B) (r : Option A) (s : Option B) → option_map f r ≡ s → IsSome s → IsSome r
some_of_map f None s e h = rw (sym e) at h
some_of_map f (Some x) s e h = refl

-- the field that a call gives is there
pub field_given : {A : Type 0} (f : A → List ℕ) (xs : List (List ℕ)) (i : ℕ) (r : Option A) → option_map f r ≡ field_at xs i → i < length xs → IsSome r
field_given f xs i r e h = some_of_map f r (field_at xs i) e (field_there xs i h)

-- the field that a call gave
pub field_is : {A : Type 0} (f : A → List ℕ) (xs : List (List ℕ)) (i : ℕ) (r : Option A) (x : A) → option_map f r ≡ field_at xs i → r ≡ Some x → Some (f x) ≡ field_at xs i
field_is f xs i r x e h = sym (ap (option_map f) h) ∙ e

-- a list of six, by its items
pub six : (xs : List (List ℕ)) (a b c d e f : List ℕ) → length xs ≡ 6 → Some a ≡ field_at xs 0 → Some b ≡ field_at xs 1 → Some c ≡ field_at xs 2 → Some d ≡ field_at xs 3 → Some e ≡ field_at xs 4 → Some f ≡ field_at xs 5
    → xs ≡ a ∷ b ∷ c ∷ d ∷ e ∷ f ∷ []
unfolding field_at
six [] a b c d e f n p q r s t u = absurd (omega arith)
six (x0 ∷ []) a b c d e f n p q r s t u = absurd (omega arith)
six (x0 ∷ x1 ∷ []) a b c d e f n p q r s t u = absurd (omega arith)
six (x0 ∷ x1 ∷ x2 ∷ []) a b c d e f n p q r s t u = absurd (omega arith)
six (x0 ∷ x1 ∷ x2 ∷ x3 ∷ []) a b c d e f n p q r s t u = absurd (omega arith)
six (x0 ∷ x1 ∷ x2 ∷ x3 ∷ x4 ∷ []) a b c d e f n p q r s t u = absurd (omega arith)
six (x0 ∷ x1 ∷ x2 ∷ x3 ∷ x4 ∷ x5 ∷ []) a b c d e f n p q r s t u = cc
six (x0 ∷ x1 ∷ x2 ∷ x3 ∷ x4 ∷ x5 ∷ x6 ∷ more) a b c d e f n p q r s t u = absurd (omega arith)
