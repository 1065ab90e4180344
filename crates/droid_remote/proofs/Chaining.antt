-- Steps after steps.
use Rattle.std.proofs.Common.{List, [], ◌∷◌, ◌++◌, refl, subst}
use Rattle.droid_remote.specs.Chains.{GoesOver}

pub over_one : {S A : Type 0} (step : S → A → S → Type 0) (first last : S) (item : A) → step first item last → GoesOver step first (item ∷ []) last
over_one step first last item does = (last, does, refl)

pub over_more : {S A : Type 0} (step : S → A → S → Type 0) (first middle last : S) (xs ys : List A) → GoesOver step first xs middle → GoesOver step middle ys last → GoesOver step first (xs ++ ys) last
over_more {S} {A} step first middle last [] ys p q = subst (λ (s : S). GoesOver step s ys last) p q
over_more {S} {A} step first middle last (x ∷ xs) ys p q = (p.0, p.1, over_more step p.0 middle last xs ys p.2 q)
