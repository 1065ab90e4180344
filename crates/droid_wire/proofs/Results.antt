-- What holds of a value that may be missing.
use Rattle.std.proofs.Common.{◌≡◌, Option, Some, None, IsSome, Result, Ok, Err, refl, subst}
use Rattle.std.specs.Prelude.{IfErr, IfOk, IfSome, IsErrOf}
use Rattle.droid_journal.specs.declared.journal_fault.Fault.{Fault}
use Rattle.droid_journal.specs.declared.journal_fault.Fault.TheVariants.{Memory}

-- there is none
pub none_there : {A : Type 0} (P : A → Type 0) (o : Option A) → (IsSome o → ⊥) → IfSome o P
none_there P None none = tt
none_there P (Some x) none = absurd (none refl)

-- there is one
pub some_there : {A : Type 0} (o : Option A) → (o ≡ None → ⊥) → IsSome o
some_there None not = absurd (not refl)
some_there (Some x) not = refl

pub some_weaker : {A : Type 0} (P Q : A → Type 0) (o : Option A) → ((x : A) → P x → Q x) → IfSome o P → IfSome o Q
some_weaker P Q None more if = tt
some_weaker P Q (Some x) more if = more x if

-- what holds whatever else is, and what holds if there is one
pub both_there : {A E : Type 0} (r : Result (Option A) E) (B C : Type 0) (P : A → Type 0) → B → IfOk r (λ o. IsSome o → C) → IfOk r (λ o. IfSome o P) → IfOk r (λ o. IfSome o (λ a. B × C × P a))
both_there (Ok (Some a)) B C P b some there = (b, some refl, there)
both_there (Ok None) B C P b some there = tt
both_there (Err e) B C P b some there = tt

-- what holds of it for each of these
pub each_there : {A E : Type 0} (X : Type 0) (Y : X → Type 0) (r : Result (Option A) E) (P : (x : X) → Y x → A → Type 0) → ((x : X) (y : Y x) → IfOk r (λ o. IfSome o (P x y))) → IfOk r (λ o. IfSome o (λ a. (x : X) (y : Y x) → P x y a))
each_there X Y (Ok (Some a)) P each = λ x y. each x y
each_there X Y (Ok None) P each = tt
each_there X Y (Err e) P each = tt

pub only_memory : {A : Type 0} (r : Result A Fault) (fault : Fault) → IfErr r (λ f. f ≡ Memory) → IsErrOf r fault → fault ≡ Memory
only_memory r fault is reported = subst (λ x. IfErr x (λ f. f ≡ Memory)) reported is
