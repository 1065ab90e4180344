-- What is said of a fault that is passed on, and of an item of a list.
use Rattle.std.proofs.Common.{◌≡◌, ℕ, zero, suc, ◌+◌, ◌<◌, List, [], ◌∷◌, ◌++◌, length, map, take, get_or, Result, Ok, Err, sym, ap, ◌∙◌, append_assoc, arith}
use Rattle.std.specs.List.{Any, AllByRecursion, flat_map}
use Rattle.std.specs.Result.{IsErrAnd}
use Rattle.std.proofs.lemmas.Result.{err_from_is_err_and}
use Rattle.std.proofs.lemmas.List.{append-nil, get_or-map, length-map, map-append, take_more}
use Rattle.std.proofs.lemmas.List.Concat.{flat_map-append}
use Rattle.droid_signature_pattern.specs.Outcomes.{IfLeftOut, Says}
use Rattle.droid_signature_pattern.specs.declared.reason.Stop.{Stop}
use Rattle.droid_signature_pattern.specs.declared.reason.Stop.TheVariants.{Memory, LeftOut}
use Rattle.droid_signature_pattern.specs.declared.reason.Reason.{Reason}

-- out of memory
pub ended : {X : Type 0} (P : Reason → Type 0) (r : Result X Stop) → IsErrAnd r (λ y. y ≡ Memory) → IfLeftOut r P
ended P r is = let p = err_from_is_err_and r is in rw (p.1, p.2) tt

weaker : (P Q : Reason → Type 0) (e : Stop) → ((reason : Reason) → Q reason → P reason) → Says e Q → Says e P
weaker P Q Memory more h = tt
weaker P Q (LeftOut reason) more h = more reason h

-- a stop that is passed on
pub passed_on : {X : Type 0} (P Q : Reason → Type 0) (r : Result X Stop) (e : Stop) → IsErrAnd r (λ y. y ≡ e) → ((reason : Reason) → Q reason → P reason) → Says e Q → IfLeftOut r P
passed_on P Q r e is more h = let p = err_from_is_err_and r is in rw (p.1, p.2) (weaker P Q e more h)

-- a reason that becomes a stop
pub left_out : {X : Type 0} (P : Reason → Type 0) (r : Result X Stop) (reason : Reason) → IsErrAnd r (λ y. y ≡ LeftOut reason) → P reason → IfLeftOut r P
left_out P r reason is h = let p = err_from_is_err_and r is in rw (p.1, p.2) h

-- a result that is returned as it is
pub same_stop : {X : Type 0} (P Q : Reason → Type 0) (r : Result X Stop) → ((reason : Reason) → Q reason → P reason) → IfLeftOut r Q → IfLeftOut r P
same_stop P Q (Ok x) more h = tt
same_stop P Q (Err e) more h = weaker P Q e more h

-- an item at a place
pub any_at : {X : Type 0} (P : X → Type 0) (xs : List X) (k : ℕ) (x : X) → k < length xs → x ≡ get_or xs k x → P x → Any P xs
any_at P xs k x below is holds = (k, x, below, sym is, holds)

pub any_map : {X Y : Type 0} (P : Y → Type 0) (f : X → Y) (xs : List X) (k : ℕ) (x : X) → k < length xs → x ≡ get_or xs k x → P (f x) → Any P (map f xs)
any_map P f xs k x below is holds =
    let long : k < length (map f xs) = omega (arith, length-map xs f) in
    (k, f x, long, get_or-map f xs k x (f x) below ∙ ap f (sym is), holds)

-- an item of the first or of the second list
pub any_right : {X : Type 0} (P : X → Type 0) (xs ys : List X) → Any P ys → Any P (xs ++ ys)
any_right P [] ys h = h
any_right P (x ∷ xs) ys h = let (k, y, below, is, holds) = any_right P xs ys h in (suc k, y, omega arith, is, holds)

pub any_left : {X : Type 0} (P : X → Type 0) (xs ys : List X) → Any P xs → Any P (xs ++ ys)
any_left P [] ys (k, x, below, is, holds) = absurd (omega arith)
any_left P (x ∷ xs) ys (zero, y, below, is, holds) = (zero, y, omega arith, is, holds)
any_left P (x ∷ xs) ys (suc k, y, below, is, holds) = let (k', y', below', is', holds') = any_left P xs ys (k, y, omega arith, is, holds) in (suc k', y', omega arith, is', holds')

-- what holds of each item of two lists
pub all_append : {X : Type 0} (P : X → Type 0) (xs ys : List X) → AllByRecursion P xs → AllByRecursion P ys → AllByRecursion P (xs ++ ys)
all_append P [] ys a b = b
all_append P (x ∷ xs) ys (here, more) b = (here, all_append P xs ys more b)

-- one more item of a list that a loop makes
pub map_more : {X Y Z : Type 0} (g : Y → Z) (f : X → Y) (xs : List X) (i : ℕ) (x : X) (done new : List Z) (z : Z) → i < length xs → x ≡ get_or xs i x → done ≡ map g (take i (map f xs)) → z ≡ g (f x)
    → new ≡ done ++ z ∷ [] → new ≡ map g (take (i + 1) (map f xs))
map_more g f xs i x done new z below is so_far made grown =
    let long : i < length (map f xs) = omega (arith, length-map xs f) in
    let there : get_or (map f xs) i (f x) ≡ f x = get_or-map f xs i x (f x) below ∙ ap f (sym is) in
    grown
    ∙ ap (λ l. l ++ z ∷ []) so_far
    ∙ ap (λ y. map g (take i (map f xs)) ++ y ∷ []) (made ∙ ap g (sym there))
    ∙ sym (map-append g (take i (map f xs)) (get_or (map f xs) i (f x) ∷ []))
    ∙ ap (map g) (sym (take_more (map f xs) i (f x) long))

pub flat_more : {X Y : Type 0} (g : Y → List ℕ) (f : X → Y) (xs : List X) (i : ℕ) (x : X) (old before all : List ℕ) → i < length xs → x ≡ get_or xs i x → before ≡ old ++ flat_map g (take i (map f xs))
    → all ≡ before ++ g (f x) → all ≡ old ++ flat_map g (take (i + 1) (map f xs))
flat_more g f xs i x old before all below is so_far grown =
    let long : i < length (map f xs) = omega (arith, length-map xs f) in
    let there : get_or (map f xs) i (f x) ≡ f x = get_or-map f xs i x (f x) below ∙ ap f (sym is) in
    grown
    ∙ ap (λ l. l ++ g (f x)) so_far
    ∙ append_assoc old (flat_map g (take i (map f xs))) (g (f x))
    ∙ ap (λ y. old ++ (flat_map g (take i (map f xs)) ++ y)) (ap g (sym there) ∙ sym (append-nil (g (get_or (map f xs) i (f x)))))
    ∙ ap (λ l. old ++ l) (sym (flat_map-append g (take i (map f xs)) (get_or (map f xs) i (f x) ∷ [])))
    ∙ ap (λ l. old ++ flat_map g l) (sym (take_more (map f xs) i (f x) long))
