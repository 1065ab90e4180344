-- Reading each of a list: one more, and where one is none.
use Rattle.std.proofs.Common.{◌≡◌, ℕ, zero, suc, ◌<◌, List, [], ◌∷◌, ◌++◌, length, get_or, Option, Some, None, refl, arith}
use Rattle.droid_frame.specs.Reading.{◌>>=◌}
use Rattle.droid_lines.specs.Exports.{every}

more_after : {B : Type 0} (first : Option B) (others then : Option (List B)) (ys : List B) (y : B)
    → (first >>= λ a. others >>= λ bs. Some (a ∷ bs)) ≡ Some ys → ((zs : List B) → others ≡ Some zs → then ≡ Some (zs ++ y ∷ []))
    → (first >>= λ a. then >>= λ bs. Some (a ∷ bs)) ≡ Some (ys ++ y ∷ [])
more_after None others then ys y e more = absurd cc
more_after (Some a) None then ys y e more = absurd cc
more_after (Some a) (Some zs) then ys y e more = let is : ys ≡ a ∷ zs = cc in rw (more zs refl, is) refl

pub every_more : {A B : Type 0} (read : A → Option B) (xs : List A) (ys : List B) (x : A) (y : B) → every read xs ≡ Some ys → read x ≡ Some y → every read (xs ++ x ∷ []) ≡ Some (ys ++ y ∷ [])
every_more read [] ys x y so_far is = let none : ys ≡ [] = cc in rw (is, none) refl
every_more read (z ∷ xs) ys x y so_far is =
    more_after (read z) (every read xs) (every read (xs ++ x ∷ [])) ys y so_far (λ zs before. every_more read xs zs x y before is)

none_after : {B : Type 0} (first : Option B) (others : Option (List B)) → others ≡ None → (first >>= λ a. others >>= λ bs. Some (a ∷ bs)) ≡ None
none_after None others e = refl
none_after (Some a) others e = rw e refl

pub every_none : {A B : Type 0} (read : A → Option B) (xs : List A) (i : ℕ) (d : A) → i < length xs → read (get_or xs i d) ≡ None → every read xs ≡ None
every_none read [] i d below none = absurd (omega arith)
every_none read (x ∷ xs) zero d below none = rw none refl
every_none read (x ∷ xs) (suc i) d below none = none_after (read x) (every read xs) (every_none read xs i d (omega arith) none)
