-- One more signature that is left out.
use Rattle.std.proofs.Common.{◌≡◌, ◌∙◌, ℕ, ◌+◌, ◌-◌, ◌^◌, ◌<◌, ◌==◌, min, Bool, true, false, cond, List, [], ◌∷◌, ◌++◌, length, take, get_or, count_by, Option, Some, None, refl, sym, ap, subst, arith}
use Rattle.std.specs.Prelude.{unwrap_or}
use Rattle.std.specs.Ordering.{is_eq, nat_cmp}
use Rattle.std.proofs.lemmas.Bool.{eqb-true}
use Rattle.std.proofs.lemmas.List.Sums.{sum_by_push}
use Rattle.droid_signature.specs.declared.left_out.LeftOut.{LeftOut}
use Rattle.droid_signature.specs.AllLeftOut.{Adds, AreCountsOf, count_at, count_of, holder_of, is_of, is_place}
use Rattle.droid_signature.specs.declared.omissions.Counts.{Counts}
use Rattle.droid_signature.proofs.Naming.{same_key}

pub added : (k q count : ℕ) (old new : Option ℕ) → new ≡ cond (is_eq (nat_cmp k q)) (Some count) old → unwrap_or new 0 ≡ cond (k == q) count (unwrap_or old 0)
added k q count old new made = ap (λ o. unwrap_or o 0) (made ∙ ap (λ t. cond t (Some count) old) (same_key k q)) ∙ by (k == q)
  where
    by : (t : Bool) → unwrap_or (cond t (Some count) old) 0 ≡ cond t count (unwrap_or old 0)
    by true = refl
    by false = refl

count_push : (place : ℕ) (left : List LeftOut) (it : LeftOut) → count_of place (left ++ it ∷ []) ≡ cond (is_of place it) (min (count_of place left + 1) (2 ^ 64 - 1)) (count_of place left)
count_push place left it = ap (λ n. min n (2 ^ 64 - 1)) (sum_by_push (λ y. cond (is_of place y) 1 0) left it) ∙ by (is_of place it) (count_by (is_of place) left)
  where
    by : (t : Bool) (n : ℕ) → min (n + cond t 1 0) (2 ^ 64 - 1) ≡ cond t (min (min n (2 ^ 64 - 1) + 1) (2 ^ 64 - 1)) (min n (2 ^ 64 - 1))
    by true n = omega arith
    by false n = omega arith

pub with_one : (left : List LeftOut) (it : LeftOut) (place : ℕ) (old new : Counts) → holder_of it.format it.item ≡ Some place → AreCountsOf left old → Adds place old new → AreCountsOf (left ++ it ∷ []) new
with_one left it place old new held are adds = record {
  each = λ q.
      adds.each q ∙ ap (λ n. cond (place == q) (min (n + 1) (2 ^ 64 - 1)) (count_at old q)) (are.each place) ∙ same q (place == q) refl
      ∙ sym (count_push q left it ∙ ap (λ h. cond (is_place q h) (min (count_of q left + 1) (2 ^ 64 - 1)) (count_of q left)) held);
}
  where
    same : (q : ℕ) (t : Bool) → (place == q) ≡ t → cond (place == q) (min (count_of place left + 1) (2 ^ 64 - 1)) (count_at old q) ≡ cond (place == q) (min (count_of q left + 1) (2 ^ 64 - 1)) (count_of q left)
    same q true is = let equal : place ≡ q = eqb-true place q is in rw is (ap (λ p. min (count_of p left + 1) (2 ^ 64 - 1)) equal)
    same q false is = rw is (are.each q)

pub with_none : (left : List LeftOut) (it : LeftOut) (map : Counts) → holder_of it.format it.item ≡ None → AreCountsOf left map → AreCountsOf (left ++ it ∷ []) map
with_none left it map held are = record {
  each = λ q. are.each q ∙ sym (count_push q left it ∙ ap (λ h. cond (is_place q h) (min (count_of q left + 1) (2 ^ 64 - 1)) (count_of q left)) held);
}
