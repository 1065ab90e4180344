-- A lane with a run that has not ended takes a part of it, and a lane with one that has stays as it is.
use Rattle.std.proofs.Common.{◌≡◌, ℕ, ◌+◌, ◌<◌, ◌≤◌, Bool, true, false, nat_lt, if◌then◌else◌, List, [], fold, length, map, slice_index_or, take, drop, inl, inr, sym, ap, subst, ◌∙◌, arith, length-drop}
use Rattle.std.proofs.Math.ListN.{get_or-map}
use Rattle.std.proofs.lemmas.Bool.{cases_lt}
use Rattle.std.proofs.lemmas.Bool.Decides.{nat_tests}
use Rattle.std.proofs.lemmas.List.{drop_all, take_all}
use Rattle.md5.specs.Md5.{compress}

pub lt_true : (a b : ℕ) → a < b → nat_lt a b ≡ true
lt_true a b h = grind (arith, nat_tests)

pub lt_false : (a b : ℕ) → b ≤ a → nat_lt a b ≡ false
lt_false a b h = grind (arith, nat_tests)

-- the run from `at` on, or the filler where it has ended
abbrev pub IsPart : ℕ → List (List ℕ) → List (List ℕ) → List (List ℕ) → Type 0
IsPart at run filler part = part ≡ (if nat_lt at (length run) then drop at run else drop at filler)

pub part_long : (at count : ℕ) (run filler part : List (List ℕ)) → IsPart at run filler part → at + count ≤ length filler
    → (at < length run → at + count ≤ length run) → count ≤ length part
part_long at count run filler part ep fits inside = elim (cases_lt at (length run)) [
  | inl going ↦
      let t = lt_true at (length run) going in
      let e : part ≡ drop at run = rw t at ep in
      omega (arith, ap length e, length-drop at run, inside going)
  | inr ended ↦
      let t = lt_false at (length run) ended in
      let e : part ≡ drop at filler = rw t at ep in
      omega (arith, ap length e, length-drop at filler)
]

pub part_taken : (at count : ℕ) (run filler part : List (List ℕ)) (named : Bool) (h new result : List ℕ) → IsPart at run filler part → named ≡ nat_lt at (length run)
    → new ≡ fold compress h (take count part) → result ≡ (if named then new else h) → result ≡ fold compress h (take count (drop at run))
part_taken at count run filler part named h new result ep en et er = elim (cases_lt at (length run)) [
  | inl going ↦
      let t = lt_true at (length run) going in
      let e : part ≡ drop at run = rw t at ep in
      let n : named ≡ true = en ∙ t in
      let r : result ≡ new = rw n at er in
      r ∙ et ∙ ap (λ x. fold compress h (take count x)) e
  | inr ended ↦
      let n : named ≡ false = en ∙ lt_false at (length run) ended in
      let r : result ≡ h = rw n at er in
      let none : drop at run ≡ [] = drop_all at run ended in
      r ∙ sym (ap (λ x. fold compress h x) (ap (take count) none ∙ take_all count [] (omega arith)))
]

-- what holds of a run's end for a number of blocks holds for any lower one
pub shorter_inside : {A : Type 0} (f : A → List (List ℕ)) (xs : List A) (k : ℕ) (d : A) (at low r : ℕ)
    → (at < length (f (slice_index_or xs k d)) → at + low ≤ length (f (slice_index_or xs k d))) → r ≤ low
    → at < length (slice_index_or (map f xs) k (f d)) → at + r ≤ length (slice_index_or (map f xs) k (f d))
shorter_inside f xs k d at low r inside le =
    subst (λ (x : List (List ℕ)). at < length x → at + r ≤ length x) (sym (get_or-map f xs k d)) (λ h. omega (arith, inside h))
