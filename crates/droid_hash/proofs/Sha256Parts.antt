-- A lane of SHA-256 with a run that has not ended takes a part of it, and a lane with one that has stays as it is.
use Rattle.std.proofs.Common.{◌≡◌, ℕ, Bool, true, false, nat_lt, if◌then◌else◌, List, [], fold, length, take, drop, inl, inr, sym, ap, ◌∙◌, arith}
use Rattle.std.proofs.lemmas.Bool.{cases_lt}
use Rattle.std.proofs.lemmas.List.{drop_all, take_all}
use Rattle.sha2.specs.Sha256.{compress}
use Rattle.droid_hash.proofs.Parts.{IsPart, lt_true, lt_false}

pub part_taken : (at count : ℕ) (run filler part : List (List ℕ)) (named : Bool) (h new result : List ℕ) → IsPart at run filler part → named ≡ nat_lt at (length run)
    → new ≡ fold compress h (take count part) → result ≡ (if named then new else h) → result ≡ fold compress h (take count (drop at run))
part_taken at count run filler part named h new result ep en et er = elim (cases_lt at (length run)) [
  | inl going ↦
      let t = lt_true at (length run) going in
      let e : part ≡ drop at run = rw t at ep in
      let n : named ≡ true = en ∙ t in
      let r : result ≡ new = rw n at er in
      r ∙ et ∙ ap (λ x. fold compress h (take count x)) e
  | inr ended ↦
      let n : named ≡ false = en ∙ lt_false at (length run) ended in
      let r : result ≡ h = rw n at er in
      let none : drop at run ≡ [] = drop_all at run ended in
      r ∙ sym (ap (λ x. fold compress h x) (ap (take count) none ∙ take_all count [] (omega arith)))
]
