-- Numbers of ways.
use Rattle.std.proofs.Common.{◌≡◌, ◌∙◌, ℕ, zero, suc, ◌+◌, ◌*◌, ◌/◌, ◌%◌, ◌<◌, ◌≤◌, List, [], ◌∷◌, ◌++◌, length, take, get_or, inl, inr, sym, ap, arith}
use Rattle.std.specs.Prelude.{min}
use Rattle.std.proofs.lemmas.Bool.{cases_lt}
use Rattle.std.proofs.lemmas.List.{take_more}
use Rattle.std.proofs.lemmas.Nat.{div-mul-add, div_below, mod_below}
use Rattle.droid_signature_pattern.specs.Choices.{ways}
use Rattle.droid_signature_pattern.specs.declared.choices.Choices.{Choices}
use Rattle.droid_signature_pattern.proofs.Ways.{ways_push}

product_suc : (a b : ℕ) → a * suc b ≡ a * b + a
product_suc a b = omega arith

-- a product that stops at a limit
stopped : (w n : ℕ) → min (min w 18446744073709551615 * n) 18446744073709551615 ≡ min (w * n) 18446744073709551615
stopped w zero = omega arith
stopped w (suc n) = elim (cases_lt w 18446744073709551615) [
  | inl small ↦ let same : min w 18446744073709551615 ≡ w = omega arith in ap (λ k. min (k * suc n) 18446744073709551615) same
  | inr large ↦
      let whole : min w 18446744073709551615 ≡ 18446744073709551615 = omega arith in
      let left = product_suc (min w 18446744073709551615) n in
      let right = product_suc w n in
      omega arith
]

-- one more factor
pub ways_more : (all : List Choices) (i : ℕ) (choices : Choices) (before n after : ℕ) → i < length all → choices ≡ get_or all i choices → before ≡ min (ways (take i all)) 18446744073709551615 → n ≡ length choices.texts
    → after ≡ min (before * n) 18446744073709551615 → after ≡ min (ways (take (i + 1) all)) 18446744073709551615
ways_more all i choices before n after below is so_far long made =
    made
    ∙ ap (λ k. min (k * n) 18446744073709551615) so_far
    ∙ stopped (ways (take i all)) n
    ∙ ap (λ k. min (ways (take i all) * k) 18446744073709551615) long
    ∙ ap (λ k. min k 18446744073709551615) (sym (ways_push (take i all) choices))
    ∙ ap (λ y. min (ways (take i all ++ y ∷ [])) 18446744073709551615) is
    ∙ ap (λ l. min (ways l) 18446744073709551615) (sym (take_more all i choices below))

-- a number below a product has both factors
pub factors : (a b number : ℕ) → number < a * b → (0 < a) × (0 < b)
factors zero b number below = absurd (omega arith)
factors (suc a) zero number below = absurd (omega arith)
factors (suc a) (suc b) number below = (omega arith, omega arith)

pub rest_small : (a b limit : ℕ) → 0 < a → a * b ≤ limit → b ≤ limit
rest_small zero b limit some few = absurd (omega arith)
rest_small (suc a) b limit some few = let product : suc a * b ≡ a * b + b = omega arith in omega arith

pub quotient_below : (a b number : ℕ) → number < a * b → number / b < a
quotient_below a b number below = div_below number b a (factors a b number below).1 below

pub remainder_below : (a b number : ℕ) → number < a * b → number % b < b
remainder_below a b number below = mod_below number b (factors a b number below).1

-- a product without its first factor
pub quotient_is : (a b : ℕ) → 0 < a → (a * b) / a ≡ b
quotient_is a b some = let turned : a * b ≡ b * a + 0 = omega arith in ap (λ n. n / a) turned ∙ div-mul-add b a 0 some
