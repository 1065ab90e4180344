-- Tests of bytes.
use Rattle.std.proofs.Common.{◌≡◌, ◌∙◌, ℕ, ◌==◌, Bool, true, false, List, [], ◌∷◌, ◌++◌, sym, ap}
use Rattle.std.specs.List.{list_all}
use Rattle.std.proofs.lemmas.Bool.{and_from, and_parts, ne_eqb}

pub false_true : false ≡ true → ⊥
false_true h = absurd cc

-- a byte that passes a test is none that does not
pub other_sign : (test : ℕ → Bool) (b sign : ℕ) → test b ≡ true → test sign ≡ false → (b == sign) ≡ false
other_sign test b sign is fails = ne_eqb b sign (λ same. false_true (sym fails ∙ (ap test (sym same) ∙ is)))

pub all_append : (test : ℕ → Bool) (xs ys : List ℕ) → list_all test xs ≡ true → list_all test ys ≡ true → list_all test (xs ++ ys) ≡ true
all_append test [] ys hx hy = hy
all_append test (x ∷ xs) ys hx hy =
    let both = and_parts (test x) (list_all test xs) hx in
    and_from (test x) (list_all test (xs ++ ys)) both.0 (all_append test xs ys both.1 hy)
