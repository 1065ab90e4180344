-- Words joined by a space, one word more.
use Rattle.std.proofs.Common.{◌≡◌, ◌==◌, ◌<◌, ◌+◌, ℕ, zero, suc, List, [], ◌∷◌, ◌++◌, length, take, false, Some, slice_get, if◌then◌else◌, refl, sym, ap, ◌∙◌, arith, slice_index_or}
use Rattle.std.proofs.lemmas.List.{append_assoc, take_more}
use Rattle.std.proofs.lemmas.Bool.Decides.{nat_tests}
use Rattle.droid_store.specs.Encoded.{joined}

joined_last : (x : List ℕ) (xs : List (List ℕ)) (word : List ℕ) → joined (x ∷ (xs ++ word ∷ [])) ≡ joined (x ∷ xs) ++ 32 ∷ word
joined_last x [] word = refl
joined_last x (y ∷ ys) word = ap (λ text. x ++ 32 ∷ text) (joined_last y ys word) ∙ sym (append_assoc x (32 ∷ joined (y ∷ ys)) (32 ∷ word))

-- the words up to a place, and then the word there
pub joined_more : (words : List (List ℕ)) (place : ℕ) (word : List ℕ) → place < length words → slice_index_or words place word ≡ word
    → joined (take place words) ++ (if place == 0 then word else 32 ∷ word) ≡ joined (take (place + 1) words)
joined_more [] place word low here = absurd (omega arith)
joined_more (x ∷ xs) zero word low here = sym here
joined_more (x ∷ xs) (suc place) word low here =
    let later : (suc place == 0) ≡ false = grind (arith, nat_tests) in
    let on : suc place + 1 ≡ suc (place + 1) = omega arith in
    rw (later, on) (sym (joined_last x (take place xs) word) ∙ ap (λ ws. joined (x ∷ ws)) (ap (λ w. take place xs ++ w ∷ []) (sym here) ∙ sym (take_more xs place word (omega arith))))

pub word_at : (words : List (List ℕ)) (place : ℕ) (word : List ℕ) → Some word ≡ slice_get words place → slice_index_or words place word ≡ word
word_at [] place word is = absurd cc
word_at (x ∷ xs) zero word is = cc
word_at (x ∷ xs) (suc place) word is = word_at xs place word is
