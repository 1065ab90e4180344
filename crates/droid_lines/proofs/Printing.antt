-- The line of a finished file, from its words.
use Rattle.std.proofs.Common.{◌≡◌, ℕ, Bool, List, [], ◌∷◌, ◌++◌, length, codes, string_bytes, Result, IfOk, refl, arith}
use Rattle.std.specs.Prelude.{String}
use Rattle.droid_frame.specs.declared.hash_value.HashValue.{HashValue}
use Rattle.droid_frame.specs.declared.method.Method.{Method}
use Rattle.droid_lines.specs.Printed.{method_text, truth_text, after_commas, hash_text, puids_text, finished_text}

pub finished_is : {Z E : Type 0} (r : Result (String Z) E) (method : Method) (mismatch : Bool) (hash : HashValue) (puids : List (List ℕ)) (word digits formats : List ℕ)
    → word ≡ method_text method → digits ≡ hash_text hash → formats ≡ puids_text puids
    → IfOk r (λ text. string_bytes text ≡ codes "finished " ++ (word ++ (codes " " ++ (truth_text mismatch ++ (codes " " ++ (digits ++ (codes " " ++ formats)))))))
    → IfOk r (λ text. string_bytes text ≡ finished_text method mismatch hash puids)
unfolding finished_text
finished_is r method mismatch hash puids word digits formats is_word is_digits is_formats printed = rw (← is_word, ← is_digits, ← is_formats) printed

pub no_puids : (puids : List (List ℕ)) → length puids ≡ 0 → puids_text puids ≡ codes "-"
unfolding puids_text
no_puids [] none = refl
no_puids (first ∷ others) none = absurd (omega arith)

pub some_puids : (puids : List (List ℕ)) (first : List ℕ) (others : List (List ℕ)) → puids ≡ first ∷ others → puids_text puids ≡ first ++ after_commas others
unfolding puids_text
some_puids puids first others are = rw are refl
