-- How a text ends, by its last byte.
use Rattle.std.proofs.Common.{◌≡◌, ℕ, suc, ◌-◌, ◌<◌, false, List, [], ◌∷◌, length, get_or, refl, sym, ap, ◌∙◌, arith}
use Rattle.std.specs.Prelude.{◌==◌, ◌&&◌, not}
use Rattle.droid_signature_pattern.specs.Ends.{ends_in_byte}

pub ends_none : (text : List ℕ) → length text ≡ 0 → ends_in_byte text ≡ false
ends_none [] none = refl
ends_none (c ∷ text) none = absurd (omega arith)

pub ends_last : (text : List ℕ) → 0 < length text → ends_in_byte text ≡ (not (get_or text (length text - 1) 0 == 125) && not (get_or text (length text - 1) 0 == 42))
ends_last [] some = absurd (omega arith)
ends_last (c ∷ []) some = refl
ends_last (c ∷ d ∷ rest) some =
    let one : length rest ≡ suc (length rest) - 1 = omega arith in
    let two : suc (length rest) ≡ suc (suc (length rest)) - 1 = omega arith in
    ends_last (d ∷ rest) (omega arith)
    ∙ ap (λ k. not (get_or (d ∷ rest) k 0 == 125) && not (get_or (d ∷ rest) k 0 == 42)) (sym one)
    ∙ ap (λ k. not (get_or (c ∷ d ∷ rest) k 0 == 125) && not (get_or (c ∷ d ∷ rest) k 0 == 42)) two
