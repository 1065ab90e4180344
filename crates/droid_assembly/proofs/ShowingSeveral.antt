-- Several pieces, shown one after another.
use Rattle.std.proofs.Common.{◌≡◌, ◌∙◌, ℕ, ◌+◌, ◌<◌, ◌≤◌, List, [], ◌∷◌, ◌++◌, length, take, drop, get_or, None, Some, sym, ap, arith, refl, zero, suc}
use Rattle.std.specs.List.{concat, slice_get}
use Rattle.std.proofs.Math.Seq.{take-suc}
use Rattle.std.proofs.lemmas.List.{append-nil, take-append-drop, length-append}
use Rattle.std.proofs.lemmas.List.Folds.{concat-append}
use Rattle.std.proofs.lemmas.Option.{get_or_from_slice_get, slice_get-get_or}

take-past : (several : List (List ℕ)) (place : ℕ) → length several ≤ place → take place several ≡ several
take-past [] zero past = refl
take-past [] (suc place) past = refl
take-past (bytes ∷ several) zero past = absurd (omega arith)
take-past (bytes ∷ several) (suc place) past = ap (λ rest. bytes ∷ rest) (take-past several place (omega arith))

-- what one piece more joins to
pub joined-more : (several : List (List ℕ)) (place : ℕ) (bytes : List ℕ) → place < length several → slice_get several place ≡ Some bytes → concat (take (place + 1) several) ≡ concat (take place several) ++ bytes
joined-more several place bytes below at =
    let here : get_or several place [] ≡ bytes = get_or_from_slice_get several place bytes [] at in
    let next : place + 1 ≡ suc place = omega arith in
    ap (λ k. concat (take k several)) next
    ∙ ap concat (take-suc several place [] below)
    ∙ ap (λ last. concat (take place several ++ last ∷ [])) here
    ∙ concat-append (take place several) (bytes ∷ [])
    ∙ ap (λ last. concat (take place several) ++ last) (append-nil bytes)

-- the first pieces have no more bytes than all
pub joined-within : (several : List (List ℕ)) (place : ℕ) → length (concat (take place several)) ≤ length (concat several)
joined-within several place =
    let all : concat several ≡ concat (take place several) ++ concat (drop place several) =
    ap concat (sym (take-append-drop place several)) ∙ concat-append (take place several) (drop place several) in
    omega (arith, ap length all, length-append (concat (take place several)) (concat (drop place several)))

-- past the end they are all
pub joined-all : (several : List (List ℕ)) (place : ℕ) → length several ≤ place → concat (take place several) ≡ concat several
joined-all several place past = ap concat (take-past several place past)

-- no place below the end is past it
pub none-past : (several : List (List ℕ)) (place : ℕ) → place < length several → slice_get several place ≡ None → ⊥
none-past several place below none =
    let some = slice_get-get_or several place [] below in
    cc
