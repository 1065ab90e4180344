-- A text that grows by one record.
use Rattle.std.proofs.Common.{◌≡◌, ◌∙◌, ◌+◌, ◌++◌, ◌<◌, ℕ, List, [], ◌∷◌, length, take, get_or, ap, sym, append-nil, append_assoc}
use Rattle.std.specs.List.{flat_map}
use Rattle.std.proofs.lemmas.Grind.{flat_map-append}
use Rattle.std.proofs.lemmas.List.{take_more}

pub texts_more : {X : Type 0} (f : X → List ℕ) (items : List X) (at : ℕ) (item : X) (front : List ℕ) → at < length items → item ≡ get_or items at item
    → (front ++ flat_map f (take at items)) ++ f item ≡ front ++ flat_map f (take (at + 1) items)
texts_more {X} f items at item front within there =
    let one_more : take (at + 1) items ≡ take at items ++ item ∷ [] = take_more items at item within ∙ ap (λ (e : X). take at items ++ e ∷ []) (sym there) in
    append_assoc front (flat_map f (take at items)) (f item)
    ∙ ap (λ (t : List ℕ). front ++ t) (sym (ap (λ (l : List X). flat_map f l) one_more ∙ (flat_map-append f (take at items) (item ∷ []) ∙ ap (λ (t : List ℕ). flat_map f (take at items) ++ t) (append-nil (f item)))))
