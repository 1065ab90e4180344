-- Fronts of lists.
use Rattle.std.proofs.Common.{◌≡◌, List, [], ◌++◌, length, sym, ap, ◌∙◌, append_assoc, arith}
use Rattle.std.proofs.lemmas.List.{append-nil, length-append, nil_from_length}
use Rattle.droid_journal.specs.Fronts.{IsFront}

pub front_refl : {A : Type 0} (xs : List A) → IsFront xs xs
front_refl xs = ([], sym (append-nil xs))

pub front_trans : {A : Type 0} (xs ys zs : List A) → IsFront xs ys → IsFront ys zs → IsFront xs zs
front_trans xs ys zs p q = (p.0 ++ q.0, q.1 ∙ ap (λ (t : List _). t ++ q.0) p.1 ∙ append_assoc xs p.0 q.0)

-- each a front of the other
pub fronts_same : {A : Type 0} (xs ys : List A) → IsFront xs ys → IsFront ys xs → ys ≡ xs
fronts_same xs ys p q =
    let none : length p.0 ≡ 0 = omega (arith, ap length p.1, ap length q.1, length-append xs p.0, length-append ys q.0) in
    p.1 ∙ ap (λ (t : List _). xs ++ t) (nil_from_length p.0 none) ∙ append-nil xs
