-- Two lists are the same that are the same at a place and after it.
use Rattle.std.proofs.Common.{◌≡◌, ℕ, ◌+◌, ◌<◌, ◌≤◌, List, ◌∷◌, length, drop, get_or, sym, ap, ◌∙◌}
use Rattle.std.proofs.lemmas.List.{drop_more, drop_all}

-- what makes them the same from this place on makes them the same
abbrev pub SameFrom : {X : Type 0} → List X → List X → ℕ → Type 0
SameFrom one other place = drop place one ≡ drop place other → one ≡ other

-- the same at this place, and whatever makes them the same after it
pub same_on : {X : Type 0} (one other : List X) (place : ℕ) (x y : X) → place < length one → place < length other → x ≡ get_or one place x → y ≡ get_or other place y → x ≡ y → SameFrom one other place → SameFrom one other (place + 1)
same_on one other place x y within its_within is its same before = λ after.
    let here : get_or one place x ≡ get_or other place y = sym is ∙ (same ∙ its) in
    before (drop_more one place x within ∙ (ap (λ first. first ∷ drop (place + 1) one) here ∙ (ap (λ rest. get_or other place y ∷ rest) after ∙ sym (drop_more other place y its_within))))

-- nothing stands after their ends
pub same_whole : {X : Type 0} (one other : List X) (place : ℕ) → length one ≤ place → length other ≤ place → SameFrom one other place → one ≡ other
same_whole one other place all its_all before = before (drop_all place one all ∙ sym (drop_all place other its_all))
