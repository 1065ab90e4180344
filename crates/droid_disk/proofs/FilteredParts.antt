-- Names of entries, one after the other.
use Rattle.std.proofs.Common.{◌≡◌, ◌∙◌, Bool, true, false, List, [], ◌∷◌, ◌++◌, filter, map, ap, sym, append-nil, Bor}
use Rattle.std.proofs.lemmas.List.{map-append}
use Rattle.std.proofs.lemmas.List.Elements.{filter-append}

module _ {X : Type 0} (test : X → Bool) where
  -- one part more
  pub filtered_more : (parts : List (Bor X)) (part : Bor X) (kept after : List X) → kept ≡ filter test (map (λ item. item.now) parts)
      → after ≡ kept ++ filter test (part.now ∷ []) → after ≡ filter test (map (λ item. item.now) (parts ++ part ∷ []))
  filtered_more parts part kept after so_far added =
      let all : filter test (map (λ item. item.now) (parts ++ part ∷ [])) ≡ filter test (map (λ item. item.now) parts) ++ filter test (part.now ∷ []) =
      ap (filter test) (map-append (λ item. item.now) parts (part ∷ [])) ∙ filter-append test (map (λ item. item.now) parts) (part.now ∷ []) in
      added ∙ (ap (λ (front : List X). front ++ filter test (part.now ∷ [])) so_far ∙ sym all)

  pub none_more : (kept : List X) (item : X) → test item ≡ false → kept ≡ kept ++ filter test (item ∷ [])
  none_more kept item not = rw not (sym (append-nil kept))

  pub one_more : (kept after : List X) (item : X) → test item ≡ true → after ≡ kept ++ item ∷ [] → after ≡ kept ++ filter test (item ∷ [])
  one_more kept after item is added = rw is added
