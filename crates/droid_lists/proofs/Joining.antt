-- Identifiers with a space between two.
use Rattle.std.proofs.Common.{◌≡◌, ◌++◌, ℕ, List, [], ◌∷◌, length, refl, ap, arith}
use Rattle.std.specs.List.{flat_map}
use Rattle.droid_lists.specs.Formats.{joined}

pub none_joined : (puids : List (List ℕ)) → length puids ≡ 0 → joined puids ≡ []
unfolding joined
none_joined [] none = refl
none_joined (first ∷ others) none = absurd (omega arith)

pub some_joined : (puids : List (List ℕ)) (first : List ℕ) (others : List (List ℕ)) → puids ≡ first ∷ others → joined puids ≡ first ++ flat_map (λ puid. 32 ∷ puid) others
unfolding joined
some_joined puids first others is = ap joined is
