-- Messages side by side: each variable of the state, and each word of the blocks, is a vector with one lane for each
-- message.
use Rattle.std.specs.Prelude.{ℕ, List, [], ◌∷◌, map, slice_index, slice_index_or}
use Rattle.std.specs.Borrow.{Bor}

-- what the call gives lane j
abbrev pub piece : {A : Type 0} → ℕ → List (Bor (List A)) → List A
piece j given = slice_index_or (map (λ x. x.now) given) j []

-- lane j of vector k
abbrev pub lane_at : List (List ℕ) → ℕ → ℕ → ℕ
lane_at x k j = slice_index (slice_index_or x k []) j

-- the four variables of message j (MD5)
abbrev pub lane : ℕ → List (List ℕ) → List ℕ
lane j x = lane_at x 0 j ∷ lane_at x 1 j ∷ lane_at x 2 j ∷ lane_at x 3 j ∷ []

-- the eight variables of message j (SHA-256)
abbrev pub lane8 : ℕ → List (List ℕ) → List ℕ
lane8 j x =
    lane_at x 0 j ∷ lane_at x 1 j ∷ lane_at x 2 j ∷ lane_at x 3 j ∷ lane_at x 4 j ∷ lane_at x 5 j ∷ lane_at x 6 j
    ∷ lane_at x 7 j ∷ []

-- the words of message j's block
abbrev pub words : ℕ → List (List ℕ) → List ℕ
words j w = map (λ x. slice_index x j) w
