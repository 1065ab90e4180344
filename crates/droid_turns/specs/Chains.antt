-- Steps one after the other (this project's own).
use Rattle.std.specs.Prelude.{◌≡◌, List, [], ◌∷◌}

-- a list of steps, each from the state that the step before left
abbrev pub GoesOver : {S A : Type 0} → (S → A → S → Type 0) → S → List A → S → Type 0
GoesOver {S} {A} step first [] last = last ≡ first
GoesOver {S} {A} step first (item ∷ items) last =
    (middle : S) × step first item middle × GoesOver step middle items last
