-- What was added in turn was added one after the other.
use Rattle.std.proofs.Common.{◌≡◌, ℕ, List, ◌++◌, ap, ◌∙◌, append_assoc}

pub added_then : (old middle new first second : List ℕ) → middle ≡ old ++ first → new ≡ middle ++ second → new ≡ old ++ (first ++ second)
added_then old middle new first second a b = b ∙ (ap (λ (x : List ℕ). x ++ second) a ∙ append_assoc old first second)
