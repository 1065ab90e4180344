-- For inner clauses and proofs: what the smaller journal depends on beside the records.
use Rattle.std.specs.Prelude.{ℕ, Bool, List}

-- the header of the new file, and which files have ended
pub record Aim : Type 0 where
  pub header : List ℕ
  pub ended : ℕ → Bool
