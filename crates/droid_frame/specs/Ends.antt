-- For inner clauses and proofs: suffixes of byte lists.
use Rattle.std.specs.Prelude.{◌≡◌, ℕ, ◌-◌, ◌≤◌, List, length, drop}

-- rest is a suffix of bytes
pub record IsEnd (bytes rest : List ℕ) : Type 0 where
  pub shorter : length rest ≤ length bytes
  pub ends : drop (length bytes - length rest) bytes ≡ rest
