-- For inner clauses and proofs: numbers inside a body.
use Rattle.std.specs.Prelude.{ℕ, List, take, drop}
use Rattle.std.specs.Int.{w32, w64, from_be_bytes}

-- the number of four bytes from this index on
abbrev pub u32_in : ℕ → List ℕ → ℕ
u32_in at body = from_be_bytes w32 (take 4 (drop at body))

-- the number of eight bytes from this index on
abbrev pub u64_in : ℕ → List ℕ → ℕ
u64_in at body = from_be_bytes w64 (take 8 (drop at body))
