-- A lane is in one of the two halves.
use Rattle.std.proofs.Common.{ℕ, ◌-◌, ◌<◌, ◌≤◌, nat_lt, MatchBool, inl, inr}
use Rattle.std.proofs.lemmas.Bool.{cases_lt}
use Rattle.droid_hash.proofs.Parts.{lt_true, lt_false}

-- what holds in its half
abbrev pub InHalf : (ℕ → Type 0) → (ℕ → Type 0) → ℕ → Type 0
InHalf one other j = MatchBool (nat_lt j 4) (one j) (other (j - 4))

pub in_first : (one other : ℕ → Type 0) (j : ℕ) → j < 4 → one j → InHalf one other j
in_first one other j low here = rw (lt_true j 4 low) here

pub in_second : (one other : ℕ → Type 0) (j : ℕ) → 4 ≤ j → other (j - 4) → InHalf one other j
in_second one other j high here = rw (lt_false j 4 high) here

pub of_first : (one other : ℕ → Type 0) (j : ℕ) → j < 4 → InHalf one other j → one j
of_first one other j low held = rw (lt_true j 4 low) at held

pub of_second : (one other : ℕ → Type 0) (j : ℕ) → 4 ≤ j → InHalf one other j → other (j - 4)
of_second one other j high held = rw (lt_false j 4 high) at held

-- what holds in each half holds in its half
pub by_half : (one other : ℕ → Type 0) (j : ℕ) → (j < 4 → one j) → (4 ≤ j → other (j - 4)) → InHalf one other j
by_half one other j first second = elim (cases_lt j 4) [
  | inl low ↦ in_first one other j low (first low)
  | inr high ↦ in_second one other j high (second high)
]
