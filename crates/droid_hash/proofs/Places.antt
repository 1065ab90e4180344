-- The place of the shortest piece.
use Rattle.std.proofs.Common.{◌≡◌, ℕ, zero, suc, ◌+◌, ◌<◌, ◌≤◌, List, slice_index, inl, inr, subst, arith}
use Rattle.std.proofs.lemmas.Bool.{cases_lt}
use Rattle.droid_hash.specs.Pieces.{Beats}

pub beats_itself : (lens : List ℕ) (k : ℕ) → Beats lens k k
beats_itself lens k = λ more. (more, omega arith)

pub beats_on : (lens : List ℕ) (best old k : ℕ) → Beats lens best old → Beats lens old k → Beats lens best k
beats_on lens best old k new before = λ more.
    let first = before more in
    let second = new first.0 in
    (second.0, omega (arith, first.1, second.1))

-- what holds of the first place holds below 1
pub below_one : (P : ℕ → Type 0) → P 0 → (k : ℕ) → k < 1 → P k
below_one P here zero low = here
below_one P here (suc k) low = absurd (omega arith)

-- one place more
pub one_more : (lens : List ℕ) (best old place : ℕ) → Beats lens best old → Beats lens best place → ((k : ℕ) → k < place → Beats lens old k)
    → (k : ℕ) → k < place + 1 → Beats lens best k
one_more lens best old place new here before k low = elim (cases_lt k place) [
  | inl below ↦ beats_on lens best old k new (before k below)
  | inr from ↦ (let is : place ≡ k = omega arith in subst (Beats lens best) is here)
]
