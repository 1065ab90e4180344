-- The positions of a loop's first turns.
use Rattle.std.proofs.Common.{ℕ, ◌+◌, ◌<◌, ◌≤◌, ◌≡◌, inl, inr, subst, arith}
use Rattle.std.proofs.lemmas.Bool.Decides.{leb_tells}

-- what holds up to a number holds up to the next, if it holds there
pub one_further : (P : ℕ → Type 0) (n : ℕ) → ((k : ℕ) → 0 < k → k ≤ n → P k) → P (n + 1) → (k : ℕ) → 0 < k → k ≤ n + 1 → P k
one_further P n so_far here k above below = elim (leb_tells k n) [ inl few ↦ so_far k above few.1 | inr more ↦ let at : n + 1 ≡ k = omega (arith, more.1) in subst P at here ]
