-- A set of numbers.
use Rattle.std.proofs.Common.{◌≡◌, ℕ, eqb, arith}
use Rattle.std.specs.BTreeMap.{is_at}
use Rattle.std.specs.Ordering.{nat_cmp}
use Rattle.std.proofs.lemmas.Grind.{common_steps}

-- one number is at the place of another only if they are the same
pub same_number : (k q : ℕ) → is_at (nat_cmp k) q ≡ eqb k q
same_number k q = grind (arith, common_steps)
