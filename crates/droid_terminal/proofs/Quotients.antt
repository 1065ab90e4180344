-- What a checked division returns.
use Rattle.std.proofs.Common.{◌≡◌, ℕ, ◌/◌, ◌<◌, Option, Some, None, SomeIff, arith}
use Rattle.std.proofs.lemmas.Bool.Decides.{nat_tests}
use Rattle.droid_terminal.specs.Estimates.{quotient}

pub quotient_is : (n by : ℕ) (r : Option ℕ) → SomeIff r (0 < by) (n / by) → r ≡ quotient n by
unfolding quotient
quotient_is n by None h = let none : ¬ (0 < by) = h in grind (arith, nat_tests)
quotient_is n by (Some x) h = let some : 0 < by = h.0 in let its : x ≡ n / by = h.1 in grind (arith, nat_tests)
