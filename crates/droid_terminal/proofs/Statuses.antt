-- No fault has the status 0.
use native.Mathlib.Omega.{arith}
use Rattle.std.proofs.Common.{◌≡◌, refl}
use Rattle.droid_terminal.specs.Endings.{Told, Whole, Partly, Fault, number_of, status_of}
use Rattle.droid_terminal.specs.declared.ending.status.Status.{Status}
use Rattle.droid_terminal.specs.declared.ending.status.Status.TheVariants.{Unread, Failed, Unmade}

never_zero : (status : Status) → number_of status ≡ 0 → ⊥
never_zero Unread zero = omega (arith, zero)
never_zero Failed zero = omega (arith, zero)
never_zero Unmade zero = omega (arith, zero)

pub whole_alone : (it : Told) → status_of it ≡ 0 → it ≡ Whole
whole_alone Whole zero = refl
whole_alone Partly zero = absurd (omega (arith, zero))
whole_alone (Fault row at about detail) zero = absurd (never_zero row.status zero)
