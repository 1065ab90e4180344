-- The moments that a recipient is given are those that can be written.
use Rattle.std.proofs.Common.{ℤ, pos, negsuc, T, not, IsTrue, sym, subst}
use Rattle.std.proofs.lemmas.Bool.{and_parts}
use Rattle.std.specs.Int.Signed.{lt_z, lt_z_no}
use Rattle.droid_export.specs.Moments.{IsMoment}
use Rattle.droid_core_spec.specs.Conditions.{is_moment}

pub moment_written : (seconds : ℤ) → IsTrue (is_moment seconds) → IsMoment seconds
unfolding is_moment
moment_written seconds is =
    let parts = and_parts (not (lt_z seconds (negsuc 62135596799))) (not (lt_z (pos 253402300799) seconds)) is in
    (lt_z_no (subst T (sym parts.0) tt), lt_z_no (subst T (sym parts.1) tt))
