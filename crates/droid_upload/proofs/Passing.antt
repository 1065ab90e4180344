-- What `?` passes on.
use Rattle.std.proofs.Common.{◌≡◌, Result, Ok, Err, IfErr, sym, subst}
use Rattle.std.specs.Prelude.{IsErrAnd}

pub if_err_same : {T E : Type 0} (r : Result T E) (fault : E) (P : E → Type 0) → IsErrAnd r (λ e. e ≡ fault) → P fault → IfErr r P
if_err_same {T} {E} (Ok value) fault P is p = absurd is
if_err_same {T} {E} (Err error) fault P is p = subst P (sym is) p
