-- A fault that is passed on.
use Rattle.std.proofs.Common.{◌≡◌, Result, Err, sym, ap, ◌∙◌}
use Rattle.std.specs.Result.{IsErrAnd, IsErrOf}
use Rattle.std.proofs.lemmas.Result.{err_from_is_err_and}
use Rattle.droid_pattern.specs.declared.pattern_fault.PatternFault.{PatternFault}
use Rattle.droid_pattern.specs.declared.pattern_fault.PatternFault.TheVariants.{BadPattern}

-- what is answered as BadPattern was one before
pub passed_on : {T U : Type 0} (r : Result T PatternFault) (f : PatternFault) → IsErrAnd r (λ y. y ≡ f) → IsErrOf r BadPattern → IsErrOf {T = U} (Err f) BadPattern
passed_on r f is bad =
    let (y, e, same) = err_from_is_err_and r is in
    let both : Err y ≡ Err BadPattern = sym e ∙ bad in
    let here : y ≡ BadPattern = cc in
    ap Err (sym same ∙ here)
