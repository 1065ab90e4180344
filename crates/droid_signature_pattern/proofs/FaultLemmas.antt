-- A fault that is passed on.
use Rattle.std.proofs.Common.{◌≡◌, Result, Err, sym, ap, ◌∙◌}
use Rattle.std.specs.Result.{IsErrAnd, IsErrOf}
use Rattle.std.proofs.lemmas.Result.{err_from_is_err_and}
use Rattle.droid_signature_pattern.specs.declared.text_fault.TextFault.{TextFault}
use Rattle.droid_signature_pattern.specs.declared.text_fault.TextFault.TheVariants.{BadText}

-- what is answered as BadText was one before
pub passed_on : {T U : Type 0} (r : Result T TextFault) (f : TextFault) → IsErrAnd r (λ y. y ≡ f) → IsErrOf r BadText → IsErrOf {T = U} (Err f) BadText
passed_on r f is bad =
    let (y, e, same) = err_from_is_err_and r is in
    let both : Err y ≡ Err BadText = sym e ∙ bad in
    let here : y ≡ BadText = cc in
    ap Err (sym same ∙ here)
