-- What was read where no input came.
use Rattle.std.proofs.Common.{◌≡◌, ℕ, List, Option, Result, Ok, Err, IfErr, sym, subst}
use Rattle.std.specs.Prelude.{IsErrAnd}
use Rattle.droid_frame.specs.declared.io.stream_fault.InputFault.{InputFault}
use Rattle.droid_frame.specs.Reads.{ReadsNoInput}

-- what `?` passes on
pub passed_fault : {T : Type 0} (r : Result T InputFault) (fault : InputFault) (old new : Option (List ℕ)) (limit : ℕ)
    → IsErrAnd r (λ e. e ≡ fault) → ReadsNoInput fault old new limit → IfErr r (λ e. ReadsNoInput e old new limit)
passed_fault (Ok value) fault old new limit is read = absurd is
passed_fault (Err e) fault old new limit is read = subst (λ (f : InputFault). ReadsNoInput f old new limit) (sym is) read
