-- A fault that `?` passes on, and a fact of a value that is known.
use Rattle.std.proofs.Common.{◌≡◌, ℕ, Option, Some, Result, Ok, Err, IfSome, ap, sym, subst}
use Rattle.std.specs.Prelude.{IsErrAnd, IsErrOf}
use Rattle.droid_frame.specs.declared.streams.fault.FrameFault.{FrameFault}
use Rattle.droid_wire.specs.declared.serve_fault.ServeFault.TheVariants as faults

pub if_err_same : {T E : Type 0} (r : Result T E) (fault : E) (P : Result T E → Type 0) → IsErrAnd r (λ e. e ≡ fault) → P (Err fault) → P r
if_err_same {T} {E} (Ok value) fault P is p = absurd is
if_err_same {T} {E} (Err error) fault P is p = subst (λ (e : E). P (Err e)) (sym is) p

pub if_some_is : {A : Type 0} (o : Option A) (x : A) (P : A → Type 0) → o ≡ Some x → IfSome o P → P x
if_some_is {A} o x P is p = subst (λ (known : Option A). IfSome known P) is p

-- the same fault, of another kind of call
pub same_fault : {T U E : Type 0} (fault of : E) → IsErrOf {T = T} (Err fault) of → IsErrOf {T = U} (Err fault) of
same_fault {T} {U} {E} fault of is = ap (λ (e : E). Err e) (let same : fault ≡ of = cc in same)

-- a frame's fault, and the fault of serving that it becomes
pub frame_fault : {T U : Type 0} (fault of : FrameFault) → IsErrOf {T = T} (Err (faults.Frame fault)) (faults.Frame of) → IsErrOf {T = U} (Err fault) of
frame_fault {T} {U} fault of is = ap (λ (e : FrameFault). Err e) (let same : fault ≡ of = cc in same)

pub serve_fault : {T U : Type 0} (fault of : FrameFault) → IsErrOf {T = T} (Err fault) of → IsErrOf {T = U} (Err (faults.Frame fault)) (faults.Frame of)
serve_fault {T} {U} fault of is = let same : fault ≡ of = cc in ap (λ (e : FrameFault). Err (faults.Frame e)) same

-- a frame's fault is none of writing
pub no_write_fault : (fault : FrameFault) → ((written : ℕ) × (faults.Frame fault ≡ faults.Write written)) → ⊥
no_write_fault fault is = let same = is.1 in absurd cc
