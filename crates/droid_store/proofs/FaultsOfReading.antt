-- Reading a row that was found fails only if memory runs out.
use Rattle.std.proofs.Common.{◌≡◌, Option, Some, None, option_map, Result, Ok, Err, IfErr, IsErrAnd, refl, ◌∙◌, arith}
use Rattle.sqlite.specs.Order.{Row}
use Rattle.droid_store.specs.declared.fault.StoreFault.{StoreFault}
use Rattle.droid_store.specs.declared.fault.StoreFault.TheVariants.{Memory}
use Rattle.droid_frame.specs.Hashes.{hash_kind_number}
use Rattle.droid_frame.specs.declared.hash_kind.HashKind.{HashKind}
use Rattle.droid_frame.specs.declared.hash_kind.HashKind.TheVariants as kinds
use Rattle.droid_frame.specs.declared.method.Method.{Method}
use Rattle.droid_frame.specs.declared.method.Method.TheVariants.{Unidentified, Signature, Extension}
use Rattle.droid_store.specs.declared.rows.NodeState.{NodeState}
use Rattle.droid_store.specs.declared.rows.NodeState.TheVariants.{Folder, Unfinished, Finished}
use Rattle.droid_frame.specs.Fields.{method_number}
use Rattle.droid_store.specs.Encoded.{number, state_number}
use Rattle.droid_store.proofs.ReportedFaults.{IsShort}

-- a fault that `?` hands on
pub still_memory : {T : Type 0} (r : Result T StoreFault) (fault : StoreFault) → IsErrAnd r (λ f. f ≡ fault) → fault ≡ Memory → IfErr r (λ f. f ≡ Memory)
still_memory (Ok done) fault same is = tt
still_memory (Err other) fault same is = same ∙ is

-- what a look-up by a key found
pub found_fits : {X : Type 0} (shown : X → Row) (Fits : X → Type 0) (found : Option X) (row : Row) (P : Type 0) → Some row ≡ option_map shown found → ((x : X) → found ≡ Some x → Fits x)
    → ((x : X) → row ≡ shown x → Fits x → P) → P
found_fits shown Fits None row P is fits reported = absurd cc
found_fits shown Fits (Some x) row P is fits reported = let at : row ≡ shown x = cc in reported x at (fits x refl)

-- ---- numbers in place of names

pub state_is_short : (s : NodeState) → IsShort (number (state_number s))
state_is_short Folder = (0, refl, omega arith)
state_is_short Unfinished = (1, refl, omega arith)
state_is_short Finished = (2, refl, omega arith)

pub method_is_short : (m : Method) → IsShort (number (method_number m))
method_is_short Unidentified = (0, refl, omega arith)
method_is_short Signature = (1, refl, omega arith)
method_is_short Extension = (2, refl, omega arith)

pub hash_kind_is_short : (k : HashKind) → IsShort (number (hash_kind_number k))
hash_kind_is_short kinds.Nothing = (0, refl, omega arith)
hash_kind_is_short kinds.Md5 = (1, refl, omega arith)
hash_kind_is_short kinds.Sha256 = (2, refl, omega arith)
