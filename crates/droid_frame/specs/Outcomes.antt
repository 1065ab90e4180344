-- For inner clauses and proofs: the results of readers that allocate.
use Rattle.std.specs.Prelude.{◌≡◌, Option, Some, None, IsSome, Result, Ok, Err}
use Rattle.droid_frame.specs.declared.body_fault.BodyFault.{BodyFault}
use Rattle.droid_frame.specs.declared.body_fault.BodyFault.TheVariants.{Malformed, Memory}

-- `Malformed` means that no value is spelled; `Memory` says nothing
abbrev pub Fails : {Y : Type 0} → BodyFault → Option Y → Type 0
Fails Malformed read = read ≡ None
Fails Memory read = Unit {0}

-- what a reader that allocates returns, where `read` is what the bytes spell: the spelled value, seen through `view`;
-- `Malformed` only if none is spelled; or `Memory`
abbrev pub Gives : {X Y : Type 0} → (X → Y) → Result X BodyFault → Option Y → Type 0
Gives view (Ok x) read = read ≡ Some (view x)
Gives view (Err fault) read = Fails fault read

-- the result of a reader that checks the bytes before it allocates: `Memory` only if a value is spelled
abbrev pub IsAnswer : {X : Type 0} → Result X BodyFault → Option X → Type 0
IsAnswer (Ok x) read = read ≡ Some x
IsAnswer (Err Malformed) read = read ≡ None
IsAnswer (Err Memory) read = IsSome read
