-- Which fault an error of the database is.
use Rattle.std.proofs.Common.{◌≡◌, ◌≢◌, ◌<◌, ◌^◌, inl, inr, ℕ, pos, List, length, IsUtf8, Result, Ok, Err, IfErr, IsErrAnd, sym, ap, subst, ◌∙◌}
use Rattle.sqlite.specs.declared.error.Error.{Error}
use Rattle.sqlite.specs.declared.error.Error.TheVariants.{SqliteFailure}
use Rattle.sqlite.specs.declared.error.ErrorCode.TheVariants.{OutOfMemory}
use Rattle.sqlite.specs.declared.types.Value.{Value}
use Rattle.sqlite.specs.declared.types.Value.TheVariants.{Int, Text, Blob}
use Rattle.sqlite.specs.Order.{Row, column}
use Rattle.sqlite.specs.Reading.{IsReadError}
use Rattle.droid_store.specs.MemoryFaults.{IsOutOfMemory}
use Rattle.droid_store.specs.declared.fault.StoreFault.{StoreFault}
use Rattle.droid_store.specs.declared.fault.StoreFault.TheVariants.{Memory}
use Rattle.droid_store.specs.Faults.{fault_of}

-- running out of memory is the fault Memory
pub out_of_memory_is_memory : (e : Error) → IsOutOfMemory e → fault_of e ≡ Memory
out_of_memory_is_memory e (inl is) = ap fault_of is
out_of_memory_is_memory e (inr is) = ap fault_of is

-- where `?` hands it on
pub reported_memory : {T : Type 0} (r : Result T StoreFault) (e : Error) → IsErrAnd r (λ f. f ≡ fault_of e) → IsOutOfMemory e → IfErr r (λ f. f ≡ Memory)
reported_memory (Ok done) e reported failure = tt
reported_memory (Err fault) e reported failure = reported ∙ out_of_memory_is_memory e failure

-- reading a column of the right type fails only if memory runs out
pub reads_or_runs_out : (row : Row) (at : ℕ) (e : Error) (Readable : Type 0) → IsReadError at (column row at) e → (e ≢ SqliteFailure OutOfMemory → at < length row → ¬ Readable) → at < length row → Readable → fault_of e ≡ Memory
reads_or_runs_out row at e Readable (inl is) bad within fine = absurd (bad (λ same. let both = sym is ∙ same in cc) within fine)
reads_or_runs_out row at e Readable (inr (inl is)) bad within fine = absurd (bad (λ same. let both = sym is ∙ same in cc) within fine)
reads_or_runs_out row at e Readable (inr (inr (inl is))) bad within fine = absurd (bad (λ same. let both = sym is ∙ same in cc) within fine)
reads_or_runs_out row at e Readable (inr (inr (inr (inl is)))) bad within fine = absurd (bad (λ same. let both = sym is ∙ same in cc) within fine)
reads_or_runs_out row at e Readable (inr (inr (inr (inr is)))) bad within fine = ap fault_of is

-- what 32 bits hold, what 64 bits hold, a number of either sign, a text that is UTF-8, and bytes
abbrev pub IsShort : Value → Type 0
IsShort v = (n : ℕ) × (v ≡ Int (pos n)) × (n < 2 ^ 32)

abbrev pub IsNatural : Value → Type 0
IsNatural v = (n : ℕ) × (v ≡ Int (pos n))

abbrev pub IsString : Value → Type 0
IsString v = (t : List ℕ) × (v ≡ Text t) × IsUtf8 t

abbrev pub IsBytes : Value → Type 0
IsBytes v = (b : List ℕ) × (v ≡ Blob b)

-- a column that `?` reads
pub unread : {T : Type 0} (r : Result T StoreFault) (row : Row) (at : ℕ) (e : Error) (Readable : Value → Type 0) (v : Value) → IsErrAnd r (λ f. f ≡ fault_of e) → IsReadError at (column row at) e
    → (e ≢ SqliteFailure OutOfMemory → at < length row → ¬ Readable (column row at)) → at < length row → column row at ≡ v → Readable v → IfErr r (λ f. f ≡ Memory)
unread (Ok done) row at e Readable v reported named bad within is fine = tt
unread (Err fault) row at e Readable v reported named bad within is fine = reported ∙ reads_or_runs_out row at e (Readable (column row at)) named bad within (subst Readable (sym is) fine)
