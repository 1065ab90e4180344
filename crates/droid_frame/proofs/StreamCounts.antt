-- The interruptions of one frame are counted over all of its reads.
use Rattle.std.proofs.Common.{◌≡◌, ℕ, Result, Ok, Err, refl, sym, subst}
use Rattle.std.specs.Prelude.{IsErrAnd, IsErrOf}
use Rattle.droid_frame.specs.declared.streams.arrival.Arrival.{Arrival}
use Rattle.droid_frame.specs.declared.streams.fault.FrameFault.{FrameFault}
use Rattle.droid_frame.specs.declared.streams.fault.FrameFault.TheVariants.{Truncated, BadVersion, TooLong, Memory, Read}
use Rattle.droid_frame.specs.declared.io.stream_record.Seen.{Seen}
use Rattle.droid_frame.specs.Seen.{Counts, ReportsFault}
use Rattle.droid_frame.proofs.Scopes.{reported_fault, reported_none}
use Rattle.droid_frame.specs.StreamReads.{FaultCounts, ReadsOn}

-- what `?` passes on
pub counts_passed : {T : Type 0} (start : ℕ) (seen : Seen) (count : ℕ) (fault : FrameFault) (r : Result T FrameFault)
    → IsErrAnd r (λ e. e ≡ fault) → FaultCounts start seen count fault → ReadsOn start seen count r
counts_passed start seen count fault (Ok value) is counts = absurd is
counts_passed start seen count fault (Err e) is counts = subst (FaultCounts start seen count) (sym is) counts

-- another fault than the reader's
pub counts_judged : (start : ℕ) (seen : Seen) (count : ℕ) (fault : FrameFault) → (fault ≡ Read → ⊥) → Counts start seen count → FaultCounts start seen count fault
counts_judged start seen count Truncated other counts = counts
counts_judged start seen count BadVersion other counts = counts
counts_judged start seen count TooLong other counts = counts
counts_judged start seen count Memory other counts = counts
counts_judged start seen count Read other counts = absurd (other refl)

-- what a whole frame says of its reader
pub reported_read : (start : ℕ) (seen : Seen) (count : ℕ) (r : Result Arrival FrameFault) → ReadsOn start seen count r → ReportsFault start seen (IsErrOf r Read)
reported_read start seen count (Ok arrival) counts = reported_none start seen count _ (λ e. absurd cc) counts
reported_read start seen count (Err Truncated) counts = reported_none start seen count _ (λ e. absurd cc) counts
reported_read start seen count (Err BadVersion) counts = reported_none start seen count _ (λ e. absurd cc) counts
reported_read start seen count (Err TooLong) counts = reported_none start seen count _ (λ e. absurd cc) counts
reported_read start seen count (Err Memory) counts = reported_none start seen count _ (λ e. absurd cc) counts
reported_read start seen count (Err Read) up = reported_fault start seen _ refl up
