-- One frame, file or text: its interruptions are counted from its start on.
use Rattle.std.proofs.Common.{◌≡◌, ℕ, Result, Ok, Err, sym, ap, subst, arith}
use Rattle.std.specs.Prelude.{IsErrAnd, IsErrOf}
use Rattle.droid_frame.specs.declared.io.stream_record.Seen.{Seen}
use Rattle.droid_frame.specs.Seen.{IsSound, Lasts, GivesUp, ReportsFault, Counts, CountsOn}

-- none so far
pub counts_none : (seen : Seen) → IsSound seen → Counts seen.interruptions seen 0
counts_none seen sound = record { sound = sound; counted = omega arith; within = omega arith }

pub counts_begin : (seen : Seen) (count : ℕ) → count ≡ 0 → IsSound seen → Counts seen.interruptions seen count
counts_begin seen count none sound = record { sound = sound; counted = omega (arith, none); within = omega (arith, none) }

pub counts_same : (start : ℕ) (old new : Seen) (count : ℕ) → new ≡ old → Counts start old count → Counts start new count
counts_same start old new count same counts = subst (λ (s : Seen). Counts start s count) (sym same) counts

pub lasts : (start : ℕ) (seen : Seen) (count : ℕ) → Counts start seen count → Lasts start seen
lasts start seen count counts = record { sound = counts.sound; counted = omega (arith, counts.counted); within = omega (arith, counts.counted, counts.within) }

-- what `?` passes on where the stream is given up
pub given_up : {T E : Type 0} (start : ℕ) (seen : Seen) (count : ℕ) (r : Result T E) (P : E → Type 0) → IsErrAnd r P → GivesUp start seen → CountsOn start seen count r
given_up start seen count (Ok value) P is up = absurd is
given_up start seen count (Err fault) P is up = up

-- the fault of the stream is reported where it is given up, and no other answer is that fault
pub reported_fault : (start : ℕ) (seen : Seen) (is_fault : Type 0) → is_fault → GivesUp start seen → ReportsFault start seen is_fault
reported_fault start seen is_fault is up = record { fault = λ _. up; otherwise = λ not. absurd (not is) }

pub reported_none : (start : ℕ) (seen : Seen) (count : ℕ) (is_fault : Type 0) → (is_fault → ⊥) → Counts start seen count → ReportsFault start seen is_fault
reported_none start seen count is_fault not counts = record { fault = λ is. absurd (not is); otherwise = λ _. lasts start seen count counts }

-- the error that `?` passes on
pub is_error : {T E : Type 0} (r : Result T E) (e : E) → IsErrAnd r (λ x. x ≡ e) → IsErrOf r e
is_error (Ok value) e is = absurd is
is_error (Err error) e is = ap (λ x. Err x) is
