-- What a stream did so far, and what each call adds to it (this project's own rule).
use Rattle.std.specs.Prelude.{◌≡◌, ℕ, ◌+◌, ◌≤◌, ◌⊎◌, Result, Ok, Err}
use Rattle.std.specs.IoError.{error_kind}
use Rattle.std.specs.declared.io.Error.{Error}
use Rattle.std.specs.declared.io.ErrorKind.TheVariants.{Interrupted}
use Rattle.droid_frame.specs.declared.io.stream_record.Seen.{Seen}
use Rattle.droid_frame.specs.declared.io.stream_record.Condition.TheVariants.{Sound, Failed}

-- the stream hasn't failed
abbrev pub IsSound : Seen → Type 0
IsSound seen = seen.condition ≡ Sound

-- a stream that wasn't used yet; also a stream that is never interrupted and never fails
abbrev pub fresh : Seen
fresh = record { interruptions = 0; condition = Sound }

-- a sound stream was interrupted once more
abbrev pub after_interruption : Seen → Seen
after_interruption seen = record { interruptions = seen.interruptions + 1; condition = Sound }

-- a sound stream failed
abbrev pub after_failure : Seen → Seen
after_failure seen = record { interruptions = seen.interruptions; condition = Failed }

-- what an error of a sound stream adds: an interruption adds one, and any other error is a failure
pub record AddsError (old new : Seen) (error : Error) : Type 0 where
  pub interruption : error_kind error ≡ Interrupted → new ≡ after_interruption old
  pub failure : (error_kind error ≡ Interrupted → ⊥) → new ≡ after_failure old

-- ---- one frame, file or text: 64 interruptions are tried again

-- since it had been interrupted `start` times, a stream hasn't failed, and was interrupted 64 times at most
pub record Lasts (start : ℕ) (seen : Seen) : Type 0 where
  pub sound : IsSound seen
  pub counted : start ≤ seen.interruptions
  pub within : seen.interruptions ≤ start + 64

-- since then it failed in its last call, with no more interruptions before
pub record Fails (start : ℕ) (seen : Seen) : Type 0 where
  pub failed : seen.condition ≡ Failed
  pub counted : start ≤ seen.interruptions
  pub within : seen.interruptions ≤ start + 64

-- since then it was interrupted for the 65th time
pub record IsInterruptedTooOften (start : ℕ) (seen : Seen) : Type 0 where
  pub sound : IsSound seen
  pub once_too_often : seen.interruptions ≡ start + 65

-- a stream is given up: it failed, or was interrupted for the 65th time
abbrev pub GivesUp : ℕ → Seen → Type 0
GivesUp start seen = Fails start seen ⊎ IsInterruptedTooOften start seen

-- a call reports the fault exactly where the stream is given up; with any other result the stream lasted
pub record ReportsFault (start : ℕ) (seen : Seen) (is_fault : Type 0) : Type 0 where
  pub fault : is_fault → GivesUp start seen
  pub otherwise : (is_fault → ⊥) → Lasts start seen

-- ---- within one of these, over several calls

-- since it had been interrupted `start` times, a stream hasn't failed, and all its interruptions are counted
pub record Counts (start : ℕ) (seen : Seen) (count : ℕ) : Type 0 where
  pub sound : IsSound seen
  pub counted : seen.interruptions ≡ start + count
  pub within : count ≤ 64

-- after a call: with a value the count goes on, with a fault the stream is given up
abbrev pub CountsOn : {T E : Type 0} → ℕ → Seen → ℕ → Result T E → Type 0
CountsOn start seen count (Ok value) = Counts start seen count
CountsOn start seen count (Err fault) = GivesUp start seen
