-- A writer that takes a line, or stops.
use Rattle.std.proofs.Common.{ℕ, Option, Result, Ok, Err, arith}
use Rattle.std.specs.Prelude.{OnErr, OnOk}
use Rattle.droid_frame.specs.declared.io.stream_record.Seen.{Seen}
use Rattle.droid_frame.specs.Writes.{WritesOn}
use Rattle.droid_profile.specs.Writers.{LastsOn, Stops}

pub stops : {T E : Type 0} (old new : Seen) (room : Option ℕ) (count : ℕ) (r : Result T E) → WritesOn old.interruptions new room count r → OnErr r (Stops old new room)
stops old new room count (Ok value) goes = tt
stops old new room count (Err fault) goes = record { start = old.interruptions; counted = omega arith; stopped = goes }

pub goes_on : {T E : Type 0} (old new : Seen) (room : Option ℕ) (count : ℕ) (r : Result T E) → WritesOn old.interruptions new room count r → OnOk r (LastsOn old new)
goes_on old new room count (Ok value) goes = record { sound = goes.sound; counted = omega (arith, goes.counted) }
goes_on old new room count (Err fault) goes = tt
