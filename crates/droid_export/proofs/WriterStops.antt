-- A writer that takes a text, or stops.
use Rattle.std.proofs.Common.{ℕ, Option, Result, Ok, Err}
use Rattle.std.specs.Prelude.{OnOk, OnErr}
use Rattle.droid_frame.specs.declared.io.stream_record.Seen.{Seen}
use Rattle.droid_frame.specs.Seen.{Lasts}
use Rattle.droid_frame.specs.Writes.{WriterStops, WritesOn}
use Rattle.droid_frame.proofs.Scopes.{lasts}

pub stops : {T E : Type 0} (start : ℕ) (seen : Seen) (room : Option ℕ) (count : ℕ) (r : Result T E) → WritesOn start seen room count r → OnErr r (WriterStops start seen room)
stops start seen room count (Ok value) goes = tt
stops start seen room count (Err fault) goes = goes

pub goes_on : {T E : Type 0} (start : ℕ) (seen : Seen) (room : Option ℕ) (count : ℕ) (r : Result T E) → WritesOn start seen room count r → OnOk r (Lasts start seen)
goes_on start seen room count (Ok value) goes = lasts start seen count goes
goes_on start seen room count (Err fault) goes = tt
