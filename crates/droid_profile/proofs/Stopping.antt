-- A writer that stops.
use Rattle.std.proofs.Common.{ℕ, ◌-◌, List, [], take, drop, Option, Result, Ok, Err, sym, append-nil, take-append-drop, length-drop, ◌∙◌, arith}
use Rattle.std.specs.Prelude.{IfErr, OnErr}
use Rattle.droid_frame.specs.Seen.{IsSound}
use Rattle.droid_frame.specs.Writes.{StopsWithin, WriterStops}
use Rattle.droid_frame.specs.declared.io.stream_fault.WriteFault.{WriteFault}
use Rattle.droid_frame.specs.declared.io.stream_record.Seen.{Seen}
use Rattle.droid_profile.specs.Taking.{Breaks}

module _ {O : Type 0} (contents : O → Option (List ℕ)) (seen : O → Seen) (room : O → Option ℕ) where
  pub breaks : (old new : O) (bytes : List ℕ) (count : ℕ) → StopsWithin (contents old) (contents new) bytes 0 count
      → (IsSound (seen old) → WriterStops (seen old).interruptions (seen new) (room new)) → Breaks contents seen room old new bytes []
  breaks old new bytes count within stops = record {
    written = take (count - 0) bytes;
    rest = drop (count - 0) bytes;
    are = append-nil bytes ∙ sym (take-append-drop (count - 0) bytes);
    left = omega (arith, length-drop (count - 0) bytes, within.some_left);
    appended = within.front;
    stops = λ sound. record { start = (seen old).interruptions; counted = omega arith; stopped = stops sound };
  }

  pub breaks_on_err : (result : Result (Unit {0}) WriteFault) (old new : O) (bytes : List ℕ) → IfErr result (λ fault. StopsWithin (contents old) (contents new) bytes 0 fault.written)
      → (IsSound (seen old) → OnErr result (WriterStops (seen old).interruptions (seen new) (room new))) → OnErr result (Breaks contents seen room old new bytes [])
  breaks_on_err (Ok done) old new bytes within stops = tt
  breaks_on_err (Err fault) old new bytes within stops = breaks old new bytes fault.written within stops
