-- A frame that was written as one part: what that says of the writer.
use Rattle.std.proofs.Common.{◌≡◌, ℕ, ◌-◌, List, length, take, Option, Result, Ok, Err, OnOk, IfErr, IsErr, sym, ap, subst, arith}
use Rattle.std.specs.Io.KnownBytes.{Appends}
use Rattle.droid_frame.specs.StreamWrites.{Stops}
use Rattle.droid_frame.proofs.StreamEnds.{first_room, reported_last, within_part}
use Rattle.droid_frame.specs.declared.io.stream_fault.WriteFault.{WriteFault}
use Rattle.droid_frame.specs.declared.io.stream_record.Seen.{Seen}
use Rattle.droid_frame.specs.Writes.{StopsWithin, Takes, ReportsWrite, WritesOn}
use Rattle.droid_frame.proofs.Stopping.{takes_none}

-- these bytes are the frame's, and nothing went out before them
stopped_at : (old new : Option (List ℕ)) (bytes frame : List ℕ) (none count : ℕ) → bytes ≡ frame → none ≡ 0 → StopsWithin old new bytes none count → Stops old new frame count
stopped_at old new bytes frame none count is first stops =
    let same : count - none ≡ count = omega (arith, first) in
    record {
      some_left = omega (arith, ap length is, same, stops.some_left);
      front = subst (λ (l : List ℕ). Appends old new (take count l)) is (subst (λ (n : ℕ). Appends old new (take n bytes)) same stops.front);
    }

pub whole_stops : {T : Type 0} (old new : Option (List ℕ)) (bytes frame : List ℕ) (none : ℕ) (r : Result T WriteFault) → bytes ≡ frame → none ≡ 0
    → IfErr r (λ f. StopsWithin old new bytes none f.written) → IfErr r (λ f. Stops old new frame f.written)
whole_stops old new bytes frame none (Ok value) is first stops = tt
whole_stops old new bytes frame none (Err fault) is first stops = stopped_at old new bytes frame none fault.written is first stops

pub whole_room : {T : Type 0} (before after : Option ℕ) (none : ℕ) (r : Result T WriteFault) → none ≡ 0
    → IfErr r (λ f. Takes before after (f.written - none)) → IfErr r (λ f. Takes before after f.written)
whole_room before after none (Ok value) first room = tt
whole_room before after none (Err fault) first room = first_room before after none fault.written first room

pub whole_reported : {T : Type 0} (start : ℕ) (seen : Seen) (before after : Option ℕ) (known later : Option (List ℕ)) (bytes frame : List ℕ) (none count : ℕ) (r : Result T WriteFault)
    → bytes ≡ frame → none ≡ 0 → OnOk r (Takes before after (length bytes)) → IfErr r (λ f. Takes before after (f.written - none))
    → IfErr r (λ f. StopsWithin known later bytes none f.written) → WritesOn start seen after count r → ReportsWrite start seen before (length frame) (IsErr r)
whole_reported start seen before after known later bytes frame none count r is first all some stops on =
    reported_last start seen before before after none (length bytes) (length frame) count r
    (subst (λ (n : ℕ). Takes before before n) (sym first) (takes_none before)) (omega (arith, first, ap length is)) all some
    (within_part known later bytes none (length frame) r (omega (arith, first, ap length is)) stops) on
