-- What a frame that was written in parts says of its writer.
use Rattle.std.proofs.Common.{◌≡◌, ℕ, ◌+◌, ◌-◌, ◌<◌, ◌≤◌, List, length, Option, Result, Ok, Err, OnOk, IfErr, IsErr, refl, sym, subst, arith}
use Rattle.std.specs.Prelude.{IsErrAnd}
use Rattle.droid_frame.specs.declared.io.stream_fault.WriteFault.{WriteFault}
use Rattle.droid_frame.specs.declared.io.stream_record.Seen.{Seen}
use Rattle.droid_frame.specs.Writes.{StopsWithin, Takes, ReportsWrite, WriterStops, WritesOn}
use Rattle.droid_frame.proofs.Stopping.{takes_more, reported_all, reported_stop}

-- some bytes went out before a fault
pub takes_before : (before mid after : Option ℕ) (sent written : ℕ) → Takes before mid sent → Takes mid after (written - sent) → sent ≤ written → Takes before after written
takes_before before mid after sent written first next within =
    let whole : sent + (written - sent) ≡ written = omega arith in
    subst (λ (n : ℕ). Takes before after n) whole (takes_more before mid after sent (written - sent) first next)

-- the last part of a frame: all went out, or the writer stopped within it
pub reported_last : {T : Type 0} (start : ℕ) (seen : Seen) (before mid after : Option ℕ) (sent part size count : ℕ) (r : Result T WriteFault)
    → Takes before mid sent → size ≡ sent + part → OnOk r (Takes mid after part) → IfErr r (λ f. Takes mid after (f.written - sent)) → IfErr r (λ f. (sent ≤ f.written) × (f.written < size))
    → WritesOn start seen after count r → ReportsWrite start seen before size (IsErr r)
reported_last start seen before mid after sent part size count (Ok value) first whole all some within on =
    reported_all start seen before after size count _ (λ e. absurd cc) (subst (λ (n : ℕ). Takes before after n) (sym whole) (takes_more before mid after sent part first all)) on
reported_last start seen before mid after sent part size count (Err fault) first whole all some within on =
    reported_stop start seen before after fault.written size _ refl (takes_before before mid after sent fault.written first some within.0) within.1 on

pub room_all : {T : Type 0} (before mid after : Option ℕ) (sent part size : ℕ) (r : Result T WriteFault) → Takes before mid sent → size ≡ sent + part → OnOk r (Takes mid after part) → OnOk r (Takes before after size)
room_all before mid after sent part size (Ok value) first whole all = subst (λ (n : ℕ). Takes before after n) (sym whole) (takes_more before mid after sent part first all)
room_all before mid after sent part size (Err fault) first whole all = tt

pub room_some : {T : Type 0} (before mid after : Option ℕ) (sent size : ℕ) (r : Result T WriteFault) → Takes before mid sent → IfErr r (λ f. Takes mid after (f.written - sent)) → IfErr r (λ f. (sent ≤ f.written) × (f.written < size)) → IfErr r (λ f. Takes before after f.written)
room_some before mid after sent size (Ok value) first some within = tt
room_some before mid after sent size (Err fault) first some within = takes_before before mid after sent fault.written first some within.0

-- where the count began with none
pub first_room : (before after : Option ℕ) (none written : ℕ) → none ≡ 0 → Takes before after (written - none) → Takes before after written
first_room before after none written is takes =
    let same : written - none ≡ written = omega (arith, is) in
    subst (λ (n : ℕ). Takes before after n) same takes

-- a writer that stopped within the last part
pub within_part : {T : Type 0} (old new : Option (List ℕ)) (part : List ℕ) (sent size : ℕ) (r : Result T WriteFault)
    → size ≡ sent + length part → IfErr r (λ f. StopsWithin old new part sent f.written) → IfErr r (λ f. (sent ≤ f.written) × (f.written < size))
within_part old new part sent size (Ok value) whole stops = tt
within_part old new part sent size (Err fault) whole stops = (stops.counts_on, omega (arith, whole, stops.counts_on, stops.some_left))

-- what `?` passes on where the writer stops
pub stop_passed : {T E : Type 0} (start : ℕ) (seen : Seen) (room : Option ℕ) (count : ℕ) (r : Result T E) (P : E → Type 0) → IsErrAnd r P → WriterStops start seen room → WritesOn start seen room count r
stop_passed start seen room count (Ok value) P is stops = absurd is
stop_passed start seen room count (Err fault) P is stops = stops
