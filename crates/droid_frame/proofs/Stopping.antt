-- A writer that takes no byte has failed, or is full; and what that leaves.
use Rattle.std.proofs.Common.{◌≡◌, ℕ, zero, suc, ◌+◌, ◌<◌, Option, Some, None, refl, sym, ap, ◌∙◌, arith, inl, inr}
use Rattle.droid_frame.specs.declared.io.stream_record.Seen.{Seen}
use Rattle.droid_frame.specs.Seen.{Counts, GivesUp}
use Rattle.droid_frame.proofs.Scopes.{lasts}
use Rattle.droid_frame.specs.Writes.{AddsTaken, HasRoom, ReportsWrite, Takes, WriterStops}

pub takes_none : (room : Option ℕ) → Takes room room 0
takes_none None = tt
takes_none (Some room) = omega arith

-- two writes took the sum of what each took
pub takes_more : (old mid new : Option ℕ) (first next : ℕ) → Takes old mid first → Takes mid new next → Takes old new (first + next)
takes_more None None None first next p q = tt
takes_more None None (Some c) first next p q = absurd q
takes_more None (Some b) new first next p q = absurd p
takes_more (Some a) None new first next p q = absurd p
takes_more (Some a) (Some b) None first next p q = absurd q
takes_more (Some a) (Some b) (Some c) first next p q = omega (arith, p, q)

-- no byte of some was taken
pub stops_at_none : (start : ℕ) (old new : Seen) (before after : Option ℕ) (length count taken : ℕ) → taken ≡ 0
    → AddsTaken old new before length taken → 0 < length → Takes before after taken → Counts start old count → WriterStops start new after
stops_at_none start old new None after length count taken none adds some takes counts =
    rw (adds.failure none some (λ e. absurd cc)) (inl (inl (record { failed = refl; counted = omega (arith, counts.counted); within = omega (arith, counts.counted, counts.within) })))
stops_at_none start old new (Some zero) None length count taken none adds some takes counts = absurd takes
stops_at_none start old new (Some zero) (Some room) length count taken none adds some takes counts =
    let left : room ≡ 0 = omega (arith, takes, none) in
    rw (adds.full refl) (inr (record { lasts = lasts start old count counts; full = ap (λ (n : ℕ). Some n) left }))
stops_at_none start old new (Some (suc more)) after length count taken none adds some takes counts =
    rw (adds.failure none some (λ e. absurd cc))
    (inl (inl (record { failed = refl; counted = omega (arith, counts.counted); within = omega (arith, counts.counted, counts.within) })))

-- ---- writers with no known end of room

pub room_stays : (new : Option ℕ) (count : ℕ) → Takes None new count → new ≡ None
room_stays None count takes = refl
room_stays (Some room) count takes = absurd takes

-- such a writer is never full
pub given_up_only : (start : ℕ) (seen : Seen) (room : Option ℕ) → WriterStops start seen room → room ≡ None → GivesUp start seen
given_up_only start seen room (inl up) none = up
given_up_only start seen room (inr full) none = absurd (let same = sym none ∙ full.full in cc)

-- ---- what a whole frame or text says

-- some bytes were left where the writer stopped
pub reported_stop : (start : ℕ) (seen : Seen) (before after : Option ℕ) (written size : ℕ) (is_fault : Type 0)
    → is_fault → Takes before after written → written < size → WriterStops start seen after → ReportsWrite start seen before size is_fault
reported_stop start seen before after written size is_fault is takes less (inl up) = record { fault = λ _. inl up; otherwise = λ not. absurd (not is) }
reported_stop start seen None after written size is_fault is takes less (inr full) =
    absurd (let none = room_stays after written takes in let same = sym none ∙ full.full in cc)
reported_stop start seen (Some room) None written size is_fault is takes less (inr full) = absurd takes
reported_stop start seen (Some room) (Some left) written size is_fault is takes less (inr full) =
    let none : left ≡ 0 = let same = full.full in cc in
    record { fault = λ _. inr (full.lasts, omega (arith, takes, none)); otherwise = λ not. absurd (not is) }

has_room : (before after : Option ℕ) (size : ℕ) → Takes before after size → HasRoom before size
has_room None after size takes = tt
has_room (Some room) None size takes = absurd takes
has_room (Some room) (Some left) size takes = omega (arith, takes)

-- all went out
pub reported_all : (start : ℕ) (seen : Seen) (before after : Option ℕ) (size count : ℕ) (is_fault : Type 0)
    → (is_fault → ⊥) → Takes before after size → Counts start seen count → ReportsWrite start seen before size is_fault
reported_all start seen before after size count is_fault not takes counts =
    record { fault = λ is. absurd (not is); otherwise = λ _. (lasts start seen count counts, has_room before after size takes) }
