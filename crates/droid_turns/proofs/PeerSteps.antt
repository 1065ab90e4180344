-- What is kept of a connection, after one step more.
use Rattle.std.proofs.Common.{◌≡◌, ℕ, ◌<◌, ◌≤◌, List, [], ◌∷◌, ◌++◌, length, Option, Some, None, Err, refl, sym, ap, subst, ◌∙◌, append_assoc, arith, inl, inr}
use Rattle.std.specs.List.{AllByRecursion}
use Rattle.std.proofs.lemmas.List.{append-nil, length-append}
use Rattle.droid_frame.specs.Frames.{frame_bytes}
use Rattle.droid_frame.specs.Replies.{HasReplySpelling}
use Rattle.droid_frame.specs.Streams.{BeginsNoFrame, IsReadable, why}
use Rattle.droid_frame.specs.declared.streams.fault.FrameFault.{FrameFault}
use Rattle.droid_frame.specs.declared.streams.fault.FrameFault.TheVariants as faults
use Rattle.droid_frame.specs.declared.frame.Frame.{Frame}
use Rattle.droid_frame.specs.declared.reply.Reply.{Reply}
use Rattle.droid_turns.specs.Feeding.{Fails, IsOfBytes, Refuses}
use Rattle.droid_turns.specs.Departures.{IsRefused, IsServed, Serves, StopsBy, held_bound}
use Rattle.droid_turns.specs.Events.{Event, Ended, Read, Timed, Unread, Unwritten, Waited, Wrote}
use Rattle.droid_turns.specs.Peers.{EndsAs, IsLeft, Kept, Lends, Stands, keep}
use Rattle.droid_turns.specs.Steps.{Handles, Happened, Happens, Step, Times, bytes_read, bytes_written, handled_in, moves, times_behind}
use Rattle.droid_turns.specs.declared.departure.Departure.{Departure}
use Rattle.droid_turns.specs.declared.departure.Departure.TheVariants as departures
use Rattle.droid_turns.proofs.OwnSteps.{Elsewhere, came_elsewhere, handled_elsewhere, read_here, times_elsewhere, times_one, none_gathered, times_read, times_wrote, went_elsewhere, written_here}
use Rattle.droid_turns.proofs.ServesMore.{answer_bytes, serves_as, serves_handled, serves_more, serves_same, serves_still}

-- ---- events

pub happened_here : (event : Event) (steps : List Step) → Happened event (steps ++ Happens event ∷ [])
happened_here event [] = inl refl
happened_here event (step ∷ steps) = inr (happened_here event steps)

pub happened_then : (event : Event) (steps more : List Step) → Happened event steps → Happened event (steps ++ more)
happened_then event [] more there = absurd there
happened_then event (step ∷ steps) more (inl here) = inl here
happened_then event (step ∷ steps) more (inr later) = inr (happened_then event steps more later)

pub happened_last : (event : Event) (steps more : List Step) → Happened event more → Happened event (steps ++ more)
happened_last event [] more there = there
happened_last event (step ∷ steps) more there = inr (happened_last event steps more there)

pub stops_then : (id : ℕ) (steps more : List Step) (held : List ℕ) (fault : FrameFault) → StopsBy id steps held fault → StopsBy id (steps ++ more) held fault
stops_then id steps more held faults.Truncated stops = record { ended = happened_then (Ended id) steps more stops.ended; no_frame = stops.no_frame; reason = stops.reason }
stops_then id steps more held faults.BadVersion stops = stops
stops_then id steps more held faults.TooLong stops = stops
stops_then id steps more held faults.Memory stops = stops
stops_then id steps more held faults.Read stops = happened_then (Unread id) steps more stops

-- what is left stays so, whatever steps follow
pub left_then : (id : ℕ) (steps more : List Step) (kept : Kept) (held queued : List ℕ) (leaving : Option Departure) → IsLeft id steps kept held queued leaving → IsLeft id (steps ++ more) kept held queued leaving
left_then id steps more kept held queued None left = left
left_then id steps more kept held queued (Some departures.Closed) left = (happened_then (Ended id) steps more left.0, left.1, left.2)
left_then id steps more kept held queued (Some departures.Enough) left = left
left_then id steps more kept held queued (Some (departures.Frame fault)) left = (stops_then id steps more held fault left.0, left.1)
left_then id steps more kept held queued (Some departures.Memory) left = left
left_then id steps more kept held queued (Some departures.Write) left = left
left_then id steps more kept held queued (Some departures.Idle) left = left
left_then id steps more kept held queued (Some departures.Stopped) left = left
left_then id steps more kept held queued (Some departures.Unsettled) left = left

moved : (times : Times) (bytes : List ℕ) → 0 < length bytes → moves times bytes ≡ record { now = times.now; active = times.now }
moved times [] some = absurd (omega (arith, some))
moved times (byte ∷ bytes) some = refl

pub served : (id : ℕ) (kept : Kept) (now : ℕ) (steps : List Step) → Stands id kept now steps → IsServed id steps
served id kept now steps stands = record { held = stands.held; queued = stands.queued; serves = stands.serves }

-- ---- reads

-- nothing came
pub stands_dry : (id : ℕ) (kept : Kept) (now : ℕ) (steps : List Step) → Stands id kept now steps → Stands id kept now (steps ++ Happens (Read id []) ∷ [])
stands_dry id kept now steps stands =
    let step : Step = Happens (Read id []) in
    record {
      held = stands.held;
      queued = stands.queued;
      serves = serves_still id steps step stands.held stands.queued (read_here id []) refl refl stands.serves;
      is_left = left_then id steps (step ∷ []) kept stands.held stands.queued kept.leaving stands.is_left;
      times = times_one id steps step (record { now = now; active = kept.active }) stands.times ∙ times_read id (record { now = now; active = kept.active }) [];
    }

-- bytes came
pub stands_read : (id : ℕ) (held queued : List ℕ) (active now : ℕ) (steps : List Step) (bytes : List ℕ) → Stands id (keep held queued None active) now steps → 0 < length bytes → length (held ++ bytes) ≤ held_bound
    → Stands id (keep (held ++ bytes) queued None now) now (steps ++ Happens (Read id bytes) ∷ [])
stands_read id held queued active now steps bytes stands some few =
    let step : Step = Happens (Read id bytes) in
    let times : Times = record { now = now; active = active } in
    record {
      held = held ++ bytes;
      queued = queued;
      serves = serves_more id steps step held queued bytes [] (read_here id bytes) refl refl few (serves_as id steps stands.held held stands.queued queued stands.is_left.0 stands.is_left.1 stands.serves);
      is_left = (refl, refl);
      times = times_one id steps step times stands.times ∙ (times_read id times bytes ∙ moved times bytes some);
    }

-- the connection is to leave: what was held and what waits stay as they were
leaves_by : (id : ℕ) (held queued any : List ℕ) (active now : ℕ) (steps : List Step) (step : Step) (why : Departure) → Stands id (keep held queued None active) now steps → Serves id (steps ++ step ∷ []) held queued
    → times_behind id (record { now = now; active = active }) step ≡ record { now = now; active = active }
    → IsLeft id (steps ++ step ∷ []) (keep any queued (Some why) active) held queued (Some why) → Stands id (keep any queued (Some why) active) now (steps ++ step ∷ [])
leaves_by id held queued any active now steps step why stands serves times left = record {
  held = held;
  queued = queued;
  serves = serves;
  is_left = left;
  times = times_one id steps step (record { now = now; active = active }) stands.times ∙ times;
}

-- it could not be read
pub stands_unread : (id : ℕ) (held queued any : List ℕ) (active now : ℕ) (steps : List Step) → Stands id (keep held queued None active) now steps
    → Stands id (keep any queued (Some (departures.Frame faults.Read)) active) now (steps ++ Happens (Unread id) ∷ [])
stands_unread id held queued any active now steps stands =
    leaves_by id held queued any active now steps (Happens (Unread id)) (departures.Frame faults.Read) stands
    (serves_still id steps (Happens (Unread id)) held queued refl refl refl (serves_as id steps stands.held held stands.queued queued stands.is_left.0 stands.is_left.1 stands.serves)) refl
    (happened_here (Unread id) steps, refl)

-- its input ended: the connection closed, or its last frame was cut
stops_at_end : (id : ℕ) (steps : List Step) (held : List ℕ) (fault : FrameFault) → IsOfBytes fault → BeginsNoFrame held → why held ≡ Err fault → StopsBy id (steps ++ Happens (Ended id) ∷ []) held fault
stops_at_end id steps held faults.Truncated kind none reason = record { ended = happened_here (Ended id) steps; no_frame = none; reason = reason }
stops_at_end id steps held faults.BadVersion kind none reason = record { no_frame = none; reason = reason }
stops_at_end id steps held faults.TooLong kind none reason = record { no_frame = none; reason = reason }
stops_at_end id steps held faults.Memory kind none reason = absurd kind
stops_at_end id steps held faults.Read kind none reason = absurd kind

left_ended : (id : ℕ) (steps : List Step) (held queued any : List ℕ) (active : ℕ) (why : Departure) → EndsAs held why → IsLeft id (steps ++ Happens (Ended id) ∷ []) (keep any queued (Some why) active) held queued (Some why)
left_ended id steps held queued any active departures.Closed ends = (happened_here (Ended id) steps, ends, refl)
left_ended id steps held queued any active departures.Enough ends = absurd ends
left_ended id steps held queued any active (departures.Frame fault) ends = (stops_at_end id steps held fault ends.0 ends.1 ends.2, refl)
left_ended id steps held queued any active departures.Memory ends = absurd ends
left_ended id steps held queued any active departures.Write ends = absurd ends
left_ended id steps held queued any active departures.Idle ends = absurd ends
left_ended id steps held queued any active departures.Stopped ends = absurd ends
left_ended id steps held queued any active departures.Unsettled ends = absurd ends

pub stands_ended : (id : ℕ) (held queued any : List ℕ) (active now : ℕ) (steps : List Step) (why : Departure) → Stands id (keep held queued None active) now steps → EndsAs held why
    → Stands id (keep any queued (Some why) active) now (steps ++ Happens (Ended id) ∷ [])
stands_ended id held queued any active now steps why stands ends =
    leaves_by id held queued any active now steps (Happens (Ended id)) why stands
    (serves_still id steps (Happens (Ended id)) held queued refl refl refl (serves_as id steps stands.held held stands.queued queued stands.is_left.0 stands.is_left.1 stands.serves)) refl
    (left_ended id steps held queued any active why ends)

-- ---- writes

-- the queue is shorter: what is kept beside it stays
left_short : (id : ℕ) (steps : List Step) (kept : Kept) (held queued out rest : List ℕ) (now : ℕ) (leaving : Option Departure) → kept.queued ≡ out ++ rest → IsLeft id steps kept held queued leaving
    → (short : List ℕ) × (queued ≡ out ++ short) × IsLeft id steps (keep kept.held rest leaving now) held short leaving
left_short id steps kept held queued out rest now None is left = (rest, left.1 ∙ is, (left.0, refl))
left_short id steps kept held queued out rest now (Some departures.Closed) is left = (rest, left.2 ∙ is, (left.0, left.1, refl))
left_short id steps kept held queued out rest now (Some departures.Enough) is left = (rest, left.1 ∙ is, (left.0, refl))
left_short id steps kept held queued out rest now (Some (departures.Frame fault)) is left = (rest, left.1 ∙ is, (left.0, refl))
left_short id steps kept held queued out rest now (Some departures.Memory) is left =
    (rest ++ left.0, left.1 ∙ (ap (λ (l : List ℕ). l ++ left.0) is ∙ append_assoc out rest left.0), (left.0, refl))
left_short id steps kept held queued out rest now (Some departures.Write) is left = absurd left
left_short id steps kept held queued out rest now (Some departures.Idle) is left = absurd left
left_short id steps kept held queued out rest now (Some departures.Stopped) is left = absurd left
left_short id steps kept held queued out rest now (Some departures.Unsettled) is left = absurd left

-- it took some bytes
pub stands_wrote : (id : ℕ) (kept : Kept) (now : ℕ) (steps : List Step) (out rest : List ℕ) → Stands id kept now steps → 0 < length out → kept.queued ≡ out ++ rest
    → Stands id (keep kept.held rest kept.leaving now) now (steps ++ Happens (Wrote id out) ∷ [])
stands_wrote id kept now steps out rest stands some is =
    let step : Step = Happens (Wrote id out) in
    let short = left_short id steps kept stands.held stands.queued out rest now kept.leaving is stands.is_left in
    let times : Times = record { now = now; active = kept.active } in
    let serves : Serves id steps stands.held (out ++ short.0) = subst (Serves id steps stands.held) short.1 stands.serves in
    record {
      held = stands.held;
      queued = short.0;
      serves = subst (λ (l : List ℕ). Serves id (steps ++ step ∷ []) l short.0) (append-nil stands.held)
          (serves_more id steps step stands.held short.0 [] out refl (written_here id out) refl (rw (append-nil stands.held) stands.serves.few) serves);
      is_left = left_then id steps (step ∷ []) (keep kept.held rest kept.leaving now) stands.held short.0 kept.leaving short.2;
      times = times_one id steps step times stands.times ∙ (times_wrote id times out ∙ moved times out some);
    }

-- it takes nothing
pub stands_full : (id : ℕ) (kept : Kept) (now : ℕ) (steps : List Step) → Stands id kept now steps → Stands id kept now (steps ++ Happens (Wrote id []) ∷ [])
stands_full id kept now steps stands =
    let step : Step = Happens (Wrote id []) in
    record {
      held = stands.held;
      queued = stands.queued;
      serves = serves_still id steps step stands.held stands.queued refl (written_here id []) refl stands.serves;
      is_left = left_then id steps (step ∷ []) kept stands.held stands.queued kept.leaving stands.is_left;
      times = times_one id steps step (record { now = now; active = kept.active }) stands.times ∙ times_wrote id (record { now = now; active = kept.active }) [];
    }

-- it could not be written
pub stands_unwritten : (id : ℕ) (kept : Kept) (now : ℕ) (steps : List Step) → Stands id kept now steps → Stands id kept now (steps ++ Happens (Unwritten id) ∷ [])
stands_unwritten id kept now steps stands =
    let step : Step = Happens (Unwritten id) in
    record {
      held = stands.held;
      queued = stands.queued;
      serves = serves_still id steps step stands.held stands.queued refl refl refl stands.serves;
      is_left = left_then id steps (step ∷ []) kept stands.held stands.queued kept.leaving stands.is_left;
      times = times_one id steps step (record { now = now; active = kept.active }) stands.times;
    }

-- ---- frames

-- a frame is whole
pub lends : (id : ℕ) (held rest queued : List ℕ) (active now : ℕ) (steps : List Step) (frame : Frame) → Stands id (keep held queued None active) now steps → IsReadable frame → held ≡ frame_bytes frame ++ rest
    → Lends id (keep rest queued None active) now steps frame
lends id held rest queued active now steps frame stands readable is = record {
  serves = serves_as id steps stands.held (frame_bytes frame ++ rest) stands.queued queued (stands.is_left.0 ∙ is) stands.is_left.1 stands.serves;
  readable = readable;
  stays = refl;
  times = stands.times;
}

-- the next header has a fault, or there is no memory for its body
refused_by : (old piece new : List ℕ) (fault : FrameFault) → Refuses old piece new fault → IsRefused fault (old ++ piece)
refused_by old piece new fault refuses = record {
  no_frame = subst BeginsNoFrame (sym refuses.parts) (refuses.faulty.no_frame refuses.rest);
  reason = ap why refuses.parts ∙ refuses.faulty.reason refuses.rest;
}

stops_by : (id : ℕ) (steps : List Step) (old piece new : List ℕ) (fault : FrameFault) → Fails old piece new fault → StopsBy id steps (old ++ piece) fault
stops_by id steps old piece new faults.BadVersion fails = refused_by old piece new faults.BadVersion fails
stops_by id steps old piece new faults.TooLong fails = refused_by old piece new faults.TooLong fails
stops_by id steps old piece new faults.Memory fails = fails.1
stops_by id steps old piece new faults.Truncated fails = absurd fails
stops_by id steps old piece new faults.Read fails = absurd fails

pub stops : (id : ℕ) (old piece new queued any : List ℕ) (active now : ℕ) (steps : List Step) (fault : FrameFault) → Stands id (keep (old ++ piece) queued None active) now steps → Fails old piece new fault
    → Stands id (keep any queued (Some (departures.Frame fault)) active) now steps
stops id old piece new queued any active now steps fault stands fails = record {
  held = old ++ piece;
  queued = queued;
  serves = serves_as id steps stands.held (old ++ piece) stands.queued queued stands.is_left.0 stands.is_left.1 stands.serves;
  is_left = (stops_by id steps old piece new fault fails, refl);
  times = stands.times;
}

-- ---- replies

-- the frame was handled, and its reply waits
pub stands_handled : (id : ℕ) (held queued : List ℕ) (active now : ℕ) (steps : List Step) (frame : Frame) (reply : Reply) → Lends id (keep held queued None active) now steps frame → HasReplySpelling frame.version reply
    → length queued ≤ 8388608 → length (answer_bytes frame reply) ≤ 1048658 → Stands id (keep held (queued ++ answer_bytes frame reply) None active) now (steps ++ Handles id frame reply ∷ [])
stands_handled id held queued active now steps frame reply lent spelled few small =
    let step : Step = Handles id frame reply in
    record {
      held = held;
      queued = queued ++ answer_bytes frame reply;
      serves = serves_handled id steps frame reply held queued lent.readable spelled (omega (arith, few, small, length-append queued (answer_bytes frame reply))) lent.serves;
      is_left = (refl, refl);
      times = times_one id steps step (record { now = now; active = active }) lent.times;
    }

-- and it was the last one
pub stands_enough : (id : ℕ) (held queued : List ℕ) (active now : ℕ) (steps : List Step) → Stands id (keep held queued None active) now steps → Stands id (keep held queued (Some departures.Enough) active) now steps
stands_enough id held queued active now steps stands = record { held = stands.held; queued = stands.queued; serves = stands.serves; is_left = (stands.is_left.0, stands.is_left.1); times = stands.times }

-- or there was no memory for it
pub stands_lost : (id : ℕ) (held queued any : List ℕ) (active now : ℕ) (steps : List Step) (frame : Frame) (reply : Reply) → Lends id (keep held queued None active) now steps frame → HasReplySpelling frame.version reply
    → length queued ≤ 8388608 → length (answer_bytes frame reply) ≤ 1048658 → Stands id (keep any queued (Some departures.Memory) active) now (steps ++ Handles id frame reply ∷ [])
stands_lost id held queued any active now steps frame reply lent spelled few small =
    let step : Step = Handles id frame reply in
    record {
      held = held;
      queued = queued ++ answer_bytes frame reply;
      serves = serves_handled id steps frame reply held queued lent.readable spelled (omega (arith, few, small, length-append queued (answer_bytes frame reply))) lent.serves;
      is_left = (answer_bytes frame reply, refl);
      times = times_one id steps step (record { now = now; active = active }) lent.times;
    }

-- ---- steps of others

pub serves_elsewhere : (id : ℕ) (steps more : List Step) (held queued : List ℕ) → AllByRecursion (Elsewhere id) more → Serves id steps held queued → Serves id (steps ++ more) held queued
serves_elsewhere id steps more held queued all serves =
    serves_same id steps (steps ++ more) held queued (none_gathered (bytes_read id) steps more (came_elsewhere id more all)) (none_gathered (bytes_written id) steps more (went_elsewhere id more all))
    (none_gathered (handled_in id) steps more (handled_elsewhere id more all)) serves

pub stands_elsewhere : (id : ℕ) (kept : Kept) (now : ℕ) (steps more : List Step) → AllByRecursion (Elsewhere id) more → Stands id kept now steps → Stands id kept now (steps ++ more)
stands_elsewhere id kept now steps more all stands = record {
  held = stands.held;
  queued = stands.queued;
  serves = serves_elsewhere id steps more stands.held stands.queued all stands.serves;
  is_left = left_then id steps more kept stands.held stands.queued kept.leaving stands.is_left;
  times = times_elsewhere id steps more all ∙ stands.times;
}

-- the clock was read
pub stands_timed : (id : ℕ) (kept : Kept) (now time : ℕ) (steps : List Step) → Stands id kept now steps → Stands id kept time (steps ++ Happens (Timed time) ∷ [])
stands_timed id kept now time steps stands =
    let step : Step = Happens (Timed time) in
    record {
      held = stands.held;
      queued = stands.queued;
      serves = serves_still id steps step stands.held stands.queued refl refl refl stands.serves;
      is_left = left_then id steps (step ∷ []) kept stands.held stands.queued kept.leaving stands.is_left;
      times = times_one id steps step (record { now = now; active = kept.active }) stands.times;
    }

-- a wait is over
pub stands_waited : (id : ℕ) (kept : Kept) (now limit : ℕ) (steps : List Step) → Stands id kept now steps → Stands id kept now (steps ++ Happens (Waited limit) ∷ [])
stands_waited id kept now limit steps stands =
    let step : Step = Happens (Waited limit) in
    record {
      held = stands.held;
      queued = stands.queued;
      serves = serves_still id steps step stands.held stands.queued refl refl refl stands.serves;
      is_left = left_then id steps (step ∷ []) kept stands.held stands.queued kept.leaving stands.is_left;
      times = times_one id steps step (record { now = now; active = kept.active }) stands.times;
    }
