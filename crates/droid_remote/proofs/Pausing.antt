-- Tries after tries, while the service has no place for another unfinished file.
use Rattle.std.proofs.Common.{◌≡◌, ℕ, ◌+◌, ◌≤◌, ◌-◌, ◌^◌, true, List, [], ◌∷◌, ◌++◌, Contains, length, inl, inr, refl, sym, ap, subst, ◌∙◌, append_assoc, length-append, arith}
use Rattle.droid_frame.specs.declared.frame.Frame.{Frame}
use Rattle.droid_frame.specs.declared.reply.Reply.{Reply}
use Rattle.droid_frame.specs.declared.reply.Reply.TheVariants.{Made, Node, Taken, Finished, Abandoned, Progress, Part, Refused}
use Rattle.droid_remote.specs.Calls.{Fails, IsAmong, Waited, Waits}
use Rattle.droid_remote.specs.Events.{Event, Fact, Expired, Paused, Started, facts_after}
use Rattle.droid_remote.specs.Moves.{Goes}
use Rattle.droid_remote.specs.Stages.{StandsOn}
use Rattle.droid_remote.specs.TransferFaults.{Explains}
use Rattle.droid_remote.specs.Vouching.{remember}
use Rattle.droid_remote.specs.declared.transfer.in_flight.InFlight.{InFlight}
use Rattle.droid_remote.specs.declared.transfer.known_requests.KnownRequests.{KnownRequests}
use Rattle.droid_remote.specs.declared.transfer.transfer_fault.TransferFault.{TransferFault}
use Rattle.droid_remote.specs.declared.transfer.transfer_fault.TransferFault.TheVariants as transfers
use Rattle.droid_remote.proofs.Going.{all_taken_before, answered_after, explains_after, facts_append, goes_in, goes_on, goes_one, nothing_in}
use Rattle.droid_remote.specs.Patience.{MissesCopy, Pausing}
use Rattle.droid_remote.specs.SenderCalls.{ExplainsMiss, Misses, is_busy}

-- ---- what is known, and what stands

-- such a reply makes nothing known
same_known : (known : KnownRequests) (frame : Frame) (reply : Reply) → is_busy reply ≡ true → remember known frame reply ≡ known
same_known known frame (Made profile) busy = absurd cc
same_known known frame (Node number) busy = absurd cc
same_known known frame (Taken held) busy = refl
same_known known frame (Finished method mismatch hash puids) busy = absurd cc
same_known known frame Abandoned busy = absurd cc
same_known known frame (Progress held missing) busy = refl
same_known known frame (Part as_of total bytes) busy = refl
same_known known frame (Refused refusal) busy = refl

pub stands_later : {C : Type 0} (known : KnownRequests) (facts : List Fact) (xs ys : List Event) (in_flight : InFlight C) → StandsOn known (facts_after (facts_after facts xs) ys) in_flight
    → StandsOn known (facts_after facts (xs ++ ys)) in_flight
stands_later known facts xs ys in_flight stands = subst (λ (l : List Fact). StandsOn known l in_flight) (sym (facts_append facts xs ys)) stands

-- if nothing is in flight, only this frame is written
pub among_alone : (waiting others : List Frame) (frame other : Frame) → waiting ≡ [] → IsAmong waiting frame other → IsAmong others frame other
among_alone waiting others frame other none (inl there) = absurd (nothing_in waiting other none there)
among_alone waiting others frame other none (inr same) = inr same

-- ---- why no reply came

pub explains_miss : (fault : TransferFault) (known : KnownRequests) (Is : Frame → Type 0) (pieces : List Frame) (frame : Frame) (facts : List Fact) (events : List Event)
    → Explains fault known Is pieces facts events → ExplainsMiss fault known Is pieces frame facts events
explains_miss transfers.Memory known Is pieces frame facts events why = why
explains_miss transfers.Broken known Is pieces frame facts events why = why
explains_miss transfers.Stranger known Is pieces frame facts events why = why
explains_miss transfers.Restarted known Is pieces frame facts events why = why
explains_miss (transfers.Refused refusal) known Is pieces frame facts events why = why
explains_miss transfers.Busy known Is pieces frame facts events why = absurd why

memory_miss : (fault : TransferFault) (known : KnownRequests) (Is : Frame → Type 0) (pieces : List Frame) (frame : Frame) (facts : List Fact) (events : List Event)
    → fault ≡ transfers.Memory → ExplainsMiss fault known Is pieces frame facts events
memory_miss fault known Is pieces frame facts events is = subst (λ (f : TransferFault). ExplainsMiss f known Is pieces frame facts events) (sym is) tt

module _ {C : Type 0} (does : C → Event → C → Type 0) (known : KnownRequests) (frame : Frame) where
  pub fails_miss : (fault : TransferFault) (facts : List Fact) (old new : InFlight C) → Fails does known (IsAmong old.waiting.items frame) old.waiting.items fault facts old new → Misses does known frame fault facts old new
  fails_miss fault facts old new fails = record {
    goes = fails.stops.goes;
    explained = explains_miss fault known (IsAmong old.waiting.items frame) old.waiting.items frame facts fails.stops.goes.events fails.stops.explained;
    kept = λ other there. absurd (nothing_in new.waiting.items other fails.none there);
    none = λ refusal is. fails.none;
    stands_on = fails.stands_on;
  }

  pub first_missed : (fault : TransferFault) (facts : List Fact) (old new : InFlight C) → StandsOn known facts old → MissesCopy does known frame fault facts old new → Misses does known frame fault facts old new
  first_missed fault facts old new stands (inl memory) = record {
    goes = record { events = []; happened = ap (λ (i : InFlight C). i.connection) memory.1; only = tt };
    explained = memory_miss fault known (IsAmong old.waiting.items frame) old.waiting.items frame facts [] memory.0;
    kept = λ other there. subst (λ (i : InFlight C). Contains i.waiting.items other) memory.1 there;
    none = λ refusal is. absurd (let both = sym memory.0 ∙ is in cc);
    stands_on = subst (λ (i : InFlight C). StandsOn known facts i) (sym memory.1) stands;
  }
  first_missed fault facts old new stands (inr fails) = fails_miss fault facts old new fails

  -- the first try
  pub pausing_first : (facts : List Fact) (reply : Reply) (old now new : InFlight C) → is_busy reply ≡ true → Waits does known frame reply facts old now → Waited does Started now new → Pausing does known frame 0 facts old new
  pausing_first facts reply old now new busy waits waited =
      let events = waits.goes.events in
      record {
        goes = goes_on does known (IsAmong old.waiting.items frame) facts old.connection now.connection new.connection waits.goes
            (goes_one does known (IsAmong old.waiting.items frame) (facts_after facts events) now.connection new.connection Started waited.happened tt);
        before = events;
        later = [];
        cut = refl;
        reply = reply;
        busy = busy;
        answered = waits.answered;
        counted = omega arith;
        taken = all_taken_before known facts events (Started ∷ []) old.waiting.items waits.taken;
        none = waited.same_waiting ∙ waits.none;
        stands_on = stands_later known facts events (Started ∷ []) new
            (waited.stands_on known (facts_after facts events) (subst (λ (k : KnownRequests). StandsOn k (facts_after facts events) now) (same_known known frame reply busy) waits.stands_on));
      }

  module _ (facts : List Fact) (turns : ℕ) (old now new : InFlight C) (pausing : Pausing does known frame turns facts old now) where
    abbrev then : List Fact
    then = facts_after facts pausing.goes.events

    abbrev Own : Frame → Type 0
    Own = IsAmong old.waiting.items frame

    -- more events happened
    pausing_on : (turns_after : ℕ) (more : Goes does known Own then now.connection new.connection) → turns_after ≤ turns + length more.events → new.waiting.items ≡ [] → StandsOn known (facts_after then more.events) new
        → Pausing does known frame turns_after facts old new
    pausing_on turns_after more count none stands = record {
      goes = goes_on does known Own facts old.connection now.connection new.connection pausing.goes more;
      before = pausing.before;
      later = pausing.later ++ more.events;
      cut = ap (λ (l : List Event). l ++ more.events) pausing.cut ∙ append_assoc pausing.before (Started ∷ pausing.later) more.events;
      reply = pausing.reply;
      busy = pausing.busy;
      answered = pausing.answered;
      counted = let counted = pausing.counted in omega (arith, counted, count, length-append pausing.later more.events);
      taken = all_taken_before known facts pausing.goes.events more.events old.waiting.items pausing.taken;
      none = none;
      stands_on = stands_later known facts pausing.goes.events more.events new stands;
    }

    -- the frame was asked alone
    abbrev asks_alone : (next : InFlight C) → Goes does known (IsAmong now.waiting.items frame) then now.connection next.connection → Goes does known Own then now.connection next.connection
    asks_alone next goes = goes_in does known (IsAmong now.waiting.items frame) Own then now.connection next.connection
        (λ other may. among_alone now.waiting.items old.waiting.items frame other pausing.none may) goes

    -- the client waited a while
    pub pausing_paused : Waited does Paused now new → Pausing does known frame (turns + 1) facts old new
    pausing_paused waited = pausing_on (turns + 1) (goes_one does known Own then now.connection new.connection Paused waited.happened tt) (omega arith)
        (waited.same_waiting ∙ pausing.none) (waited.stands_on known then pausing.stands_on)

    -- there is still no place
    pub pausing_again : (reply : Reply) → is_busy reply ≡ true → Waits does known frame reply then now new → Pausing does known frame turns facts old new
    pausing_again reply busy waits = pausing_on turns (asks_alone new waits.goes) (omega arith) waits.none
        (subst (λ (k : KnownRequests). StandsOn k (facts_after then waits.goes.events) new) (same_known known frame reply busy) waits.stands_on)

    -- another reply came
    pub pausing_answered : (reply : Reply) → Waits does known frame reply then now new → Waits does known frame reply facts old new
    pausing_answered reply waits = record {
      none = waits.none;
      goes = goes_on does known Own facts old.connection now.connection new.connection pausing.goes (asks_alone new waits.goes);
      taken = all_taken_before known facts pausing.goes.events waits.goes.events old.waiting.items pausing.taken;
      answered = answered_after known facts pausing.goes.events waits.goes.events frame reply waits.answered;
      stands_on = stands_later (remember known frame reply) facts pausing.goes.events waits.goes.events new waits.stands_on;
    }

    -- no reply came
    pub pausing_missed : (fault : TransferFault) → MissesCopy does known frame fault then now new → Misses does known frame fault facts old new
    pausing_missed fault (inl memory) = subst (λ (i : InFlight C). Misses does known frame fault facts old i) (sym memory.1) (record {
      goes = pausing.goes;
      explained = memory_miss fault known Own old.waiting.items frame facts pausing.goes.events memory.0;
      kept = λ other there. absurd (nothing_in now.waiting.items other pausing.none there);
      none = λ refusal is. pausing.none;
      stands_on = pausing.stands_on;
    })
    pausing_missed fault (inr fails) =
        let late = fails.stops.goes.events in
        record {
          goes = goes_on does known Own facts old.connection now.connection new.connection pausing.goes (asks_alone new fails.stops.goes);
          explained = explains_miss fault known Own old.waiting.items frame facts (pausing.goes.events ++ late)
              (explains_after known (IsAmong now.waiting.items frame) Own now.waiting.items old.waiting.items
              (λ other may. among_alone now.waiting.items old.waiting.items frame other pausing.none may) (λ other there. absurd (nothing_in now.waiting.items other pausing.none there))
              facts pausing.goes.events late fault fails.stops.explained);
          kept = λ other there. absurd (nothing_in new.waiting.items other fails.none there);
          none = λ refusal is. fails.none;
          stands_on = stands_later known facts pausing.goes.events late new fails.stands_on;
        }

    -- the time is over
    pub pausing_over : Waited does Expired now new → Misses does known frame transfers.Busy facts old new
    pausing_over waited = record {
      goes = goes_on does known Own facts old.connection now.connection new.connection pausing.goes (goes_one does known Own then now.connection new.connection Expired waited.happened tt);
      explained = record {
        before = pausing.before;
        later = pausing.later ++ Expired ∷ [];
        cut = ap (λ (l : List Event). l ++ Expired ∷ []) pausing.cut ∙ append_assoc pausing.before (Started ∷ pausing.later) (Expired ∷ []);
        reply = pausing.reply;
        busy = pausing.busy;
        answered = pausing.answered;
        over = inl (pausing.later, refl);
      };
      kept = λ other there. absurd (nothing_in new.waiting.items other (waited.same_waiting ∙ pausing.none) there);
      none = λ refusal is. absurd cc;
      stands_on = stands_later known facts pausing.goes.events (Expired ∷ []) new (waited.stands_on known then pausing.stands_on);
    }

  -- there were as many events as the largest number counts
  pub pausing_ended : (facts : List Fact) (turns : ℕ) (old now : InFlight C) → Pausing does known frame turns facts old now → 2 ^ 64 - 1 ≤ turns → Misses does known frame transfers.Busy facts old now
  pausing_ended facts turns old now pausing many = record {
    goes = pausing.goes;
    explained = record {
      before = pausing.before;
      later = pausing.later;
      cut = pausing.cut;
      reply = pausing.reply;
      busy = pausing.busy;
      answered = pausing.answered;
      over = inr (let counted = pausing.counted in omega (arith, counted, many));
    };
    kept = λ other there. absurd (nothing_in now.waiting.items other pausing.none there);
    none = λ refusal is. absurd cc;
    stands_on = pausing.stands_on;
  }
