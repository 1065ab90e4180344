-- Part after part of an export.
use Rattle.std.proofs.Common.{◌≡◌, ◌≢◌, ℕ, ◌+◌, ◌*◌, ◌<◌, ◌≤◌, min, List, [], ◌∷◌, ◌++◌, length, inl, inr, refl, sym, ap, subst, ◌∙◌, length-append, append-nil, append_assoc, arith}
use Rattle.std.proofs.lemmas.Grind.{flat_map-append}
use Rattle.droid_frame.specs.declared.frame.Frame.{Frame}
use Rattle.droid_frame.specs.declared.reply.Reply.{Reply}
use Rattle.droid_frame.specs.declared.reply.Reply.TheVariants as replies
use Rattle.droid_remote.specs.Answering.{IsAnswered}
use Rattle.droid_remote.specs.Calls.{Fails, IsAmong, Waits}
use Rattle.droid_remote.specs.Events.{Event, Fact, facts_after}
use Rattle.droid_remote.specs.Stages.{StandsOn}
use Rattle.droid_remote.specs.Vouching.{remember}
use Rattle.droid_remote.specs.declared.transfer.in_flight.InFlight.{InFlight}
use Rattle.droid_remote.specs.declared.transfer.known_requests.KnownRequests.{KnownRequests}
use Rattle.droid_remote.specs.TransferFaults.{Explains}
use Rattle.droid_remote.specs.declared.transfer.transfer_fault.TransferFault.{TransferFault}
use Rattle.droid_remote.specs.declared.transfer.transfer_fault.TransferFault.TheVariants as transfers
use Rattle.droid_remote.proofs.Going.{answered_after, answered_before, explains_after, goes_in, goes_none, goes_on, nothing_in}
use Rattle.droid_remote.specs.Exports.{ArePartsOf, AreOfTwo, Disturbs, Downloads, EndsAsking, EndsExport, ExplainsEnd, ExplainsReply, ExplainsRoom, Exports, ExportsFront, IsPartFrame, OnlyAsks, export_limit, joined, part_frame, part_length}
use Rattle.droid_remote.specs.declared.remote_fault.DownloadFault.{DownloadFault}
use Rattle.droid_remote.specs.declared.remote_fault.DownloadFault.TheVariants.{Long, NoRoom, Sending}
use Rattle.droid_remote.proofs.Pausing.{stands_later}

joined_more : (parts : List (List ℕ)) (part : List ℕ) → joined (parts ++ part ∷ []) ≡ joined parts ++ part
joined_more parts part = flat_map-append (λ (p : List ℕ). p) parts (part ∷ []) ∙ ap (λ (l : List ℕ). joined parts ++ l) (append-nil part)

module _ (client : ℕ) (name : List ℕ) (profile : ℕ) where
  module _ (known : KnownRequests) (facts : List Fact) where
    parts_before : (before after : List Event) (as_of total from : ℕ) (parts : List (List ℕ)) → ArePartsOf client name profile known facts before as_of total from parts
        → ArePartsOf client name profile known facts (before ++ after) as_of total from parts
    parts_before before after as_of total from [] are = tt
    parts_before before after as_of total from (part ∷ parts) are =
        (answered_before known facts before after (part_frame client name profile from) (replies.Part as_of total part) are.0, parts_before before after as_of total (from + length part) parts are.1)

    parts_last : (events : List Event) (as_of total from last : ℕ) (parts : List (List ℕ)) (part : List ℕ) → last ≡ from + length (joined parts) → ArePartsOf client name profile known facts events as_of total from parts
        → IsAnswered known facts events (part_frame client name profile last) (replies.Part as_of total part) → ArePartsOf client name profile known facts events as_of total from (parts ++ part ∷ [])
    parts_last events as_of total from last [] part place are is =
        (subst (λ (n : ℕ). IsAnswered known facts events (part_frame client name profile n) (replies.Part as_of total part)) (omega (arith, place)) is, tt)
    parts_last events as_of total from last (first ∷ parts) part place are is =
        (are.0, parts_last events as_of total (from + length first) last parts part (omega (arith, place, length-append first (joined parts))) are.1 is)

  -- the reply to such a request makes nothing known
  pub same_known : (known : KnownRequests) (from : ℕ) (reply : Reply) → remember known (part_frame client name profile from) reply ≡ known
  same_known known from (replies.Made number) = refl
  same_known known from (replies.Node number) = refl
  same_known known from (replies.Taken held) = refl
  same_known known from (replies.Finished method mismatch hash puids) = refl
  same_known known from replies.Abandoned = refl
  same_known known from (replies.Progress held missing) = refl
  same_known known from (replies.Part as_of total bytes) = refl
  same_known known from (replies.Refused refusal) = refl

  pub among_parts : (waiting : List Frame) (from : ℕ) (frame : Frame) → waiting ≡ [] → IsAmong waiting (part_frame client name profile from) frame → IsPartFrame client name profile frame
  among_parts waiting from frame none (inl there) = absurd (nothing_in waiting frame none there)
  among_parts waiting from frame none (inr is) = (from, is)

  module _ {C : Type 0} (does : C → Event → C → Type 0) (known : KnownRequests) where
    abbrev Asks : List Fact → InFlight C → InFlight C → Type 0
    Asks facts old new = OnlyAsks client name profile does known facts old new

    abbrev pub asks_none : (facts : List Fact) (old : InFlight C) → old.waiting.items ≡ [] → StandsOn known facts old → Asks facts old old
    asks_none facts old none stands = record { goes = goes_none does known (IsPartFrame client name profile) facts old.connection; none = none; stands_on = stands }

    abbrev pub asks_waits : (facts : List Fact) (from : ℕ) (reply : Reply) (old new : InFlight C) → old.waiting.items ≡ [] → Waits does known (part_frame client name profile from) reply facts old new → Asks facts old new
    asks_waits facts from reply old new none waits = record {
      goes = goes_in does known (IsAmong old.waiting.items (part_frame client name profile from)) (IsPartFrame client name profile) facts old.connection new.connection
          (λ frame is. among_parts old.waiting.items from frame none is) waits.goes;
      none = waits.none;
      stands_on = subst (λ (k : KnownRequests). StandsOn k (facts_after facts waits.goes.events) new) (same_known known from reply) waits.stands_on;
    }

    abbrev pub asks_fails : (facts : List Fact) (from : ℕ) (fault : TransferFault) (pieces : List Frame) (old new : InFlight C) → old.waiting.items ≡ []
        → Fails does known (IsAmong old.waiting.items (part_frame client name profile from)) pieces fault facts old new → Asks facts old new
    asks_fails facts from fault pieces old new none fails = record {
      goes = goes_in does known (IsAmong old.waiting.items (part_frame client name profile from)) (IsPartFrame client name profile) facts old.connection new.connection
          (λ frame is. among_parts old.waiting.items from frame none is) fails.stops.goes;
      none = fails.none;
      stands_on = fails.stands_on;
    }

    abbrev asks_on : (facts : List Fact) (old now new : InFlight C) (first : Asks facts old now) → Asks (facts_after facts first.goes.events) now new → Asks facts old new
    asks_on facts old now new first second = record {
      goes = goes_on does known (IsPartFrame client name profile) facts old.connection now.connection new.connection first.goes second.goes;
      none = second.none;
      stands_on = stands_later known facts first.goes.events second.goes.events new second.stands_on;
    }

    -- of parts that have bytes the first came
    first_came : (facts : List Fact) (events : List Event) (as_of total : ℕ) (parts : List (List ℕ)) → ArePartsOf client name profile known facts events as_of total 0 parts → 0 < length (joined parts)
        → (bytes : List ℕ) × IsAnswered known facts events (part_frame client name profile 0) (replies.Part as_of total bytes)
    first_came facts events as_of total [] are some = absurd (omega (arith, some))
    first_came facts events as_of total (part ∷ parts) are some = (part, are.0)

    -- ---- why no part came

    -- no reply came
    end_by_fault : (facts : List Fact) (events : List Event) (from : ℕ) (waiting : List Frame) → waiting ≡ [] → (fault : TransferFault) → Explains fault known (IsAmong waiting (part_frame client name profile from)) waiting facts events
        → ExplainsEnd client name profile known facts events fault
    end_by_fault facts events from waiting none transfers.Memory why = tt
    end_by_fault facts events from waiting none transfers.Broken why = why
    end_by_fault facts events from waiting none transfers.Stranger why =
        inl (record { frame = why.frame; came = why.came; is = among_parts waiting from why.frame none why.is; last = why.last; no_reply = why.no_reply })
    end_by_fault facts events from waiting none transfers.Restarted why = why
    end_by_fault facts events from waiting none (transfers.Refused refusal) why = absurd (nothing_in waiting why.frame none why.is)
    end_by_fault facts events from waiting none transfers.Busy why = absurd why

    -- a reply came that is no part
    end_by_reply : (facts : List Fact) (events : List Event) (from : ℕ) (reply : Reply) → IsAnswered known facts events (part_frame client name profile from) reply → (fault : TransferFault) → ExplainsReply from reply fault
        → ExplainsEnd client name profile known facts events fault
    end_by_reply facts events from reply answered transfers.Memory why = tt
    end_by_reply facts events from reply answered transfers.Stranger why = inr (record { from = from; reply = reply; answered = answered; odd = why })
    end_by_reply facts events from reply answered (transfers.Refused refusal) why =
        record { from = from; answered = subst (λ (r : Reply). IsAnswered known facts events (part_frame client name profile from) r) why.0 answered; reason = why.1 }
    end_by_reply facts events from reply answered transfers.Broken why = absurd why
    end_by_reply facts events from reply answered transfers.Restarted why = absurd why
    end_by_reply facts events from reply answered transfers.Busy why = absurd why

    its_explains : (facts : List Fact) (xs ys : List Event) (fault : TransferFault) → Explains fault known (IsPartFrame client name profile) [] (facts_after facts xs) ys → Explains fault known (IsPartFrame client name profile) [] facts (xs ++ ys)
    its_explains facts xs ys fault why =
        explains_after known (IsPartFrame client name profile) (IsPartFrame client name profile) [] [] (λ frame is. is) (λ frame is. is) facts xs ys fault why

    -- more events came before
    end_later : (facts : List Fact) (xs ys : List Event) (fault : TransferFault) → ExplainsEnd client name profile known (facts_after facts xs) ys fault → ExplainsEnd client name profile known facts (xs ++ ys) fault
    end_later facts xs ys transfers.Memory why = tt
    end_later facts xs ys transfers.Broken why = its_explains facts xs ys transfers.Broken why
    end_later facts xs ys transfers.Restarted why = its_explains facts xs ys transfers.Restarted why
    end_later facts xs ys transfers.Busy why = absurd why
    end_later facts xs ys transfers.Stranger why = elim why [
      | inl no_reply ↦ inl (its_explains facts xs ys transfers.Stranger no_reply)
      | inr odd ↦ inr (record { from = odd.from; reply = odd.reply; answered = answered_after known facts xs ys (part_frame client name profile odd.from) odd.reply odd.answered; odd = odd.odd })
    ]
    end_later facts xs ys (transfers.Refused refusal) why =
        record { from = why.from; answered = answered_after known facts xs ys (part_frame client name profile why.from) (replies.Refused refusal) why.answered; reason = why.reason }

    abbrev Ends : TransferFault → List Fact → InFlight C → InFlight C → Type 0
    Ends fault facts old new = EndsAsking client name profile does fault known facts old new

    abbrev EndsAny : DownloadFault → List Fact → InFlight C → InFlight C → Type 0
    EndsAny fault facts old new = EndsExport client name profile does fault known facts old new

    -- the request could not be made
    pub ends_unasked : (facts : List Fact) (old : InFlight C) → old.waiting.items ≡ [] → StandsOn known facts old → (fault : TransferFault) → fault ≡ transfers.Memory → Ends fault facts old old
    ends_unasked facts old none stands fault is =
        subst (λ (f : TransferFault). Ends f facts old old) (sym is) (record { asks = asks_none facts old none stands; explained = tt })

    pub ends_fails : (facts : List Fact) (from : ℕ) (fault : TransferFault) (old new : InFlight C) → old.waiting.items ≡ [] → Fails does known (IsAmong old.waiting.items (part_frame client name profile from)) old.waiting.items fault facts old new
        → Ends fault facts old new
    ends_fails facts from fault old new none fails =
        record { asks = asks_fails facts from fault old.waiting.items old new none fails; explained = end_by_fault facts fails.stops.goes.events from old.waiting.items none fault fails.stops.explained }

    pub ends_waits : (facts : List Fact) (from : ℕ) (reply : Reply) (fault : TransferFault) (old new : InFlight C) → old.waiting.items ≡ [] → Waits does known (part_frame client name profile from) reply facts old new
        → ExplainsReply from reply fault → Ends fault facts old new
    ends_waits facts from reply fault old new none waits why =
        record { asks = asks_waits facts from reply old new none waits; explained = end_by_reply facts waits.goes.events from reply waits.answered fault why }

    -- the first part came, and there was no room for the text
    pub ends_unroomed : (facts : List Fact) (as_of total : ℕ) (bytes : List ℕ) (fault : DownloadFault) (old new : InFlight C) → old.waiting.items ≡ [] → Waits does known (part_frame client name profile 0) (replies.Part as_of total bytes) facts old new
        → ExplainsRoom total fault → EndsAny fault facts old new
    ends_unroomed facts as_of total bytes (Sending fault) old new none waits why = absurd why
    ends_unroomed facts as_of total bytes (Long announced) old new none waits why = (
      asks_waits facts 0 (replies.Part as_of total bytes) old new none waits,
      record {
        as_of = as_of;
        bytes = bytes;
        answered = subst (λ (n : ℕ). IsAnswered known facts waits.goes.events (part_frame client name profile 0) (replies.Part as_of n bytes)) (sym why.0) waits.answered;
        over = subst (λ (n : ℕ). export_limit < n) (sym why.0) why.1;
      },
    )
    ends_unroomed facts as_of total bytes NoRoom old new none waits why = asks_waits facts 0 (replies.Part as_of total bytes) old new none waits

    -- no memory was left for a part
    pub ends_unwritten : (facts : List Fact) (from : ℕ) (reply : Reply) (fault : DownloadFault) (old new : InFlight C) → old.waiting.items ≡ [] → Waits does known (part_frame client name profile from) reply facts old new
        → fault ≡ NoRoom → EndsAny fault facts old new
    ends_unwritten facts from reply fault old new none waits is = subst (λ (f : DownloadFault). EndsAny f facts old new) (sym is) (asks_waits facts from reply old new none waits)

    -- other parts were asked for before
    pub ends_on : (facts : List Fact) (fault : TransferFault) (old now new : InFlight C) (first : Asks facts old now) → Ends fault (facts_after facts first.goes.events) now new → Ends fault facts old new
    ends_on facts fault old now new first ends =
        record { asks = asks_on facts old now new first ends.asks; explained = end_later facts first.goes.events ends.asks.goes.events fault ends.explained }

    pub unwritten_on : (facts : List Fact) (from : ℕ) (reply : Reply) (fault : DownloadFault) (old now new : InFlight C) (first : Asks facts old now) → Waits does known (part_frame client name profile from) reply (facts_after facts first.goes.events) now new
        → fault ≡ NoRoom → EndsAny fault facts old new
    unwritten_on facts from reply fault old now new first waits is =
        subst (λ (f : DownloadFault). EndsAny f facts old new) (sym is) (asks_on facts old now new first (asks_waits (facts_after facts first.goes.events) from reply now new first.none waits))

    abbrev Front : List Fact → ℕ → ℕ → ℕ → InFlight C → InFlight C → List ℕ → List ℕ → Type 0
    Front facts as_of total from old new text text_after = ExportsFront client name profile does as_of total from known facts old new text text_after

    -- nothing came yet
    abbrev pub front_none : (facts : List Fact) (as_of total : ℕ) (old : InFlight C) (text : List ℕ) → total ≤ export_limit → old.waiting.items ≡ [] → StandsOn known facts old → Front facts as_of total 0 old old text text
    front_none facts as_of total old text within none stands = record { parts = []; counted = refl; within = within; asks = asks_none facts old none stands; came = tt; wrote = sym (append-nil text) }

    module _ (facts : List Fact) (as_of total from : ℕ) (old now new : InFlight C) (text text_now : List ℕ) (front : Front facts as_of total from old now text text_now) where
      abbrev then : List Fact
      then = facts_after facts front.asks.goes.events

      -- another part was asked for, and appended
      pub front_more : (text_after part : List ℕ) → Waits does known (part_frame client name profile from) (replies.Part as_of total part) then now new → (after : ℕ) → text_after ≡ text_now ++ part → after ≡ from + length part
          → Front facts as_of total after old new text text_after
      front_more text_after part waits after wrote place =
          let counted = front.counted in
          record {
            parts = front.parts ++ part ∷ [];
            counted = ap length (joined_more front.parts part) ∙ omega (arith, length-append (joined front.parts) part, counted, place);
            within = front.within;
            asks = asks_on facts old now new front.asks (asks_waits then from (replies.Part as_of total part) now new front.asks.none waits);
            came = parts_last known facts (front.asks.goes.events ++ waits.goes.events) as_of total 0 from front.parts part (omega (arith, counted))
                (parts_before known facts front.asks.goes.events waits.goes.events as_of total 0 front.parts front.came)
                (answered_after known facts front.asks.goes.events waits.goes.events (part_frame client name profile from) (replies.Part as_of total part) waits.answered);
            wrote = wrote
                ∙ (ap (λ (l : List ℕ). l ++ part) front.wrote ∙ (append_assoc text (joined front.parts) part ∙ ap (λ (l : List ℕ). text ++ l) (sym (joined_more front.parts part))));
          }

      -- no further part was appended
      pub front_missed : Asks then now new → Downloads client name profile does known facts old new text text_now
      front_missed missed = record {
        asks = asks_on facts old now new front.asks missed;
        as_of = as_of;
        total = total;
        parts = front.parts;
        came = parts_before known facts front.asks.goes.events missed.goes.events as_of total 0 front.parts front.came;
        wrote = front.wrote;
      }

      -- the next part is of another export
      pub front_disturbed : (other_as_of other_total : ℕ) (part : List ℕ) → Waits does known (part_frame client name profile from) (replies.Part other_as_of other_total part) then now new → 0 < from
          → ((other_as_of ≡ as_of) × (other_total ≡ total) → ⊥) → Disturbs client name profile does known facts old new
      front_disturbed other_as_of other_total part waits some apart =
          let counted = front.counted in
          let asks = asks_on facts old now new front.asks (asks_waits then from (replies.Part other_as_of other_total part) now new front.asks.none waits) in
          let first = first_came facts front.asks.goes.events as_of total front.parts front.came (omega (arith, some, counted)) in
          record {
            asks = asks;
            two = record {
              as_of = as_of;
              total = total;
              bytes = first.0;
              first = answered_before known facts front.asks.goes.events waits.goes.events (part_frame client name profile 0) (replies.Part as_of total first.0) first.1;
              from = from;
              other_as_of = other_as_of;
              other_total = other_total;
              other_bytes = part;
              other = answered_after known facts front.asks.goes.events waits.goes.events (part_frame client name profile from) (replies.Part other_as_of other_total part) waits.answered;
              apart = apart;
            };
          }

    -- nothing further was asked for
    pub front_ended : (facts : List Fact) (as_of total from : ℕ) (old now : InFlight C) (text text_now : List ℕ) → Front facts as_of total from old now text text_now → Downloads client name profile does known facts old now text text_now
    front_ended facts as_of total from old now text text_now front = record { asks = front.asks; as_of = as_of; total = total; parts = front.parts; came = front.came; wrote = front.wrote }

    pub export_done : (facts : List Fact) (as_of total from : ℕ) (old now : InFlight C) (text text_now : List ℕ) → from ≡ total → Front facts as_of total from old now text text_now
        → Exports client name profile does known facts old now text text_now
    export_done facts as_of total from old now text text_now all front = (as_of, total, subst (λ (n : ℕ). Front facts as_of total n old now text text_now) all front)

-- ---- offsets

-- each part has as many bytes as were asked for, or those up to the end: so the first parts have their number times 2^20
pub first_at : (total count from : ℕ) → count ≡ part_length total 0 → from ≡ 0 + count → from ≡ min total ((0 + 1) * 1048576)
first_at total count from full after = omega (arith, full, after)

pub next_at : (total turn from count after : ℕ) → from ≡ min total ((turn + 1) * 1048576) → count ≡ part_length total from → after ≡ from + count → after ≡ min total ((turn + 1 + 1) * 1048576)
next_at total turn from count after place full is = omega (arith, place, full, is)

pub last_at : (total turn from : ℕ) → from ≡ min total ((turn + 1) * 1048576) → total ≤ 1073741824 → 1024 ≤ turn → from ≡ total
last_at total turn from place within many = omega (arith, place, within, many)

-- before the end something came
pub some_came : (total turn from : ℕ) → from ≡ min total ((turn + 1) * 1048576) → from ≢ total → 0 < from
some_came total turn from place short = omega (arith, place, short)

pub part_within : (total from count : ℕ) → from ≤ total → count ≡ part_length total from → from + count ≤ total
part_within total from count low full = omega (arith, low, full)

pub place_within : (total turn from : ℕ) → from ≡ min total ((turn + 1) * 1048576) → from ≤ total
place_within total turn from place = omega (arith, place)

-- no more than 2^30 bytes were appended
pub within_bound : (text text_now : List ℕ) (total from : ℕ) → length text_now ≡ length text + from → from ≤ total → total ≤ 1073741824 → length text_now ≤ length text + 1073741824
within_bound text text_now total from long low within = omega (arith, long, low, within)

pub same_bound : (text text_now : List ℕ) → text_now ≡ text → length text_now ≤ length text + 1073741824
same_bound text text_now same = omega (arith, ap length same)

pub long_more : (text text_now text_after part : List ℕ) (from after : ℕ) → length text_now ≡ length text + from → text_after ≡ text_now ++ part → after ≡ from + length part → length text_after ≡ length text + after
long_more text text_now text_after part from after long wrote is = omega (arith, long, ap length wrote, length-append text_now part, is)

-- another part is of the same export
pub same_part : (as_of as_of_too total total_too : ℕ) (part : List ℕ) → (as_of_too ≡ as_of) × (total_too ≡ total) → replies.Part as_of_too total_too part ≡ replies.Part as_of total part
same_part as_of as_of_too total total_too part same = ap (λ (n : ℕ). replies.Part n total_too part) same.0 ∙ ap (λ (n : ℕ). replies.Part as_of n part) same.1

pub same_frame : (client client_now : ℕ) (name name_now : List ℕ) (profile from : ℕ) → client_now ≡ client → name_now ≡ name → part_frame client_now name_now profile from ≡ part_frame client name profile from
same_frame client client_now name name_now profile from same named = ap (λ (c : ℕ). part_frame c name_now profile from) same ∙ ap (λ (n : List ℕ). part_frame client n profile from) named

-- a part was asked for by a sender that is the same, but for what is in flight
pub its_waits : {C : Type 0} (does : C → Event → C → Type 0) (known : KnownRequests) (facts : List Fact) (client client_now : ℕ) (name name_now : List ℕ) (profile from : ℕ) (reply : Reply) (old new : InFlight C) → client_now ≡ client → name_now ≡ name
    → Waits does known (part_frame client_now name_now profile from) reply facts old new → Waits does known (part_frame client name profile from) reply facts old new
its_waits does known facts client client_now name name_now profile from reply old new same named waits =
    subst (λ (f : Frame). Waits does known f reply facts old new) (same_frame client client_now name name_now profile from same named) waits

pub its_asks : {C : Type 0} (does : C → Event → C → Type 0) (known : KnownRequests) (facts : List Fact) (client client_now : ℕ) (name name_now : List ℕ) (profile : ℕ) (old new : InFlight C) → client_now ≡ client → name_now ≡ name
    → OnlyAsks client_now name_now profile does known facts old new → OnlyAsks client name profile does known facts old new
its_asks does known facts client client_now name name_now profile old new same named asks =
    subst (λ (n : List ℕ). OnlyAsks client n profile does known facts old new) named (subst (λ (c : ℕ). OnlyAsks c name_now profile does known facts old new) same asks)

-- what is so of a sender is so of another that is the same, but for what is in flight
pub its_own : (P : ℕ → List ℕ → Type 0) (client client_now : ℕ) (name name_now : List ℕ) → client_now ≡ client → name_now ≡ name → P client_now name_now → P client name
its_own P client client_now name name_now same named is = subst (λ (n : List ℕ). P client n) named (subst (λ (c : ℕ). P c name_now) same is)
