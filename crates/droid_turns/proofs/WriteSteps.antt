-- What waits for a connection is written.
use Rattle.std.proofs.Common.{◌≡◌, ℕ, zero, suc, ◌-◌, ◌<◌, ◌≤◌, ◌==◌, true, false, List, [], ◌∷◌, ◌++◌, length, take, drop, Option, Some, None, refl, sym, ap, subst, ◌∙◌, arith}
use Rattle.std.proofs.lemmas.Bool.{eqb-true, false≢true}
use Rattle.std.proofs.lemmas.List.{length-take, nil_from_length, take-append-drop}
use Rattle.droid_turns.specs.Departures.{Explains}
use Rattle.droid_turns.specs.Events.{Unwritten, Wrote}
use Rattle.droid_turns.specs.Peers.{Advances, Departs, IsCounted, IsLeft, IsQuiet, Kept, Sends, Stands, WritesOut, is_over, is_over_for, keep, kept_of, unread}
use Rattle.droid_turns.specs.Steps.{Happened, Happens, Step, Times, handled, handled_in}
use Rattle.droid_turns.specs.declared.departure.Departure.{Departure}
use Rattle.droid_turns.specs.declared.departure.Departure.TheVariants as departures
use Rattle.droid_turns.specs.declared.peer.Peer.{Peer}
use Rattle.droid_turns.proofs.ConnectionSteps.{advances_both, advances_none, advances_one, quiet_both, quiet_none, quiet_one}
use Rattle.droid_turns.proofs.OwnSteps.{none_gathered}
use Rattle.droid_turns.proofs.PeerSteps.{happened_last, stands_full, stands_unwritten, stands_wrote}

-- ---- writes

take_front : (count front : ℕ) (xs : List ℕ) → count ≤ front → take count (take front xs) ≡ take count xs
take_front zero front xs within = refl
take_front (suc count) zero xs within = absurd (omega (arith, within))
take_front (suc count) (suc front) [] within = refl
take_front (suc count) (suc front) (x ∷ xs) within = ap (λ (l : List ℕ). x ∷ l) (take_front count front xs (omega (arith, within)))

-- what was taken of what was shown, and what waits still
pub taken_and_left : (count front : ℕ) (bytes shown : List ℕ) → shown ≡ take front bytes → count ≤ front → bytes ≡ take count shown ++ drop count bytes
taken_and_left count front bytes shown is within =
    sym (ap (λ (l : List ℕ). l ++ drop count bytes) (ap (take count) is ∙ take_front count front bytes within) ∙ take-append-drop count bytes)

pub wrote_some : (old new : Peer) (now count front : ℕ) (shown : List ℕ) → shown ≡ take front old.queue.bytes → count ≤ front → count ≤ length shown → 0 < count → new.queue.bytes ≡ drop count old.queue.bytes
    → new.feed.bytes ++ unread new ≡ old.feed.bytes ++ unread old → new.leaving ≡ old.leaving → new.active ≡ now → Advances old.id now (kept_of old) (kept_of new) (Happens (Wrote old.id (take count shown)) ∷ [])
wrote_some old new now count front shown is within inside some queue_is held_is leaving_is active_is =
    let out : List ℕ = take count shown in
    let size : 0 < length out = omega (arith, length-take count shown, inside, some) in
    let parts : old.queue.bytes ≡ out ++ new.queue.bytes = taken_and_left count front old.queue.bytes shown is within ∙ ap (λ (l : List ℕ). out ++ l) (sym queue_is) in
    let same : keep (old.feed.bytes ++ unread old) new.queue.bytes old.leaving now ≡ kept_of new =
    ap (λ (h : List ℕ). keep h new.queue.bytes old.leaving now) (sym held_is)
    ∙ (ap (λ (l : Option Departure). keep (new.feed.bytes ++ unread new) new.queue.bytes l now) (sym leaving_is)
    ∙ ap (λ (a : ℕ). keep (new.feed.bytes ++ unread new) new.queue.bytes new.leaving a) (sym active_is)) in
    advances_one old.id now (kept_of old) (kept_of new) (Happens (Wrote old.id out)) refl (λ before stands.
    subst (λ (k : Kept). Stands old.id k now (before ++ Happens (Wrote old.id out) ∷ [])) same
    (stands_wrote old.id (kept_of old) now before out new.queue.bytes stands size parts))

pub wrote_none : (old : Peer) (now : ℕ) → Advances old.id now (kept_of old) (kept_of old) (Happens (Wrote old.id []) ∷ [])
wrote_none old now = advances_one old.id now (kept_of old) (kept_of old) (Happens (Wrote old.id [])) refl (λ before stands. stands_full old.id (kept_of old) now before stands)

pub unwritten : (old : Peer) (now : ℕ) → Advances old.id now (kept_of old) (kept_of old) (Happens (Unwritten old.id) ∷ [])
unwritten old now = advances_one old.id now (kept_of old) (kept_of old) (Happens (Unwritten old.id)) refl (λ before stands. stands_unwritten old.id (kept_of old) now before stands)

-- ---- one after the other

-- so far, what was written and what is kept
pub record SendsSo (now : ℕ) (old new : Peer) (steps : List Step) : Type 0 where
  pub goes : Advances old.id now (kept_of old) (kept_of new) steps
  pub quiet : IsQuiet old.id steps

pub sends_none : (now : ℕ) (old : Peer) → SendsSo now old old []
sends_none now old = record { goes = advances_none old.id now (kept_of old); quiet = quiet_none old.id }

pub sends_more : (now : ℕ) (start old new : Peer) (first : List Step) (step : Step) → old.id ≡ start.id → SendsSo now start old first → Advances old.id now (kept_of old) (kept_of new) (step ∷ []) → IsQuiet old.id (step ∷ []) → SendsSo now start new (first ++ step ∷ [])
sends_more now start old new first step same so goes quiet = record {
  goes = advances_both start.id now (kept_of start) (kept_of old) (kept_of new) first (step ∷ []) so.goes (subst (λ (i : ℕ). Advances i now (kept_of old) (kept_of new) (step ∷ [])) same goes);
  quiet = quiet_both start.id first (step ∷ []) so.quiet (subst (λ (i : ℕ). IsQuiet i (step ∷ [])) same quiet);
}

pub quiet_wrote : (id : ℕ) (bytes : List ℕ) → IsQuiet id (Happens (Wrote id bytes) ∷ [])
quiet_wrote id bytes = quiet_one id (Happens (Wrote id bytes)) refl refl

pub quiet_unwritten : (id : ℕ) → IsQuiet id (Happens (Unwritten id) ∷ [])
quiet_unwritten id = quiet_one id (Happens (Unwritten id)) refl refl

-- ---- it is over

departs_by : (idle now : ℕ) (old new : Peer) (why : Departure) (steps : List Step) → Advances old.id now (kept_of old) (kept_of new) steps
    → ((before : List Step) (stands : Stands old.id (kept_of new) now (before ++ steps)) → old.frames ≡ length (handled old.id before) → Explains idle old.id (before ++ steps) stands.held stands.queued why) → Departs idle now old new why steps
departs_by idle now old new why steps goes explains = record {
  own = goes.own;
  stands = λ before stands counted. let further = goes.stands before stands in (further.0, (further.1.held, further.1.queued, further.1.serves, explains before further.1 counted));
}

-- it could not be written
pub departs_unwritten : (idle now : ℕ) (old new : Peer) (steps : List Step) → Advances old.id now (kept_of old) (kept_of new) steps → new.id ≡ old.id → Sends new steps false → Departs idle now old new departures.Write steps
departs_unwritten idle now old new steps goes same sends =
    departs_by idle now old new departures.Write steps goes (λ before stands counted. happened_last (Unwritten old.id) before steps (subst (λ (i : ℕ). Happened (Unwritten i) steps) same sends))

-- nothing came or went for too long
pub departs_idle : (idle now : ℕ) (old new : Peer) (steps : List Step) → Advances old.id now (kept_of old) (kept_of new) steps → idle ≤ now - new.active → Departs idle now old new departures.Idle steps
departs_idle idle now old new steps goes long =
    departs_by idle now old new departures.Idle steps goes (λ before stands counted. record { long = subst (λ (t : Times). idle ≤ t.now - t.active) (sym stands.times) long })

-- nothing waits any more
nothing_waits : (bytes : List ℕ) → (length bytes == 0) ≡ true → bytes ≡ []
nothing_waits bytes is = nil_from_length bytes (eqb-true (length bytes) 0 is)

over_explains : (idle id now frames : ℕ) (kept : Kept) (steps : List Step) (leaving : Option Departure) (held queued : List ℕ) (why : Departure) → leaving ≡ Some why → IsCounted frames (Some why) → frames ≡ length (handled id steps) → is_over_for (length kept.queued) (Some why) ≡ true → IsLeft id steps kept held queued (Some why)
    → Explains idle id steps held queued why
over_explains idle id now frames kept steps leaving held queued departures.Closed is counts counted over left = (left.0, left.1, left.2 ∙ nothing_waits kept.queued over)
over_explains idle id now frames kept steps leaving held queued departures.Enough is counts counted over left = (omega (arith, counts, counted), left.1 ∙ nothing_waits kept.queued over)
over_explains idle id now frames kept steps leaving held queued (departures.Frame fault) is counts counted over left = (left.0, left.1 ∙ nothing_waits kept.queued over)
over_explains idle id now frames kept steps leaving held queued departures.Memory is counts counted over left = tt
over_explains idle id now frames kept steps leaving held queued departures.Write is counts counted over left = absurd left
over_explains idle id now frames kept steps leaving held queued departures.Idle is counts counted over left = absurd left
over_explains idle id now frames kept steps leaving held queued departures.Stopped is counts counted over left = absurd left
over_explains idle id now frames kept steps leaving held queued departures.Unsettled is counts counted over left = absurd left

writes_over : (idle now : ℕ) (old new : Peer) (leaving : Option Departure) (steps : List Step) → new.leaving ≡ leaving → IsCounted new.frames leaving → new.frames ≡ old.frames → handled old.id steps ≡ [] → Advances old.id now (kept_of old) (kept_of new) steps → is_over_for (length new.queue.bytes) leaving ≡ true → WritesOut idle now old new leaving steps
writes_over idle now old new None steps is counts same quiet goes over = absurd (false≢true over)
writes_over idle now old new (Some why) steps is counts same quiet goes over =
    departs_by idle now old new why steps goes (λ before stands counted.
    over_explains idle old.id now new.frames (kept_of new) (before ++ steps) new.leaving stands.held stands.queued why is counts
    (same ∙ (counted ∙ sym (ap length (none_gathered (handled_in old.id) before steps quiet)))) over
    (subst (IsLeft old.id (before ++ steps) (kept_of new) stands.held stands.queued) is stands.is_left))

pub writes_leaving : (idle now : ℕ) (old new : Peer) (steps : List Step) → Advances old.id now (kept_of old) (kept_of new) steps → IsCounted new.frames new.leaving → new.frames ≡ old.frames → IsQuiet old.id steps → is_over new ≡ true → WritesOut idle now old new new.leaving steps
writes_leaving idle now old new steps goes counts same quiet over = writes_over idle now old new new.leaving steps refl counts same quiet.nothing_handled goes over
