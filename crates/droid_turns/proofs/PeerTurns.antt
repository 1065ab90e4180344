-- What is kept of a connection through a turn.
use Rattle.std.proofs.Common.{◌≡◌, ℕ, zero, suc, ◌+◌, ◌<◌, ◌≤◌, Bool, true, false, eqb, leb, List, [], ◌∷◌, ◌++◌, length, Option, Some, None, IsSome, refl, sym, ap, subst, ◌∙◌, append_assoc, arith, inl, inr, ◌⊎◌}
use Rattle.std.specs.List.{AllByRecursion}
use Rattle.std.proofs.lemmas.Bool.{false≢true, leb-false}
use Rattle.std.proofs.lemmas.List.{append-nil, length-append}
use Rattle.droid_frame.specs.Streams.{BeginsNoFrame}
use Rattle.droid_turns.specs.Departures.{Serves, frames_bound}
use Rattle.droid_turns.specs.Events.{Ended, Read, Waited, Wrote}
use Rattle.droid_turns.specs.Halls.{Heard, IsCalm, Looked, Rested, Served, SinceBytes, SinceDry, SinceFrames, SinceFull, SinceLeaving, Unheard}
use Rattle.droid_turns.specs.Peers.{Advances, ByBytes, ByDrought, ByFrames, ByLeaving, ByQueue, Hears, InTurn, IsCounted, IsLeft, IsQuiet, Kept, Looks, RanDry, Rests, Stands, Stays, Turns, has_bytes, is_hungry, is_over_for, kept_of, unread}
use Rattle.droid_turns.specs.Turns.{HadShare, IsLeaving, IsSettled, WasFull}
use Rattle.droid_turns.specs.Steps.{Happened, Happens, Step, bytes_read, came, handled, handled_in, turn_of}
use Rattle.droid_turns.specs.declared.departure.Departure.{Departure}
use Rattle.droid_turns.specs.declared.departure.Departure.TheVariants as departures
use Rattle.droid_turns.specs.declared.peer.Peer.{Peer}
use Rattle.droid_turns.proofs.OwnSteps.{Elsewhere, calm, came_elsewhere, gathered, handled_elsewhere, none_gathered, turn_more, turn_waited}
use Rattle.droid_turns.proofs.PeerSteps.{happened_last, happened_then, serves_elsewhere, stands_elsewhere, stands_waited, stops_then}

-- ---- steps of others

full_more : (id : ℕ) (steps turn more : List Step) → WasFull id steps turn → WasFull id (steps ++ more) (turn ++ more)
full_more id steps turn more full = record {
  early = full.early;
  first = full.first;
  late = full.late ++ more;
  parts = ap (λ (l : List Step). l ++ more) full.parts ∙ append_assoc full.early full.late more;
  within = ap (λ (l : List Step). l ++ more) full.within ∙ append_assoc full.first full.late more;
  held = full.held;
  queued = full.queued;
  serves = full.serves;
  full = full.full;
}

quiet_on : (id : ℕ) (turn more : List Step) → AllByRecursion (Elsewhere id) more → IsQuiet id turn → IsQuiet id (turn ++ more)
quiet_on id turn more all quiet = record {
  nothing_came = none_gathered (bytes_read id) turn more (came_elsewhere id more all) ∙ quiet.nothing_came;
  nothing_handled = none_gathered (handled_in id) turn more (handled_elsewhere id more all) ∙ quiet.nothing_handled;
}

in_turn_on : (id read count : ℕ) (turn more : List Step) → came id more ≡ [] → handled id more ≡ [] → InTurn id read count turn → InTurn id read count (turn ++ more)
in_turn_on id read count turn more no_bytes no_frame in_turn = record {
  frames = ap length (none_gathered (handled_in id) turn more no_frame) ∙ in_turn.frames;
  bytes = ap length (none_gathered (bytes_read id) turn more no_bytes) ∙ in_turn.bytes;
}

-- of others nothing is handled
pub counted_on : (frames id : ℕ) (steps more : List Step) → handled id more ≡ [] → frames ≡ length (handled id steps) → frames ≡ length (handled id (steps ++ more))
counted_on frames id steps more none counted = counted ∙ sym (ap length (none_gathered (handled_in id) steps more none))

pub unheard_elsewhere : (now : ℕ) (steps more : List Step) (peer : Peer) → AllByRecursion (Elsewhere peer.id) more → AllByRecursion IsCalm more → Unheard now steps peer → Unheard now (steps ++ more) peer
unheard_elsewhere now steps more peer all still unheard = record {
  stands = stands_elsewhere peer.id (kept_of peer) now steps more all unheard.stands;
  quiet = subst (IsQuiet peer.id) (sym (turn_more steps more still)) (quiet_on peer.id (turn_of steps) more all unheard.quiet);
  counted = counted_on peer.frames peer.id steps more (handled_elsewhere peer.id more all) unheard.counted;
}

rested_more : (share : ℕ) (peer : Peer) (count : ℕ) (steps more : List Step) → AllByRecursion IsCalm more → Rested share peer count steps → Rested share peer count (steps ++ more)
rested_more share peer count steps more still (SinceLeaving is) = SinceLeaving is
rested_more share peer count steps more still (SinceDry is) = SinceDry is
rested_more share peer count steps more still (SinceFrames is) = SinceFrames is
rested_more share peer count steps more still (SinceBytes is) = SinceBytes is
rested_more share peer count steps more still (SinceFull is) = SinceFull (subst (WasFull peer.id (steps ++ more)) (sym (turn_more steps more still)) (full_more peer.id steps (turn_of steps) more is))

dry_more : (peer : Peer) (turn more : List Step) → RanDry peer turn → RanDry peer (turn ++ more)
dry_more peer turn more dry = record { nothing = happened_then (Read peer.id []) turn more dry.nothing; no_frame = dry.no_frame }

pub heard_elsewhere : (share now : ℕ) (steps more : List Step) (peer : Peer) → AllByRecursion (Elsewhere peer.id) more → AllByRecursion IsCalm more → Heard share now steps peer → Heard share now (steps ++ more) peer
heard_elsewhere share now steps more peer all still heard =
    let turn = turn_more steps more still in
    record {
      stands = stands_elsewhere peer.id (kept_of peer) now steps more all heard.stands;
      count = heard.count;
      few = heard.few;
      in_turn = subst (InTurn peer.id peer.read heard.count) (sym turn) (in_turn_on peer.id peer.read heard.count (turn_of steps) more (came_elsewhere peer.id more all) (handled_elsewhere peer.id more all) heard.in_turn);
      dry = λ is. subst (RanDry peer) (sym turn) (dry_more peer (turn_of steps) more (heard.dry is));
      rested = rested_more share peer heard.count steps more still heard.rested;
      counted = counted_on peer.frames peer.id steps more (handled_elsewhere peer.id more all) heard.counted;
    }

leaving_more : (id : ℕ) (steps more : List Step) (held : List ℕ) → IsLeaving id steps held → IsLeaving id (steps ++ more) held
leaving_more id steps more held (inl ended) = inl (happened_then (Ended id) steps more ended.0, ended.1)
leaving_more id steps more held (inr (inl stops)) = inr (inl (stops.0, stops_then id steps more held stops.0 stops.1))
leaving_more id steps more held (inr (inr enough)) = inr (inr (omega (arith, enough, ap length (gathered (handled_in id) steps more), length-append (handled id steps) (handled id more))))

share_more : (share id : ℕ) (steps turn more : List Step) → came id more ≡ [] → handled id more ≡ [] → HadShare share id steps turn → HadShare share id (steps ++ more) (turn ++ more)
share_more share id steps turn more no_bytes no_frame (inl frames) = inl (ap length (none_gathered (handled_in id) turn more no_frame) ∙ frames)
share_more share id steps turn more no_bytes no_frame (inr (inl bytes)) = inr (inl (omega (arith, bytes, ap length (none_gathered (bytes_read id) turn more no_bytes))))
share_more share id steps turn more no_bytes no_frame (inr (inr full)) = inr (inr (full_more id steps turn more full))

settled_more : (goes_on : Type 0) (share id : ℕ) (steps turn more : List Step) → AllByRecursion (Elsewhere id) more → IsSettled goes_on share id steps turn → IsSettled goes_on share id (steps ++ more) (turn ++ more)
settled_more goes_on share id steps turn more all settled = record {
  held = settled.held;
  queued = settled.queued;
  serves = serves_elsewhere id steps more settled.held settled.queued all settled.serves;
  written = elim settled.written [ inl none ↦ inl none | inr took ↦ inr (happened_then (Wrote id []) turn more took) ];
  read = elim settled.read [
    | inl dry ↦ inl (record { nothing = happened_then (Read id []) turn more dry.nothing; no_frame = dry.no_frame })
    | inr other ↦ elim other [
      | inl full ↦ inr (inl full)
      | inr rest ↦ elim rest [
        | inl leaving ↦ inr (inr (inl (leaving_more id steps more settled.held leaving.0, leaving.1)))
        | inr had ↦ inr (inr (inr (had.0, share_more share id steps turn more (came_elsewhere id more all) (handled_elsewhere id more all) had.1)))
      ]
    ]
  ];
}

-- the same, by another reason to go on
pub settled_as : (goes_on also : Type 0) (share id : ℕ) (steps turn : List Step) → (goes_on → also) → IsSettled goes_on share id steps turn → IsSettled also share id steps turn
settled_as goes_on also share id steps turn f settled = record {
  held = settled.held;
  queued = settled.queued;
  serves = settled.serves;
  written = settled.written;
  read = elim settled.read [
    | inl dry ↦ inl dry
    | inr other ↦ elim other [ inl full ↦ inr (inl full) | inr rest ↦ elim rest [ inl leaving ↦ inr (inr (inl leaving)) | inr had ↦ inr (inr (inr (f had.0, had.1))) ] ]
  ];
}

pub served_elsewhere : (share idle now : ℕ) (steps more : List Step) (peer : Peer) → AllByRecursion (Elsewhere peer.id) more → AllByRecursion IsCalm more → Served share idle now steps peer → Served share idle now (steps ++ more) peer
served_elsewhere share idle now steps more peer all still served =
    let turn = turn_more steps more still in
    record {
      stands = stands_elsewhere peer.id (kept_of peer) now steps more all served.stands;
      active = served.active;
      settled = subst (IsSettled (is_hungry peer ≡ true) share peer.id (steps ++ more)) (sym turn) (settled_more (is_hungry peer ≡ true) share peer.id steps (turn_of steps) more all served.settled);
      counted = counted_on peer.frames peer.id steps more (handled_elsewhere peer.id more all) served.counted;
    }

-- ---- a turn begins

pub unheard_waited : (share idle now limit : ℕ) (steps : List Step) (peer : Peer) → Served share idle now steps peer → Unheard now (steps ++ Happens (Waited limit) ∷ []) peer
unheard_waited share idle now limit steps peer served = record {
  stands = stands_waited peer.id (kept_of peer) now limit steps served.stands;
  quiet = subst (IsQuiet peer.id) (sym (turn_waited steps limit)) (record { nothing_came = refl; nothing_handled = refl });
  counted = counted_on peer.frames peer.id steps (Happens (Waited limit) ∷ []) refl served.counted;
}

-- ---- why it rests

left_at_least : (id : ℕ) (steps : List Step) (kept : Kept) (held queued : List ℕ) (leaving : Option Departure) → IsLeft id steps kept held queued leaving → length kept.queued ≤ length queued
left_at_least id steps kept held queued None left = omega (arith, ap length left.1)
left_at_least id steps kept held queued (Some departures.Closed) left = omega (arith, ap length left.2)
left_at_least id steps kept held queued (Some departures.Enough) left = omega (arith, ap length left.1)
left_at_least id steps kept held queued (Some (departures.Frame fault)) left = omega (arith, ap length left.1)
left_at_least id steps kept held queued (Some departures.Memory) left = omega (arith, ap length left.1, length-append kept.queued left.0)
left_at_least id steps kept held queued (Some departures.Write) left = absurd left
left_at_least id steps kept held queued (Some departures.Idle) left = absurd left
left_at_least id steps kept held queued (Some departures.Stopped) left = absurd left
left_at_least id steps kept held queued (Some departures.Unsettled) left = absurd left

rested_by : (share : ℕ) (peer : Peer) (now count : ℕ) (steps : List Step) → Stands peer.id (kept_of peer) now steps → Rests share peer count → Rested share peer count steps
rested_by share peer now count steps stands (ByLeaving is) = SinceLeaving is
rested_by share peer now count steps stands (ByDrought is) = SinceDry is
rested_by share peer now count steps stands (ByFrames is) = SinceFrames is
rested_by share peer now count steps stands (ByBytes is) = SinceBytes is
rested_by share peer now count steps stands (ByQueue is) = SinceFull (record {
  early = steps;
  first = turn_of steps;
  late = [];
  parts = sym (append-nil steps);
  within = sym (append-nil (turn_of steps));
  held = stands.held;
  queued = stands.queued;
  serves = stands.serves;
  full = omega (arith, is, left_at_least peer.id steps (kept_of peer) stands.held stands.queued peer.leaving stands.is_left);
})

-- ---- it is looked at

stands_new : (now : ℕ) (old new : Peer) (steps more : List Step) → new.id ≡ old.id → Advances old.id now (kept_of old) (kept_of new) more → Stands old.id (kept_of old) now steps → Stands new.id (kept_of new) now (steps ++ more)
stands_new now old new steps more same goes stands = subst (λ (i : ℕ). Stands i (kept_of new) now (steps ++ more)) (sym same) (goes.stands steps stands).1

in_turn_new : (old new : Peer) (read count : ℕ) (steps more : List Step) → new.id ≡ old.id → AllByRecursion IsCalm more → Turns old.id read new.read count more → InTurn old.id read 0 (turn_of steps) → InTurn new.id new.read count (turn_of (steps ++ more))
in_turn_new old new read count steps more same still turns fresh =
    let so_far : InTurn old.id new.read (0 + count) (turn_of steps ++ more) = turns.goes 0 (turn_of steps) fresh in
    let sum : 0 + count ≡ count = omega arith in
    subst (λ (i : ℕ). InTurn i new.read count (turn_of (steps ++ more))) (sym same)
    (subst (λ (n : ℕ). InTurn old.id new.read n (turn_of (steps ++ more))) sum (subst (InTurn old.id new.read (0 + count)) (sym (turn_more steps more still)) so_far))

counted_new : (old new : Peer) (read count : ℕ) (steps more : List Step) → new.id ≡ old.id → new.frames ≡ old.frames + count → Turns old.id read new.read count more → old.frames ≡ length (handled old.id steps) → new.frames ≡ length (handled new.id (steps ++ more))
counted_new old new read count steps more same sum turns counted =
    subst (λ (i : ℕ). new.frames ≡ length (handled i (steps ++ more))) (sym same)
    (omega (arith, sum, counted, turns.handles, ap length (gathered (handled_in old.id) steps more), length-append (handled old.id steps) (handled old.id more)))

pub looked_by : (now : ℕ) (old new : Peer) (steps more : List Step) → Unheard now steps old → new.id ≡ old.id → Looks now old new more → Looked now (steps ++ more) new
looked_by now old new steps more unheard same looks =
    let still = calm old.id more looks.goes.own in
    let fresh : InTurn old.id 0 0 (turn_of steps) = record { frames = ap length unheard.quiet.nothing_handled; bytes = ap length unheard.quiet.nothing_came } in
    record {
      stands = stands_new now old new steps more same looks.goes unheard.stands;
      in_turn = in_turn_new old new 0 0 steps more same still looks.turns fresh;
      few = looks.few;
      dry = λ is. subst (RanDry new) (sym (turn_more steps more still)) (record { nothing = happened_last (Read new.id []) (turn_of steps) more (looks.dry is).nothing; no_frame = (looks.dry is).no_frame });
      rests = looks.rests;
      counted = counted_new old new 0 0 steps more same (omega (arith, looks.counted)) looks.turns unheard.counted;
    }

pub looked_elsewhere : (now : ℕ) (steps more : List Step) (peer : Peer) → AllByRecursion (Elsewhere peer.id) more → AllByRecursion IsCalm more → Looked now steps peer → Looked now (steps ++ more) peer
looked_elsewhere now steps more peer all still looked =
    let turn = turn_more steps more still in
    record {
      stands = stands_elsewhere peer.id (kept_of peer) now steps more all looked.stands;
      in_turn = subst (InTurn peer.id peer.read 0) (sym turn) (in_turn_on peer.id peer.read 0 (turn_of steps) more (came_elsewhere peer.id more all) (handled_elsewhere peer.id more all) looked.in_turn);
      few = looked.few;
      dry = λ is. subst (RanDry peer) (sym turn) (dry_more peer (turn_of steps) more (looked.dry is));
      rests = looked.rests;
      counted = counted_on peer.frames peer.id steps more (handled_elsewhere peer.id more all) looked.counted;
    }

-- ---- it is heard

pub heard_by : (share now : ℕ) (old new : Peer) (steps more : List Step) → Looked now steps old → new.id ≡ old.id → Hears now share old new more → Heard share now (steps ++ more) new
heard_by share now old new steps more looked same hears =
    let still = calm old.id more hears.goes.own in
    let stands : Stands new.id (kept_of new) now (steps ++ more) = stands_new now old new steps more same hears.goes looked.stands in
    record {
      stands = stands;
      count = hears.count;
      few = hears.few;
      in_turn = in_turn_new old new old.read hears.count steps more same still hears.turns looked.in_turn;
      dry = λ is. subst (RanDry new) (sym (turn_more steps more still)) (hears.dry (turn_of steps) looked.dry is);
      rested = rested_by share new now hears.count (steps ++ more) stands (hears.rests (λ other none. looked.rests none share other));
      counted = counted_new old new old.read hears.count steps more same hears.counted hears.turns looked.counted;
    }

-- ---- it is written to

-- what was written, by what is left
written_by : (id : ℕ) (steps turn : List Step) (kept : Kept) (queued : List ℕ) → queued ≡ kept.queued → (kept.queued ≡ []) ⊎ Happened (Wrote id []) turn → (queued ≡ []) ⊎ Happened (Wrote id []) turn
written_by id steps turn kept queued is (inl none) = inl (is ∙ none)
written_by id steps turn kept queued is (inr took) = inr took

some_waits : (waiting : ℕ) → eqb waiting 0 ≡ false → 0 < waiting
some_waits zero over = absurd (false≢true (sym over))
some_waits (suc waiting) over = omega arith

-- it leaves, and something waits
settled_leaving : (goes_on : Type 0) (share id waiting : ℕ) (steps turn : List Step) (kept : Kept) (held queued : List ℕ) (why : Departure) → waiting ≡ length kept.queued → (why ≡ departures.Enough → frames_bound ≤ length (handled id steps)) → Serves id steps held queued → is_over_for waiting (Some why) ≡ false
    → (kept.queued ≡ []) ⊎ Happened (Wrote id []) turn → IsLeft id steps kept held queued (Some why) → IsSettled goes_on share id steps turn
settled_leaving goes_on share id waiting steps turn kept held queued departures.Closed is enough serves over written left =
    record { held = held; queued = queued; serves = serves; written = written_by id steps turn kept queued left.2 written; read = inr (inr (inl (inl (left.0, left.1), omega (arith, some_waits waiting over, is, ap length left.2)))) }
settled_leaving goes_on share id waiting steps turn kept held queued (departures.Frame fault) is enough serves over written left =
    record { held = held; queued = queued; serves = serves; written = written_by id steps turn kept queued left.1 written; read = inr (inr (inl (inr (inl (fault, left.0)), omega (arith, some_waits waiting over, is, ap length left.1)))) }
settled_leaving goes_on share id waiting steps turn kept held queued departures.Enough is enough serves over written left =
    record { held = held; queued = queued; serves = serves; written = written_by id steps turn kept queued left.1 written; read = inr (inr (inl (inr (inr (enough refl)), omega (arith, some_waits waiting over, is, ap length left.1)))) }
settled_leaving goes_on share id waiting steps turn kept held queued departures.Memory is enough serves over written left = absurd (false≢true (sym over))
settled_leaving goes_on share id waiting steps turn kept held queued departures.Write is enough serves over written left = absurd left
settled_leaving goes_on share id waiting steps turn kept held queued departures.Idle is enough serves over written left = absurd left
settled_leaving goes_on share id waiting steps turn kept held queued departures.Stopped is enough serves over written left = absurd left
settled_leaving goes_on share id waiting steps turn kept held queued departures.Unsettled is enough serves over written left = absurd left

hungry_by : (peer : Peer) → peer.leaving ≡ None → peer.drained ≡ false → leb (length peer.queue.bytes) 8388608 ≡ true → is_hungry peer ≡ true
hungry_by peer stays dry fits = rw (stays, dry, fits) refl

some_none : (leaving : Option Departure) → leaving ≡ None → IsSome leaving → ⊥
some_none None is some = false≢true some
some_none (Some why) is some = absurd cc

share_by : (share : ℕ) (peer : Peer) (count : ℕ) (steps : List Step) → peer.leaving ≡ None → peer.drained ≡ false → InTurn peer.id peer.read count (turn_of steps) → Rested share peer count steps → HadShare share peer.id steps (turn_of steps)
share_by share peer count steps stays dry in_turn (SinceLeaving is) = absurd (some_none peer.leaving stays is)
share_by share peer count steps stays dry in_turn (SinceDry is) = absurd cc
share_by share peer count steps stays dry in_turn (SinceFrames is) = inl (in_turn.frames ∙ is)
share_by share peer count steps stays dry in_turn (SinceBytes is) = inr (inl (omega (arith, is, in_turn.bytes)))
share_by share peer count steps stays dry in_turn (SinceFull is) = inr (inr is)

-- it stays: it is settled, or had its share
settled_staying : (share : ℕ) (peer : Peer) (count : ℕ) (steps : List Step) (held queued : List ℕ) (dry fits : Bool) → Serves peer.id steps held queued → peer.leaving ≡ None → peer.drained ≡ dry → leb (length peer.queue.bytes) 8388608 ≡ fits
    → (peer.queue.bytes ≡ []) ⊎ Happened (Wrote peer.id []) (turn_of steps) → held ≡ peer.feed.bytes ++ unread peer → queued ≡ peer.queue.bytes
    → InTurn peer.id peer.read count (turn_of steps) → (peer.drained ≡ true → RanDry peer (turn_of steps)) → Rested share peer count steps
    → IsSettled (is_hungry peer ≡ true) share peer.id steps (turn_of steps)
settled_staying share peer count steps held queued true fits serves stays dry_is fits_is written held_is queued_is in_turn dry rested = record {
  held = held;
  queued = queued;
  serves = serves;
  written = written_by peer.id steps (turn_of steps) (kept_of peer) queued queued_is written;
  read = inl (record { nothing = (dry dry_is).nothing; no_frame = subst BeginsNoFrame (sym held_is) (dry dry_is).no_frame });
}
settled_staying share peer count steps held queued false false serves stays dry_is fits_is written held_is queued_is in_turn dry rested = record {
  held = held;
  queued = queued;
  serves = serves;
  written = written_by peer.id steps (turn_of steps) (kept_of peer) queued queued_is written;
  read = inr (inl (omega (arith, leb-false (length peer.queue.bytes) 8388608 fits_is, ap length queued_is)));
}
settled_staying share peer count steps held queued false true serves stays dry_is fits_is written held_is queued_is in_turn dry rested = record {
  held = held;
  queued = queued;
  serves = serves;
  written = written_by peer.id steps (turn_of steps) (kept_of peer) queued queued_is written;
  read = inr (inr (inr (hungry_by peer stays dry_is fits_is, share_by share peer count steps stays dry_is in_turn rested)));
}

settled_by : (share : ℕ) (peer : Peer) (now count : ℕ) (steps : List Step) (leaving : Option Departure) → peer.leaving ≡ leaving → (stands : Stands peer.id (kept_of peer) now steps) → IsLeft peer.id steps (kept_of peer) stands.held stands.queued leaving
    → IsCounted peer.frames leaving → peer.frames ≡ length (handled peer.id steps) → is_over_for (length peer.queue.bytes) leaving ≡ false → (peer.queue.bytes ≡ []) ⊎ Happened (Wrote peer.id []) (turn_of steps) → InTurn peer.id peer.read count (turn_of steps) → (peer.drained ≡ true → RanDry peer (turn_of steps)) → Rested share peer count steps
    → IsSettled (is_hungry peer ≡ true) share peer.id steps (turn_of steps)
settled_by share peer now count steps None is stands left counts counted over written in_turn dry rested =
    settled_staying share peer count steps stands.held stands.queued peer.drained (leb (length peer.queue.bytes) 8388608) stands.serves is refl refl written left.0 left.1 in_turn dry rested
settled_by share peer now count steps (Some why) is stands left counts counted over written in_turn dry rested =
    settled_leaving (is_hungry peer ≡ true) share peer.id (length peer.queue.bytes) steps (turn_of steps) (kept_of peer) stands.held stands.queued why refl
    (λ e. let all : peer.frames ≡ frames_bound = subst (λ (w : Departure). IsCounted peer.frames (Some w)) e counts in omega (arith, all, counted)) stands.serves over written left

-- what writing leaves as it was
pub record IsAsBefore (old new : Peer) : Type 0 where
  pub id : new.id ≡ old.id
  pub drained : new.drained ≡ old.drained
  pub leaving : new.leaving ≡ old.leaving
  pub read : new.read ≡ old.read
  pub held : new.feed.bytes ++ unread new ≡ old.feed.bytes ++ unread old
  pub frames : new.frames ≡ old.frames

rested_as : (share : ℕ) (old new : Peer) (count : ℕ) (steps : List Step) → IsAsBefore old new → Rested share old count steps → Rested share new count steps
rested_as share old new count steps same (SinceLeaving is) = SinceLeaving (subst (λ (l : Option Departure). IsSome l) (sym same.leaving) is)
rested_as share old new count steps same (SinceDry is) = SinceDry (same.drained ∙ is)
rested_as share old new count steps same (SinceFrames is) = SinceFrames is
rested_as share old new count steps same (SinceBytes is) = SinceBytes (omega (arith, is, same.read))
rested_as share old new count steps same (SinceFull is) = SinceFull (subst (λ (i : ℕ). WasFull i steps (turn_of steps)) (sym same.id) is)

pub served_by : (share idle now : ℕ) (old new : Peer) (steps more : List Step) → Heard share now steps old → IsAsBefore old new → Stays idle now old new more → IsQuiet old.id more → Served share idle now (steps ++ more) new
served_by share idle now old new steps more heard same stays quiet =
    let still = calm old.id more stays.goes.own in
    let turn = turn_more steps more still in
    let stands : Stands new.id (kept_of new) now (steps ++ more) = subst (λ (i : ℕ). Stands i (kept_of new) now (steps ++ more)) (sym same.id) (stays.goes.stands steps heard.stands).1 in
    let in_turn : InTurn new.id new.read heard.count (turn_of (steps ++ more)) =
    subst (λ (i : ℕ). InTurn i new.read heard.count (turn_of (steps ++ more))) (sym same.id) (subst (λ (r : ℕ). InTurn old.id r heard.count (turn_of (steps ++ more))) (sym same.read)
    (subst (InTurn old.id old.read heard.count) (sym turn) (in_turn_on old.id old.read heard.count (turn_of steps) more quiet.nothing_came quiet.nothing_handled heard.in_turn))) in
    let counted : new.frames ≡ length (handled new.id (steps ++ more)) =
    same.frames ∙ subst (λ (i : ℕ). old.frames ≡ length (handled i (steps ++ more))) (sym same.id) (counted_on old.frames old.id steps more quiet.nothing_handled heard.counted) in
    let rested : Rested share new heard.count (steps ++ more) = rested_as share old new heard.count (steps ++ more) same (rested_more share old heard.count steps more still heard.rested) in
    let written : (new.queue.bytes ≡ []) ⊎ Happened (Wrote new.id []) (turn_of (steps ++ more)) =
    elim stays.sends [ inl none ↦ inl none | inr took ↦ inr (subst (Happened (Wrote new.id [])) (sym turn) (happened_last (Wrote new.id []) (turn_of steps) more took)) ] in
    record {
      stands = stands;
      active = stays.active;
      settled = settled_by share new now heard.count (steps ++ more) new.leaving refl stands stands.is_left stays.counts counted stays.stays written in_turn
          (λ is. let dry = heard.dry (sym same.drained ∙ is) in
          record { nothing = subst (Happened (Read new.id [])) (sym turn) (happened_then (Read new.id []) (turn_of steps) more (subst (λ (i : ℕ). Happened (Read i []) (turn_of steps)) (sym same.id) dry.nothing)); no_frame = subst BeginsNoFrame (sym same.held) dry.no_frame })
          rested;
      counted = counted;
    }
