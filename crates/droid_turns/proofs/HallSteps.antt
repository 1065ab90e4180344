-- All open connections, after one of them had its part of a turn, after one came, and after one left.
use Rattle.std.proofs.Common.{◌≡◌, ◌≢◌, ℕ, ◌+◌, ◌-◌, ◌<◌, ◌≤◌, Bool, true, false, cond, count_by, get_or, take, List, [], ◌∷◌, ◌++◌, length, map, Option, Some, None, fold, refl, sym, ap, subst, ◌∙◌, append_assoc, arith, inl, inr, ◌⊎◌}
use Rattle.std.specs.List.{AllByRecursion}
use Rattle.std.proofs.lemmas.List.{append-nil, length-append, nil_from_length, take_more}
use Rattle.std.proofs.lemmas.List.Sums.{fold-append, sum_by-append}
use Rattle.std.proofs.lemmas.Bool.{cases_lt, ne_eqb}
use Rattle.droid_frame.specs.Replies.{HasReplySpelling}
use Rattle.droid_frame.specs.Streams.{IsReadable}
use Rattle.droid_frame.specs.declared.frame.Frame.{Frame}
use Rattle.droid_frame.specs.declared.reply.Reply.{Reply}
use Rattle.std.proofs.lemmas.Bool.Decides.{eqb_tells}
use Rattle.droid_turns.specs.Departures.{Explains, IsServed, IsStopped, Serves, frames_bound, is_wait}
use Rattle.droid_turns.specs.Events.{Event, Opened, NoneOpened, Read, Ended, Unread, Wrote, Unwritten, Closed, Timed, Waited, Unwaited}
use Rattle.droid_turns.specs.Halls.{Admits, Begins, ClosesSome, EndsFor, GivesUp, Grants, Heard, HearsEach, Holds, IsAtRest, IsCalm, IsClosing, IsPatient, IsWithin, IsWriting, Keeps, LeadsInTurn, LeadsOn, Looked, NoPeer, NoneHandled, Served, Stops, TakesTurn, Unheard, fresh, had_in, having, one_at, times_among, times_in}
use Rattle.droid_turns.specs.Peers.{Departs, Hears, IsHearing, IsNew, IsQuiet, IsWhole, Kept, Looks, Stands, Stays, is_hungry, keep, kept_of}
use Rattle.droid_turns.specs.Turns.{AreAll, EndsBy, HasAdmitted, HasBegun, HasEnough, HasLeft, IsAll, IsFair, IsOpenAfter, IsReady, IsSettled, IsShare, ServesAll, SettledOnce, SettlesFirst, WereTaken, share_of}
use Rattle.droid_turns.specs.Steps.{AllSettled, AreOfOthers, AtEach, FailedToSettle, Goes, Happened, Handles, Happens, IsOf, IsOfOther, IsTraffic, Moves, Settles, Step, Times, bytes_read, bytes_written, came, clock_behind, clock_of, handled, handled_in, numbers, opened, opened_by, spelled_frames, spelled_replies, times_of, turn_behind, turn_of, went}
use Rattle.droid_turns.specs.declared.departure.Departure.{Departure}
use Rattle.droid_turns.specs.declared.departure.Departure.TheVariants as departures
use Rattle.droid_turns.specs.declared.hall.Hall.{Hall}
use Rattle.droid_turns.specs.declared.peer.Peer.{Peer}
use Rattle.droid_turns.specs.declared.rules.Rules.{Rules}
use Rattle.droid_turns.specs.declared.service_end.Served.{Served as Ending}
use Rattle.droid_turns.specs.declared.service_end.Served.TheVariants as ways
use Rattle.droid_turns.proofs.OwnSteps.{Elsewhere, all_elsewhere, at_once, calm, clock_more, clock_timed, closed_elsewhere, gathered, handled_elsewhere, none_elsewhere, none_gathered, none_more, opened_elsewhere, settling_elsewhere, times_now, times_one, times_opened, turn_more, turn_waited}
use Rattle.droid_turns.proofs.AllConnections.{Leaves, cases_zero, keeps_as, keeps_closed, keeps_more, keeps_none, keeps_opened, keeps_settled, keeps_start, keeps_timed, keeps_traffic, keeps_unwaited, keeps_waited, lt_self, numbers_size, one_here, one_other}
use Rattle.droid_turns.proofs.Moments.{all_as, all_both, all_first, all_last, always_end, goes_both, goes_moving, goes_settling, moves_both, moves_event}
use Rattle.droid_turns.proofs.PeerSteps.{happened_here, happened_then, stands_timed}
use Rattle.droid_turns.proofs.ServesMore.{serves_as}
use Rattle.droid_turns.proofs.Shares.{Dealt, DealtBy, dealt_first, dealt_on, dealt_still, had_there, share_dealt}
use Rattle.droid_turns.proofs.Settling.{IsOnce, IsOrdered, failed_there, once_turn, order_failed, ordered_none, ordered_on, ordered_turn, settled_last, settled_then, writing}
use Rattle.droid_turns.proofs.PeerTurns.{IsAsBefore, counted_on, heard_by, heard_elsewhere, looked_by, looked_elsewhere, served_by, served_elsewhere, settled_as, unheard_elsewhere, unheard_waited}

-- ---- which are open

times_push : (id : ℕ) (peers : List Peer) (peer : Peer) → times_in id (peers ++ peer ∷ []) ≡ times_in id peers + one_at peer.id id
times_push id [] peer = omega arith
times_push id (one ∷ peers) peer = omega (arith, times_push id peers peer)

size_push : (peers : List Peer) (peer : Peer) → length (peers ++ peer ∷ []) ≡ length peers + 1
size_push peers peer = omega (arith, length-append peers (peer ∷ []))

not_one : (who id : ℕ) (n : ℕ) → one_at who id + n ≡ 0 → who ≡ id → ⊥
not_one who id n none is = let here : one_at who id ≡ 1 = subst (λ (i : ℕ). one_at who i ≡ 1) is (one_here who) in absurd (omega (arith, none, here))

-- of those that are another connection
others_stay : (P Q : Peer → Type 0) (who : ℕ) (peers : List Peer) → times_in who peers ≡ 0 → ((peer : Peer) → (who ≡ peer.id → ⊥) → P peer → Q peer) → AllByRecursion P peers → AllByRecursion Q peers
others_stay P Q who [] none stay all = tt
others_stay P Q who (peer ∷ peers) none stay all =
    (stay peer (λ is. not_one peer.id who (times_in who peers) none (sym is)) all.0, others_stay P Q who peers (omega (arith, none)) stay all.1)

-- one that is among them
pub record Found (P : Peer → Type 0) (id : ℕ) : Type 0 where
  peer : Peer
  its : peer.id ≡ id
  holds : P peer

find_one : (P : Peer → Type 0) (id : ℕ) (peers : List Peer) → 0 < times_in id peers → AllByRecursion P peers → Found P id
find_one P id [] some all = absurd (omega (arith, some))
find_one P id (peer ∷ peers) some all =
    elim (eqb_tells peer.id id) [
      | inl is ↦ record { peer = peer; its = is.1; holds = all.0 }
      | inr is ↦ find_one P id peers (omega (arith, some, one_other peer.id id is.1)) all.1
    ]

-- ---- one moves over

moved_over : (id : ℕ) (rest served : List Peer) (old new : Peer) → new.id ≡ old.id → times_among (rest ++ old ∷ []) served id ≡ times_among rest (served ++ new ∷ []) id
moved_over id rest served old new same = omega (arith, times_push id rest old, times_push id served new, ap (λ (i : ℕ). one_at i id) same)

sized_over : (rest served : List Peer) (old new : Peer) → length (rest ++ old ∷ []) + length served ≡ length rest + length (served ++ new ∷ [])
sized_over rest served old new = omega (arith, size_push rest old, size_push served new)

alone_in : (rules : Rules) (share count places : ℕ) (rest served : List Peer) (old : Peer) (steps : List Step) → Keeps rules share count (times_among (rest ++ old ∷ []) served) places steps → (times_in old.id rest ≡ 0) × (times_in old.id served ≡ 0)
alone_in rules share count places rest served old steps keeps =
    let once : times_among (rest ++ old ∷ []) served old.id ≤ 1 = keeps.apart old.id in
    let pushed = times_push old.id rest old in
    let here = one_here old.id in
    (omega (arith, once, pushed, here), omega (arith, once, pushed, here))

-- ---- one is looked at

pub look_one : (rules : Rules) (now count : ℕ) (rest served : List Peer) (old new : Peer) (steps more : List Step) → Holds rules (Unheard now) (Looked now) now 1 count (rest ++ old ∷ []) served steps
    → new.id ≡ old.id → Looks now old new more → Holds rules (Unheard now) (Looked now) now 1 count rest (served ++ new ∷ []) (steps ++ more)
look_one rules now count rest served old new steps more holds same looks =
    let unheard : Unheard now steps old = (all_last (Unheard now steps) rest (old ∷ []) holds.all_waiting).0 in
    let looked : Looked now (steps ++ more) new = looked_by now old new steps more unheard same looks in
    let own = looks.goes.own in
    let alone = alone_in rules 1 count (length (rest ++ old ∷ []) + length served) rest served old steps holds.keeps in
    let within : IsWithin 1 new.id (turn_of (steps ++ more)) = record { frames = omega (arith, looked.in_turn.frames); bytes = omega (arith, looked.in_turn.bytes, looked.few) } in
    let moved : Keeps rules 1 count (times_among rest (served ++ new ∷ [])) (length rest + length (served ++ new ∷ [])) steps =
    keeps_as rules 1 count (times_among (rest ++ old ∷ []) served) (times_among rest (served ++ new ∷ [])) (length (rest ++ old ∷ []) + length served) (length rest + length (served ++ new ∷ [])) steps
    (λ id. moved_over id rest served old new same) (sized_over rest served old new) holds.keeps in
    let there : 0 < times_among rest (served ++ new ∷ []) old.id = omega (arith, times_push old.id served new, ap (λ (i : ℕ). one_at i old.id) same, one_here old.id) in
    let nothing : handled old.id more ≡ [] = nil_from_length (handled old.id more) looks.turns.handles in
    record {
      keeps = keeps_traffic rules 1 count (times_among rest (served ++ new ∷ [])) (length rest + length (served ++ new ∷ [])) old.id steps more moved there own
          (looks.goes.stands steps unheard.stands).0 (subst (λ (i : ℕ). IsWithin 1 i (turn_of (steps ++ more))) same within)
          (omega (arith, holds.keeps.limited old.id, ap length (none_gathered (handled_in old.id) steps more nothing)));
      clock = clock_more steps more (calm old.id more own) ∙ holds.clock;
      all_waiting = others_stay (Unheard now steps) (Unheard now (steps ++ more)) old.id rest alone.0
          (λ peer other it. unheard_elsewhere now steps more peer (all_elsewhere old.id peer.id more own other) (calm old.id more own) it) (all_first (Unheard now steps) rest (old ∷ []) holds.all_waiting);
      all_served = all_both (Looked now (steps ++ more)) served (new ∷ []) (others_stay (Looked now steps) (Looked now (steps ++ more)) old.id served alone.1
          (λ peer other it. looked_elsewhere now steps more peer (all_elsewhere old.id peer.id more own other) (calm old.id more own) it) holds.all_served) (looked, tt);
    }

-- ---- one of these is heard

pub hear_one : (rules : Rules) (now share count : ℕ) (rest served : List Peer) (old new : Peer) (steps more : List Step) → Holds rules (Looked now) (Heard share now) now share count (rest ++ old ∷ []) served steps
    → 1 ≤ share → new.id ≡ old.id → Hears now share old new more → Holds rules (Looked now) (Heard share now) now share count rest (served ++ new ∷ []) (steps ++ more)
hear_one rules now share count rest served old new steps more holds some same hears =
    let looked : Looked now steps old = (all_last (Looked now steps) rest (old ∷ []) holds.all_waiting).0 in
    let heard : Heard share now (steps ++ more) new = heard_by share now old new steps more looked same hears in
    let own = hears.goes.own in
    let alone = alone_in rules share count (length (rest ++ old ∷ []) + length served) rest served old steps holds.keeps in
    let within : IsWithin share new.id (turn_of (steps ++ more)) = record { frames = omega (arith, heard.in_turn.frames, heard.few); bytes = omega (arith, heard.in_turn.bytes, hears.within (omega (arith, looked.few, some))) } in
    let moved : Keeps rules share count (times_among rest (served ++ new ∷ [])) (length rest + length (served ++ new ∷ [])) steps =
    keeps_as rules share count (times_among (rest ++ old ∷ []) served) (times_among rest (served ++ new ∷ [])) (length (rest ++ old ∷ []) + length served) (length rest + length (served ++ new ∷ [])) steps
    (λ id. moved_over id rest served old new same) (sized_over rest served old new) holds.keeps in
    let there : 0 < times_among rest (served ++ new ∷ []) old.id = omega (arith, times_push old.id served new, ap (λ (i : ℕ). one_at i old.id) same, one_here old.id) in
    record {
      keeps = keeps_traffic rules share count (times_among rest (served ++ new ∷ [])) (length rest + length (served ++ new ∷ [])) old.id steps more moved there own
          (hears.goes.stands steps looked.stands).0 (subst (λ (i : ℕ). IsWithin share i (turn_of (steps ++ more))) same within)
          (subst (λ (i : ℕ). length (handled i (steps ++ more)) ≤ frames_bound) same (omega (arith, heard.counted, hears.limited)));
      clock = clock_more steps more (calm old.id more own) ∙ holds.clock;
      all_waiting = others_stay (Looked now steps) (Looked now (steps ++ more)) old.id rest alone.0
          (λ peer other it. looked_elsewhere now steps more peer (all_elsewhere old.id peer.id more own other) (calm old.id more own) it) (all_first (Looked now steps) rest (old ∷ []) holds.all_waiting);
      all_served = all_both (Heard share now (steps ++ more)) served (new ∷ []) (others_stay (Heard share now steps) (Heard share now (steps ++ more)) old.id served alone.1
          (λ peer other it. heard_elsewhere share now steps more peer (all_elsewhere old.id peer.id more own other) (calm old.id more own) it) holds.all_served) (heard, tt);
    }

-- ---- one is written to

within_written : (share id : ℕ) (steps more : List Step) → AllByRecursion (IsTraffic id) more → IsQuiet id more → IsWithin share id (turn_of steps) → IsWithin share id (turn_of (steps ++ more))
within_written share id steps more own quiet within =
    let turn = turn_more steps more (calm id more own) in
    record {
      frames = omega (arith, within.frames, ap (λ (t : List Step). length (handled id t)) turn, ap length (none_gathered (handled_in id) (turn_of steps) more quiet.nothing_handled));
      bytes = omega (arith, within.bytes, ap (λ (t : List Step). length (came id t)) turn, ap length (none_gathered (bytes_read id) (turn_of steps) more quiet.nothing_came));
    }

limited_written : (id : ℕ) (steps more : List Step) → IsQuiet id more → length (handled id steps) ≤ frames_bound → length (handled id (steps ++ more)) ≤ frames_bound
limited_written id steps more quiet few = omega (arith, few, ap length (none_gathered (handled_in id) steps more quiet.nothing_handled))

-- it stays open
pub write_one : (rules : Rules) (now share count : ℕ) (waiting rest : List Peer) (old new : Peer) (steps more : List Step) → Holds rules (Served share rules.idle now) (Heard share now) now share count waiting (rest ++ old ∷ []) steps
    → IsAsBefore old new → Stays rules.idle now old new more → IsQuiet old.id more → Holds rules (Served share rules.idle now) (Heard share now) now share count (waiting ++ new ∷ []) rest (steps ++ more)
write_one rules now share count waiting rest old new steps more holds same stays quiet =
    let heard : Heard share now steps old = (all_last (Heard share now steps) rest (old ∷ []) holds.all_served).0 in
    let reached : Served share rules.idle now (steps ++ more) new = served_by share rules.idle now old new steps more heard same stays quiet in
    let own = stays.goes.own in
    let once : times_among waiting (rest ++ old ∷ []) old.id ≤ 1 = holds.keeps.apart old.id in
    let pushed = times_push old.id rest old in
    let here = one_here old.id in
    let none_waits : times_in old.id waiting ≡ 0 = omega (arith, once, pushed, here) in
    let none_rests : times_in old.id rest ≡ 0 = omega (arith, once, pushed, here) in
    let moved : Keeps rules share count (times_among (waiting ++ new ∷ []) rest) (length (waiting ++ new ∷ []) + length rest) steps =
    keeps_as rules share count (times_among waiting (rest ++ old ∷ [])) (times_among (waiting ++ new ∷ []) rest) (length waiting + length (rest ++ old ∷ [])) (length (waiting ++ new ∷ []) + length rest) steps
    (λ id. omega (arith, times_push id rest old, times_push id waiting new, ap (λ (i : ℕ). one_at i id) same.id)) (omega (arith, size_push rest old, size_push waiting new)) holds.keeps in
    let there : 0 < times_among (waiting ++ new ∷ []) rest old.id = omega (arith, times_push old.id waiting new, ap (λ (i : ℕ). one_at i old.id) same.id, here) in
    record {
      keeps = keeps_traffic rules share count (times_among (waiting ++ new ∷ []) rest) (length (waiting ++ new ∷ []) + length rest) old.id steps more moved there own
          (stays.goes.stands steps heard.stands).0 (within_written share old.id steps more own quiet (holds.keeps.within old.id)) (limited_written old.id steps more quiet (holds.keeps.limited old.id));
      clock = clock_more steps more (calm old.id more own) ∙ holds.clock;
      all_waiting = all_both (Served share rules.idle now (steps ++ more)) waiting (new ∷ []) (others_stay (Served share rules.idle now steps) (Served share rules.idle now (steps ++ more)) old.id waiting none_waits
          (λ peer other it. served_elsewhere share rules.idle now steps more peer (all_elsewhere old.id peer.id more own other) (calm old.id more own) it) holds.all_waiting) (reached, tt);
      all_served = others_stay (Heard share now steps) (Heard share now (steps ++ more)) old.id rest none_rests
          (λ peer other it. heard_elsewhere share now steps more peer (all_elsewhere old.id peer.id more own other) (calm old.id more own) it) (all_first (Heard share now steps) rest (old ∷ []) holds.all_served);
    }

closed_calm : (who : ℕ) (why : Departure) → IsCalm (Happens (Closed who why))
closed_calm who why = record { turn = λ turn. refl; clock = λ now. refl }

-- it is over
pub close_one : (rules : Rules) (now share count : ℕ) (waiting rest : List Peer) (old new : Peer) (why : Departure) (steps more : List Step) → Holds rules (Served share rules.idle now) (Heard share now) now share count waiting (rest ++ old ∷ []) steps
    → Departs rules.idle now old new why more → IsQuiet old.id more → Holds rules (Served share rules.idle now) (Heard share now) now share count waiting rest (steps ++ (more ++ Happens (Closed old.id why) ∷ []))
close_one rules now share count waiting rest old new why steps more holds departs quiet =
    let heard : Heard share now steps old = (all_last (Heard share now steps) rest (old ∷ []) holds.all_served).0 in
    let step : Step = Happens (Closed old.id why) in
    let own = departs.own in
    let left = departs.stands steps heard.stands heard.counted in
    let once : times_among waiting (rest ++ old ∷ []) old.id ≤ 1 = holds.keeps.apart old.id in
    let pushed = times_push old.id rest old in
    let here = one_here old.id in
    let none_waits : times_in old.id waiting ≡ 0 = omega (arith, once, pushed, here) in
    let none_rests : times_in old.id rest ≡ 0 = omega (arith, once, pushed, here) in
    let there : 0 < times_among waiting (rest ++ old ∷ []) old.id = omega (arith, pushed, here) in
    let still : AllByRecursion IsCalm (more ++ step ∷ []) = all_both IsCalm more (step ∷ []) (calm old.id more own) (closed_calm old.id why, tt) in
    let away : (id : ℕ) → (old.id ≡ id → ⊥) → AllByRecursion (Elsewhere id) (more ++ step ∷ []) = λ (id : ℕ) (other : old.id ≡ id → ⊥). all_both (Elsewhere id) more (step ∷ []) (all_elsewhere old.id id more own other) (closed_elsewhere old.id why id, tt) in
    let went_on : Keeps rules share count (times_among waiting (rest ++ old ∷ [])) (length waiting + length (rest ++ old ∷ [])) (steps ++ more) =
    keeps_traffic rules share count (times_among waiting (rest ++ old ∷ [])) (length waiting + length (rest ++ old ∷ [])) old.id steps more holds.keeps there own left.0 (within_written share old.id steps more own quiet (holds.keeps.within old.id)) (limited_written old.id steps more quiet (holds.keeps.limited old.id)) in
    let gone : Keeps rules share count (times_among waiting rest) (length waiting + length rest) ((steps ++ more) ++ step ∷ []) =
    keeps_closed rules share count (times_among waiting (rest ++ old ∷ [])) (times_among waiting rest) (length waiting + length (rest ++ old ∷ [])) (length waiting + length rest) old.id why (steps ++ more) went_on
    (record { held = left.1.0; queued = left.1.1; serves = left.1.2; explained = left.1.3 })
    (λ id. omega (arith, times_push id rest old)) (omega (arith, size_push rest old)) in
    record {
      keeps = subst (Keeps rules share count (times_among waiting rest) (length waiting + length rest)) (append_assoc steps more (step ∷ [])) gone;
      clock = clock_more steps (more ++ step ∷ []) still ∙ holds.clock;
      all_waiting = others_stay (Served share rules.idle now steps) (Served share rules.idle now (steps ++ (more ++ step ∷ []))) old.id waiting none_waits
          (λ peer other it. served_elsewhere share rules.idle now steps (more ++ step ∷ []) peer (away peer.id other) still it) holds.all_waiting;
      all_served = others_stay (Heard share now steps) (Heard share now (steps ++ (more ++ step ∷ []))) old.id rest none_rests
          (λ peer other it. heard_elsewhere share now steps (more ++ step ∷ []) peer (away peer.id other) still it) (all_first (Heard share now steps) rest (old ∷ []) holds.all_served);
    }

-- ---- steps of others

-- nothing is gathered of what is not of it
record IsNothingOf (id : ℕ) (step : Step) : Type 0 where
  reads : bytes_read id step ≡ []
  writes : bytes_written id step ≡ []
  handles : handled_in id step ≡ []

nothing_of : (id : ℕ) (step : Step) → (IsOf id step → ⊥) → IsNothingOf id step
nothing_of id (Happens (Read one bytes)) other = record { reads = ap (λ (b : Bool). cond b bytes []) (ne_eqb one id other); writes = refl; handles = refl }
nothing_of id (Happens (Wrote one bytes)) other = record { reads = refl; writes = ap (λ (b : Bool). cond b bytes []) (ne_eqb one id other); handles = refl }
nothing_of id (Happens (Ended one)) other = record { reads = refl; writes = refl; handles = refl }
nothing_of id (Happens (Unread one)) other = record { reads = refl; writes = refl; handles = refl }
nothing_of id (Happens (Unwritten one)) other = record { reads = refl; writes = refl; handles = refl }
nothing_of id (Happens (Waited limit)) other = record { reads = refl; writes = refl; handles = refl }
nothing_of id (Happens Unwaited) other = record { reads = refl; writes = refl; handles = refl }
nothing_of id (Happens (Timed time)) other = record { reads = refl; writes = refl; handles = refl }
nothing_of id (Happens (Opened one)) other = record { reads = refl; writes = refl; handles = refl }
nothing_of id (Happens NoneOpened) other = record { reads = refl; writes = refl; handles = refl }
nothing_of id (Happens (Closed one why)) other = record { reads = refl; writes = refl; handles = refl }
nothing_of id (Handles one frame reply) other = record { reads = refl; writes = refl; handles = ap (λ (b : Bool). cond b ((frame, reply) ∷ []) []) (ne_eqb one id other) }
nothing_of id (Settles done) other = record { reads = refl; writes = refl; handles = refl }

others_elsewhere : (id : ℕ) (steps : List Step) → AreOfOthers id steps → (came id steps ≡ []) × (went id steps ≡ []) × (handled id steps ≡ [])
others_elsewhere id [] others = (refl, refl, refl)
others_elsewhere id (step ∷ steps) others =
    let here = nothing_of id step others.0 in
    let later = others_elsewhere id steps others.1 in
    (ap (λ (l : List ℕ). l ++ came id steps) here.reads ∙ later.0, ap (λ (l : List ℕ). l ++ went id steps) here.writes ∙ later.1, ap (λ (l : List (Frame × Reply)). l ++ handled id steps) here.handles ∙ later.2)

-- it was not opened
none_opened_of : (id : ℕ) (steps : List Step) → AreOfOthers id steps → Happened (Opened id) steps → ⊥
none_opened_of id [] others there = there
none_opened_of id (step ∷ steps) others (inl here) = (subst (λ (s : Step). IsOf id s → ⊥) here others.0) refl
none_opened_of id (step ∷ steps) others (inr later) = none_opened_of id steps others.1 later

happened_among : (event : Event) (before later : List Step) → Happened event (before ++ Happens event ∷ later)
happened_among event [] later = inl refl
happened_among event (step ∷ before) later = inr (happened_among event before later)

others_behind : (id : ℕ) (turn : List Step) (step : Step) → AreOfOthers id turn → (IsOf id step → ⊥) → AreOfOthers id (turn_behind turn step)
others_behind id turn (Happens (Waited limit)) so_far other = tt
others_behind id turn (Happens (Read one bytes)) so_far other = all_both (IsOfOther id) turn (Happens (Read one bytes) ∷ []) so_far (other, tt)
others_behind id turn (Happens (Wrote one bytes)) so_far other = all_both (IsOfOther id) turn (Happens (Wrote one bytes) ∷ []) so_far (other, tt)
others_behind id turn (Happens (Ended one)) so_far other = all_both (IsOfOther id) turn (Happens (Ended one) ∷ []) so_far (other, tt)
others_behind id turn (Happens (Unread one)) so_far other = all_both (IsOfOther id) turn (Happens (Unread one) ∷ []) so_far (other, tt)
others_behind id turn (Happens (Unwritten one)) so_far other = all_both (IsOfOther id) turn (Happens (Unwritten one) ∷ []) so_far (other, tt)
others_behind id turn (Happens Unwaited) so_far other = all_both (IsOfOther id) turn (Happens Unwaited ∷ []) so_far (other, tt)
others_behind id turn (Happens (Timed time)) so_far other = all_both (IsOfOther id) turn (Happens (Timed time) ∷ []) so_far (other, tt)
others_behind id turn (Happens (Opened one)) so_far other = all_both (IsOfOther id) turn (Happens (Opened one) ∷ []) so_far (other, tt)
others_behind id turn (Happens NoneOpened) so_far other = all_both (IsOfOther id) turn (Happens NoneOpened ∷ []) so_far (other, tt)
others_behind id turn (Happens (Closed one why)) so_far other = all_both (IsOfOther id) turn (Happens (Closed one why) ∷ []) so_far (other, tt)
others_behind id turn (Handles one frame reply) so_far other = all_both (IsOfOther id) turn (Handles one frame reply ∷ []) so_far (other, tt)
others_behind id turn (Settles done) so_far other = all_both (IsOfOther id) turn (Settles done ∷ []) so_far (other, tt)

quiet_more : (id : ℕ) (turn : List Step) (step : Step) → bytes_read id step ≡ [] → handled_in id step ≡ [] → IsQuiet id turn → IsQuiet id (turn ++ step ∷ [])
quiet_more id turn step no_bytes no_frame quiet = record { nothing_came = none_more (bytes_read id) turn step no_bytes ∙ quiet.nothing_came; nothing_handled = none_more (handled_in id) turn step no_frame ∙ quiet.nothing_handled }

turn_timed : (steps : List Step) (time : ℕ) → turn_of (steps ++ Happens (Timed time) ∷ []) ≡ turn_of steps ++ Happens (Timed time) ∷ []
turn_timed steps time = fold-append turn_behind [] steps (Happens (Timed time) ∷ [])

clock_waited : (steps : List Step) (limit : ℕ) → clock_of (steps ++ Happens (Waited limit) ∷ []) ≡ clock_of steps
clock_waited steps limit = fold-append clock_behind 0 steps (Happens (Waited limit) ∷ [])

fresh_serves : (id : ℕ) (steps : List Step) → came id steps ≡ [] → went id steps ≡ [] → handled id steps ≡ [] → Serves id steps [] []
fresh_serves id steps no_bytes none_out no_frame = record {
  readable = subst (AllByRecursion (λ (one : Frame × Reply). IsReadable one.0)) (sym no_frame) tt;
  spelled = subst (AllByRecursion (λ (one : Frame × Reply). HasReplySpelling one.0.version one.1)) (sym no_frame) tt;
  read = no_bytes ∙ ap (λ (h : List (Frame × Reply)). spelled_frames h ++ []) (sym no_frame);
  written = ap spelled_replies no_frame ∙ ap (λ (l : List ℕ). l ++ []) (sym none_out);
  few = omega arith;
  short = omega arith;
}

none_above : (rules : Rules) (share count : ℕ) (open_as : ℕ → ℕ) (places : ℕ) (steps : List Step) → Keeps rules share count open_as places steps → open_as count ≡ 0
none_above rules share count open_as places steps keeps = elim (cases_zero (open_as count)) [ inl none ↦ none | inr some ↦ absurd (lt_self count (keeps.below count some)) ]

all_pairs : (P Q : Peer → Type 0) (peers : List Peer) → AllByRecursion P peers → AllByRecursion Q peers → AllByRecursion (λ peer. P peer × Q peer) peers
all_pairs P Q [] one other = tt
all_pairs P Q (peer ∷ peers) one other = ((one.0, other.0), all_pairs P Q peers one.1 other.1)

others_in_turn : (id : ℕ) (turn steps : List Step) → AreOfOthers id turn → AreOfOthers id steps → AreOfOthers id (fold turn_behind turn steps)
others_in_turn id turn [] so_far others = so_far
others_in_turn id turn (step ∷ steps) so_far others = others_in_turn id (turn_behind turn step) steps (others_behind id turn step so_far others.0) others.1

-- ---- one comes, or none

none_at_all : (steps other : List Step) (peers : List Peer) → AllByRecursion (NoPeer steps) peers → AllByRecursion (NoPeer other) peers
none_at_all steps other peers none = none

-- there is none
pub no_peers : (steps : List Step) (peers : List Peer) → AllByRecursion (NoPeer steps) peers → peers ≡ []
no_peers steps [] none = refl
no_peers steps (peer ∷ peers) none = absurd none.0

pub read_clock : (rules : Rules) (now time share count : ℕ) (waiting served : List Peer) (steps : List Step) → Holds rules (Unheard now) NoPeer now share count waiting served steps → Holds rules (Unheard time) NoPeer time share count waiting served (steps ++ Happens (Timed time) ∷ [])
read_clock rules now time share count waiting served steps holds =
    let step : Step = Happens (Timed time) in
    let turn : turn_of (steps ++ step ∷ []) ≡ turn_of steps ++ step ∷ [] = turn_timed steps time in
    record {
      keeps = keeps_timed rules share count (times_among waiting served) (length waiting + length served) time steps holds.keeps;
      clock = clock_timed steps time;
      all_waiting = all_as (Unheard now steps) (Unheard time (steps ++ step ∷ [])) waiting
          (λ peer it. record { stands = stands_timed peer.id (kept_of peer) now time steps it.stands; quiet = subst (IsQuiet peer.id) (sym turn) (quiet_more peer.id (turn_of steps) step refl refl it.quiet); counted = counted_on peer.frames peer.id steps (step ∷ []) refl it.counted }) holds.all_waiting;
      all_served = holds.all_served;
    }

none_calm : AllByRecursion IsCalm (Happens NoneOpened ∷ [])
none_calm = (record { turn = λ turn. refl; clock = λ now. refl }, tt)

pub none_comes : (rules : Rules) (now share count : ℕ) (waiting served : List Peer) (steps : List Step) → Holds rules (Unheard now) NoPeer now share count waiting served steps → Holds rules (Unheard now) NoPeer now share count waiting served (steps ++ Happens NoneOpened ∷ [])
none_comes rules now share count waiting served steps holds = record {
  keeps = keeps_none rules share count (times_among waiting served) (length waiting + length served) steps holds.keeps;
  clock = clock_more steps (Happens NoneOpened ∷ []) none_calm ∙ holds.clock;
  all_waiting = all_as (Unheard now steps) (Unheard now (steps ++ Happens NoneOpened ∷ [])) waiting (λ peer it. unheard_elsewhere now steps (Happens NoneOpened ∷ []) peer (none_elsewhere peer.id, tt) none_calm it) holds.all_waiting;
  all_served = holds.all_served;
}

opened_calm : (id : ℕ) → IsCalm (Happens (Opened id))
opened_calm id = record { turn = λ turn. refl; clock = λ now. refl }

-- of a connection of which nothing has happened
untouched_kept : (id now : ℕ) (steps : List Step) → AreOfOthers id steps → clock_of steps ≡ now → Stands id (keep [] [] None now) now (steps ++ Happens (Opened id) ∷ [])
untouched_kept id now steps others clock =
    let step : Step = Happens (Opened id) in
    let away = others_elsewhere id steps others in
    let times : times_of id (steps ++ step ∷ []) ≡ record { now = now; active = now } =
    times_one id steps step (times_of id steps) refl ∙ (times_opened id (times_of id steps) ∙ ap at_once (times_now id steps ∙ clock)) in
    record {
      held = [];
      queued = [];
      serves = fresh_serves id (steps ++ step ∷ []) (none_more (bytes_read id) steps step refl ∙ away.0) (none_more (bytes_written id) steps step refl ∙ away.1) (none_more (handled_in id) steps step refl ∙ away.2);
      is_left = (refl, refl);
      times = times;
    }

pub one_comes : (rules : Rules) (now share count : ℕ) (waiting served : List Peer) (peer : Peer) (steps : List Step) → Holds rules (Unheard now) NoPeer now share count waiting served steps → length waiting + length served < rules.seats
    → ((total : ℕ) → rules.total ≡ Some total → count < total) → IsNew count now peer → Holds rules (Unheard now) NoPeer now share (count + 1) (waiting ++ peer ∷ []) served (steps ++ Happens (Opened count) ∷ [])
one_comes rules now share count waiting served peer steps holds seats wanted new =
    let step : Step = Happens (Opened count) in
    let more : List Step = step ∷ [] in
    let still : AllByRecursion IsCalm more = (opened_calm count, tt) in
    let stands : Stands peer.id (kept_of peer) now (steps ++ more) =
    subst (λ (i : ℕ). Stands i (kept_of peer) now (steps ++ more)) (sym new.id_is) (subst (λ (k : Kept). Stands count k now (steps ++ more)) (sym new.kept) (untouched_kept count now steps (holds.keeps.others count (omega arith)) holds.clock)) in
    let others : AreOfOthers count (turn_of steps) = others_in_turn count [] steps tt (holds.keeps.others count (omega arith)) in
    let away = others_elsewhere count (turn_of steps) others in
    let quiet : IsQuiet count (turn_of steps) = record { nothing_came = away.0; nothing_handled = away.2 } in
    let reached : Unheard now (steps ++ more) peer = record {
      stands = stands;
      quiet = subst (λ (i : ℕ). IsQuiet i (turn_of (steps ++ more))) (sym new.id_is) (subst (IsQuiet count) (sym (turn_more steps more still)) (quiet_more count (turn_of steps) step refl refl quiet));
      counted = counted_on peer.frames peer.id steps more refl (new.frames ∙ subst (λ (i : ℕ). 0 ≡ length (handled i steps)) (sym new.id_is) (sym (ap length (others_elsewhere count steps (holds.keeps.others count (omega arith))).2)));
    } in
    let none_waits : times_among waiting served count ≡ 0 = none_above rules share count (times_among waiting served) (length waiting + length served) steps holds.keeps in
    record {
      keeps = keeps_as rules share (count + 1) (λ id. times_among waiting served id + one_at count id) (times_among (waiting ++ peer ∷ []) served) ((length waiting + length served) + 1) (length (waiting ++ peer ∷ []) + length served) (steps ++ more)
          (λ id. omega (arith, times_push id waiting peer, ap (λ (i : ℕ). one_at i id) new.id_is)) (omega (arith, size_push waiting peer))
          (keeps_opened rules share count (times_among waiting served) (λ id. times_among waiting served id + one_at count id) (length waiting + length served) steps holds.keeps seats wanted (λ id. refl));
      clock = clock_more steps more still ∙ holds.clock;
      all_waiting = all_both (Unheard now (steps ++ more)) waiting (peer ∷ []) (others_stay (Unheard now steps) (Unheard now (steps ++ more)) count waiting (omega (arith, none_waits))
          (λ one other it. unheard_elsewhere now steps more one (opened_elsewhere count one.id other, tt) still it) holds.all_waiting) (reached, tt);
      all_served = holds.all_served;
    }

-- or it is closed at once, since there is no memory for it
pub one_fails : (rules : Rules) (now share count : ℕ) (waiting served : List Peer) (steps : List Step) → Holds rules (Unheard now) NoPeer now share count waiting served steps → length waiting + length served < rules.seats
    → ((total : ℕ) → rules.total ≡ Some total → count < total) → Holds rules (Unheard now) NoPeer now share (count + 1) waiting served (steps ++ Happens (Opened count) ∷ Happens (Closed count departures.Memory) ∷ [])
one_fails rules now share count waiting served steps holds seats wanted =
    let first : Step = Happens (Opened count) in
    let last : Step = Happens (Closed count departures.Memory) in
    let more : List Step = first ∷ last ∷ [] in
    let still : AllByRecursion IsCalm more = (opened_calm count, (closed_calm count departures.Memory, tt)) in
    let none_waits : times_among waiting served count ≡ 0 = none_above rules share count (times_among waiting served) (length waiting + length served) steps holds.keeps in
    let came_in = keeps_opened rules share count (times_among waiting served) (λ id. times_among waiting served id + one_at count id) (length waiting + length served) steps holds.keeps seats wanted (λ id. refl) in
    let stands = untouched_kept count now steps (holds.keeps.others count (omega arith)) holds.clock in
    let left : Leaves rules.idle count departures.Memory (steps ++ first ∷ []) = record { held = []; queued = []; serves = serves_as count (steps ++ first ∷ []) stands.held [] stands.queued [] stands.is_left.0 stands.is_left.1 stands.serves; explained = tt } in
    record {
      keeps = subst (Keeps rules share (count + 1) (times_among waiting served) (length waiting + length served)) (append_assoc steps (first ∷ []) (last ∷ []))
          (keeps_closed rules share (count + 1) (λ id. times_among waiting served id + one_at count id) (times_among waiting served) ((length waiting + length served) + 1) (length waiting + length served) count departures.Memory (steps ++ first ∷ []) came_in left (λ id. refl) refl);
      clock = clock_more steps more still ∙ holds.clock;
      all_waiting = others_stay (Unheard now steps) (Unheard now (steps ++ more)) count waiting (omega (arith, none_waits))
          (λ one other it. unheard_elsewhere now steps more one (opened_elsewhere count one.id other, (closed_elsewhere count departures.Memory one.id, tt)) still it) holds.all_waiting;
      all_served = holds.all_served;
    }

-- ---- waiting

ready_by : (rules : Rules) (now share count limit : ℕ) (peer : Peer) (id : ℕ) (steps : List Step) → peer.id ≡ id → Served share rules.idle now steps peer → IsPatient rules.idle now limit peer → IsReady rules.idle limit share id steps (turn_of steps)
ready_by rules now share count limit peer id steps its served patient =
    let times : times_of id steps ≡ record { now = now; active = peer.active } = subst (λ (i : ℕ). times_of i steps ≡ record { now = now; active = peer.active }) its served.stands.times in
    record {
      prompt = subst (λ (t : Times). (t.now - t.active) + limit ≤ rules.idle) (sym times) (omega (arith, served.active, patient.prompt));
      settled = subst (λ (i : ℕ). IsSettled (limit ≡ 0) share i steps (turn_of steps)) its (settled_as (is_hungry peer ≡ true) (limit ≡ 0) share peer.id steps (turn_of steps) patient.hungry served.settled);
    }

open_is_there : (rules : Rules) (share count places id : ℕ) (open_as : ℕ → ℕ) (steps : List Step) → Keeps rules share count open_as places steps → IsOpenAfter id steps → 0 < open_as id
open_is_there rules share count places id open_as steps keeps is_open = elim (cases_zero (open_as id)) [
  | inr some ↦ some
  | inl none ↦ elim (cases_lt id count) [
    | inl is_below ↦ let left = keeps.gone id is_below none in absurd (is_open.stays left.why (subst (Happened (Closed id left.why)) (sym left.parts) (happened_among (Closed id left.why) left.before left.later)))
    | inr above ↦ absurd (none_opened_of id steps (keeps.others id above) is_open.was_opened)
  ]
]

pub fair_by : (rules : Rules) (now share count limit : ℕ) (waiting served : List Peer) (steps : List Step) → Holds rules (Served share rules.idle now) NoPeer now share count waiting served steps → AllByRecursion (IsPatient rules.idle now limit) waiting → (steps ≡ []) ⊎ HasBegun rules steps (turn_of steps) → IsShare share steps (turn_of steps) → IsFair rules steps (Happens (Waited limit))
fair_by rules now share count limit waiting served steps holds patient begun is_share = record {
  begun = begun;
  share = share;
  is_share = is_share;
  each = λ id. record {
    frames = (holds.keeps.within id).frames;
    bytes = (holds.keeps.within id).bytes;
    ready = λ is_open.
        let none = no_peers steps served holds.all_served in
        let some : 0 < times_among waiting served id = open_is_there rules share count (length waiting + length served) id (times_among waiting served) steps holds.keeps is_open in
        let here : 0 < times_in id waiting = omega (arith, some, ap (times_in id) none) in
        let found = find_one (λ peer. Served share rules.idle now steps peer × IsPatient rules.idle now limit peer) id waiting here (all_pairs (Served share rules.idle now steps) (IsPatient rules.idle now limit) waiting holds.all_waiting patient) in
        ready_by rules now share count limit found.peer id steps found.its found.holds.0 found.holds.1;
  };
}

pub wait_over : (rules : Rules) (now share count limit : ℕ) (waiting served : List Peer) (steps : List Step) → Holds rules (Served share rules.idle now) NoPeer now share count waiting served steps → AllByRecursion (IsPatient rules.idle now limit) waiting
    → (steps ≡ []) ⊎ HasBegun rules steps (turn_of steps) → IsShare share steps (turn_of steps) → Holds rules (Unheard now) NoPeer now 1 count waiting served (steps ++ Happens (Waited limit) ∷ [])
wait_over rules now share count limit waiting served steps holds patient begun is_share = record {
  keeps = keeps_waited rules share 1 count (times_among waiting served) (length waiting + length served) limit steps holds.keeps (fair_by rules now share count limit waiting served steps holds patient begun is_share);
  clock = clock_waited steps limit ∙ holds.clock;
  all_waiting = all_as (Served share rules.idle now steps) (Unheard now (steps ++ Happens (Waited limit) ∷ [])) waiting (λ peer it. unheard_waited share rules.idle now limit steps peer it) holds.all_waiting;
  all_served = holds.all_served;
}

-- ---- the end

pub have_left : (rules : Rules) (share count : ℕ) (steps : List Step) → Keeps rules share count (λ id. 0) 0 steps → (id : ℕ) → Happened (Opened id) steps → HasLeft rules.idle id steps
have_left rules share count steps keeps id there = elim (cases_lt id count) [
  | inl is_below ↦ keeps.gone id is_below refl
  | inr above ↦ absurd (none_opened_of id steps (keeps.others id above) there)
]

pub none_open : (rules : Rules) (now share count : ℕ) (waiting served : List Peer) (steps : List Step) → Holds rules (Served share rules.idle now) NoPeer now share count waiting served steps → waiting ≡ [] → Keeps rules share count (λ id. 0) 0 steps
none_open rules now share count waiting served steps holds none =
    let nobody = no_peers steps served holds.all_served in
    keeps_as rules share count (times_among waiting served) (λ id. 0) (length waiting + length served) 0 steps (λ id. omega (arith, ap (times_in id) none, ap (times_in id) nobody)) (omega (arith, ap length none, ap length nobody)) holds.keeps

pub are_all : (rules : Rules) (share count : ℕ) (steps : List Step) → Keeps rules share count (λ id. 0) 0 steps → AreAll count steps
are_all rules share count steps keeps = record { each_opened = keeps.all; others = keeps.others }

stopped_more : (steps more : List Step) → IsStopped steps → IsStopped (steps ++ more)
stopped_more steps more (inl failed) = inl (happened_then Unwaited steps more failed)
stopped_more steps more (inr many) = inr (omega (arith, many, sum_by-append (λ (s : Step). cond (is_wait s) 1 0) steps more))

ends_explain : (why : Departure) (idle id : ℕ) (steps : List Step) (held queued : List ℕ) → EndsFor why steps → Explains idle id steps held queued why
ends_explain departures.Stopped idle id steps held queued ends = ends
ends_explain departures.Unsettled idle id steps held queued ends = ends
ends_explain departures.Closed idle id steps held queued ends = absurd ends
ends_explain departures.Enough idle id steps held queued ends = absurd ends
ends_explain (departures.Frame fault) idle id steps held queued ends = absurd ends
ends_explain departures.Memory idle id steps held queued ends = absurd ends
ends_explain departures.Write idle id steps held queued ends = absurd ends
ends_explain departures.Idle idle id steps held queued ends = absurd ends

ends_more : (why : Departure) (steps more : List Step) → EndsFor why steps → EndsFor why (steps ++ more)
ends_more departures.Stopped steps more ends = stopped_more steps more ends
ends_more departures.Unsettled steps more ends = settled_then false steps more ends
ends_more departures.Closed steps more ends = absurd ends
ends_more departures.Enough steps more ends = absurd ends
ends_more (departures.Frame fault) steps more ends = absurd ends
ends_more departures.Memory steps more ends = absurd ends
ends_more departures.Write steps more ends = absurd ends
ends_more departures.Idle steps more ends = absurd ends

-- one is closed since the loop ends
close_last : (rules : Rules) (share count places : ℕ) (others : ℕ → ℕ) (rest : List Peer) (peer : Peer) (why : Departure) (steps : List Step) → EndsFor why steps
    → Keeps rules share count (λ id. times_in id (rest ++ peer ∷ []) + others id) (length (rest ++ peer ∷ []) + places) steps
    → EndsFor why (steps ++ Happens (Closed peer.id why) ∷ []) × Keeps rules share count (λ id. times_in id rest + others id) (length rest + places) (steps ++ Happens (Closed peer.id why) ∷ [])
close_last rules share count places others rest peer why steps ends keeps =
    let now : IsServed peer.id steps = always_end (IsServed peer.id) [] steps (keeps.each peer.id) in (
      ends_more why steps (Happens (Closed peer.id why) ∷ []) ends,
      keeps_closed rules share count (λ id. times_in id (rest ++ peer ∷ []) + others id) (λ id. times_in id rest + others id) (length (rest ++ peer ∷ []) + places) (length rest + places) peer.id why steps keeps
          (record { held = now.held; queued = now.queued; serves = now.serves; explained = ends_explain why rules.idle peer.id steps now.held now.queued ends })
          (λ id. omega (arith, times_push id rest peer)) (omega (arith, size_push rest peer)),
    )

pub closes_none : (why : Departure) (peers : List Peer) → ClosesSome why peers peers []
closes_none why peers = record {
  closing = tt;
  keeps = λ rules share count others places before ends keeps.
      (subst (EndsFor why) (sym (append-nil before)) ends, subst (Keeps rules share count (λ id. times_in id peers + others id) (length peers + places)) (sym (append-nil before)) keeps);
}

pub closes_more : (why : Departure) (start old rest : List Peer) (peer : Peer) (first : List Step) → ClosesSome why start old first → old ≡ rest ++ peer ∷ [] → ClosesSome why start rest (first ++ Happens (Closed peer.id why) ∷ [])
closes_more why start old rest peer first so was =
    let step : Step = Happens (Closed peer.id why) in
    record {
      closing = all_both (IsClosing why) first (step ∷ []) so.closing ((peer.id, refl), tt);
      keeps = λ rules share count others places before ends keeps.
          let so_far = so.keeps rules share count others places before ends keeps in
          let here : Keeps rules share count (λ id. times_in id (rest ++ peer ∷ []) + others id) (length (rest ++ peer ∷ []) + places) (before ++ first) =
          subst (λ (l : List Peer). Keeps rules share count (λ id. times_in id l + others id) (length l + places) (before ++ first)) was so_far.1 in
          let closed = close_last rules share count places others rest peer why (before ++ first) so_far.0 here in
          let same : (before ++ first) ++ step ∷ [] ≡ before ++ (first ++ step ∷ []) = append_assoc before first (step ∷ []) in
          (subst (EndsFor why) same closed.0, subst (Keeps rules share count (λ id. times_in id rest + others id) (length rest + places)) same closed.1);
    }

closing_writing : (why : Departure) (step : Step) → IsClosing why step → IsWriting step
closing_writing why step is = subst IsWriting (sym is.1) tt

-- all are closed, since the loop could not wait any longer
pub stops_all : (rules : Rules) (old new : Hall) (steps : List Step) → old.served.items ≡ [] → new.waiting.items ≡ [] → new.opened ≡ old.opened → new.share ≡ old.share → ClosesSome departures.Stopped old.waiting.items new.waiting.items steps → Stops rules old new steps
stops_all rules old new steps none is same also closes = record {
  writing = all_as (IsClosing departures.Stopped) IsWriting steps (closing_writing departures.Stopped) closes.closing;
  keeps = λ before stopped rest.
      let here : Keeps rules old.share old.opened (λ id. times_in id old.waiting.items + times_in id old.served.items) (length old.waiting.items + length old.served.items) before =
      keeps_as rules old.share old.opened (times_among old.waiting.items old.served.items) (λ id. times_in id old.waiting.items + times_in id old.served.items) (length old.waiting.items + length old.served.items) (length old.waiting.items + length old.served.items) before (λ id. refl) refl rest.keeps in
      let closed = closes.keeps rules old.share old.opened (λ id. times_in id old.served.items) (length old.served.items) before stopped here in
      let over : Keeps rules old.share old.opened (λ id. 0) 0 (before ++ steps) =
      keeps_as rules old.share old.opened (λ id. times_in id new.waiting.items + times_in id old.served.items) (λ id. 0) (length new.waiting.items + length old.served.items) 0 (before ++ steps)
      (λ id. omega (arith, ap (times_in id) is, ap (times_in id) none)) (omega (arith, ap length is, ap length none)) closed.1 in
      (closed.0, subst (λ (h : ℕ). Keeps rules h new.opened (λ id. 0) 0 (before ++ steps)) (sym also) (subst (λ (n : ℕ). Keeps rules old.share n (λ id. 0) 0 (before ++ steps)) (sym same) over));
}

-- ---- from one hall to the next

pub leads_none : (rules : Rules) (P Q : List Step → Peer → Type 0) (hall : Hall) → LeadsOn rules P Q P Q hall hall []
leads_none rules P Q hall before holds = subst (Holds rules P Q hall.time hall.share hall.opened hall.waiting.items hall.served.items) (sym (append-nil before)) holds

pub leads_both : (rules : Rules) (P Q R S T U : List Step → Peer → Type 0) (old middle new : Hall) (first later : List Step) → LeadsOn rules P Q R S old middle first → LeadsOn rules R S T U middle new later → LeadsOn rules P Q T U old new (first ++ later)
leads_both rules P Q R S T U old middle new first later one other before holds =
    subst (Holds rules T U new.time new.share new.opened new.waiting.items new.served.items) (append_assoc before first later) (other (before ++ first) (one before holds))

-- where there is none of a kind, it is no matter which
pub leads_as : (rules : Rules) (P Q R S T U V W : List Step → Peer → Type 0) (old new : Hall) (steps : List Step) → ((before : List Step) (peer : Peer) → T before peer → P before peer) → ((before : List Step) (peer : Peer) → U before peer → Q before peer)
    → ((before : List Step) (peer : Peer) → R before peer → V before peer) → ((before : List Step) (peer : Peer) → S before peer → W before peer) → LeadsOn rules P Q R S old new steps → LeadsOn rules T U V W old new steps
leads_as rules P Q R S T U V W old new steps p q r s leads before holds =
    let there : Holds rules P Q old.time old.share old.opened old.waiting.items old.served.items before = record {
      keeps = holds.keeps;
      clock = holds.clock;
      all_waiting = all_as (T before) (P before) old.waiting.items (p before) holds.all_waiting;
      all_served = all_as (U before) (Q before) old.served.items (q before) holds.all_served;
    } in
    let here = leads before there in
    record {
      keeps = here.keeps;
      clock = here.clock;
      all_waiting = all_as (R (before ++ steps)) (V (before ++ steps)) new.waiting.items (r (before ++ steps)) here.all_waiting;
      all_served = all_as (S (before ++ steps)) (W (before ++ steps)) new.served.items (s (before ++ steps)) here.all_served;
    }

-- what holds of lists holds of the hall that has them
holds_as : (rules : Rules) (P Q : List Step → Peer → Type 0) (now share opened : ℕ) (waiting served : List Peer) (steps : List Step) (hall : Hall) → hall.time ≡ now → hall.share ≡ share → hall.opened ≡ opened → hall.waiting.items ≡ waiting → hall.served.items ≡ served
    → Holds rules P Q now share opened waiting served steps → Holds rules P Q hall.time hall.share hall.opened hall.waiting.items hall.served.items steps
holds_as rules P Q now share opened waiting served steps hall time shared is waits serves holds =
    subst (λ (n : ℕ). Holds rules P Q n hall.share hall.opened hall.waiting.items hall.served.items steps) (sym time)
    (subst (λ (n : ℕ). Holds rules P Q now n hall.opened hall.waiting.items hall.served.items steps) (sym shared)
    (subst (λ (n : ℕ). Holds rules P Q now share n hall.waiting.items hall.served.items steps) (sym is)
    (subst (λ (l : List Peer). Holds rules P Q now share opened l hall.served.items steps) (sym waits)
    (subst (λ (l : List Peer). Holds rules P Q now share opened waiting l steps) (sym serves) holds))))

-- what holds of a hall holds of its lists
holds_of : (rules : Rules) (P Q : List Step → Peer → Type 0) (now share : ℕ) (waiting served : List Peer) (steps : List Step) (hall : Hall) → now ≡ hall.time → share ≡ hall.share → hall.waiting.items ≡ waiting → hall.served.items ≡ served
    → Holds rules P Q hall.time hall.share hall.opened hall.waiting.items hall.served.items steps → Holds rules P Q now share hall.opened waiting served steps
holds_of rules P Q now share waiting served steps hall time shared waits serves holds =
    subst (λ (n : ℕ). Holds rules P Q n share hall.opened waiting served steps) (sym time)
    (subst (λ (n : ℕ). Holds rules P Q hall.time n hall.opened waiting served steps) (sym shared)
    (subst (λ (l : List Peer). Holds rules P Q hall.time hall.share hall.opened l served steps) waits
    (subst (λ (l : List Peer). Holds rules P Q hall.time hall.share hall.opened hall.waiting.items l steps) serves holds)))

-- one connection is looked at
pub leads_looking : (rules : Rules) (now : ℕ) (old new : Hall) (before_it it : Peer) (rest : List Peer) (more : List Step) → now ≡ old.time → 1 ≡ old.share → old.waiting.items ≡ rest ++ before_it ∷ [] → new.waiting.items ≡ rest → new.served.items ≡ old.served.items ++ it ∷ []
    → new.time ≡ old.time → new.share ≡ old.share → new.opened ≡ old.opened → it.id ≡ before_it.id → Looks old.time before_it it more → LeadsOn rules (Unheard now) (Looked now) (Unheard now) (Looked now) old new more
leads_looking rules now old new before_it it rest more same least was waits serves time share opened id looks before holds =
    let start : Holds rules (Unheard now) (Looked now) now 1 old.opened (rest ++ before_it ∷ []) old.served.items before =
    holds_of rules (Unheard now) (Looked now) now 1 (rest ++ before_it ∷ []) old.served.items before old same least was refl holds in
    let looked : Holds rules (Unheard now) (Looked now) now 1 old.opened rest (old.served.items ++ it ∷ []) (before ++ more) =
    look_one rules now old.opened rest old.served.items before_it it before more start id (subst (λ (n : ℕ). Looks n before_it it more) (sym same) looks) in
    holds_as rules (Unheard now) (Looked now) now 1 old.opened rest (old.served.items ++ it ∷ []) (before ++ more) new (time ∙ sym same) (share ∙ sym least) opened waits serves looked

-- one connection is heard
pub leads_hearing : (rules : Rules) (share now : ℕ) (old new : Hall) (before_it it : Peer) (rest : List Peer) (more : List Step) → now ≡ old.time → share ≡ old.share → old.waiting.items ≡ rest ++ before_it ∷ [] → new.waiting.items ≡ rest → new.served.items ≡ old.served.items ++ it ∷ []
    → new.time ≡ old.time → new.share ≡ old.share → new.opened ≡ old.opened → 1 ≤ share → it.id ≡ before_it.id → Hears now share before_it it more → LeadsOn rules (Looked now) (Heard share now) (Looked now) (Heard share now) old new more
leads_hearing rules share now old new before_it it rest more same is was waits serves time shared opened some id hears before holds =
    let start : Holds rules (Looked now) (Heard share now) now share old.opened (rest ++ before_it ∷ []) old.served.items before =
    holds_of rules (Looked now) (Heard share now) now share (rest ++ before_it ∷ []) old.served.items before old same is was refl holds in
    let heard : Holds rules (Looked now) (Heard share now) now share old.opened rest (old.served.items ++ it ∷ []) (before ++ more) =
    hear_one rules now share old.opened rest old.served.items before_it it before more start some id hears in
    holds_as rules (Looked now) (Heard share now) now share old.opened rest (old.served.items ++ it ∷ []) (before ++ more) new (time ∙ sym same) (shared ∙ sym is) opened waits serves heard

-- one connection is written to, and stays
pub leads_writing : (rules : Rules) (share now : ℕ) (old new : Hall) (before_it it : Peer) (rest : List Peer) (more : List Step) → now ≡ old.time → share ≡ old.share → old.served.items ≡ rest ++ before_it ∷ [] → new.served.items ≡ rest → new.waiting.items ≡ old.waiting.items ++ it ∷ []
    → new.time ≡ old.time → new.share ≡ old.share → new.opened ≡ old.opened → IsAsBefore before_it it → Stays rules.idle now before_it it more → IsQuiet before_it.id more → LeadsOn rules (Served share rules.idle now) (Heard share now) (Served share rules.idle now) (Heard share now) old new more
leads_writing rules share now old new before_it it rest more same is was serves waits time shared opened as_before stays quiet before holds =
    let P : List Step → Peer → Type 0 = Served share rules.idle now in
    let start : Holds rules P (Heard share now) now share old.opened old.waiting.items (rest ++ before_it ∷ []) before =
    holds_of rules P (Heard share now) now share old.waiting.items (rest ++ before_it ∷ []) before old same is refl was holds in
    let reached : Holds rules P (Heard share now) now share old.opened (old.waiting.items ++ it ∷ []) rest (before ++ more) =
    write_one rules now share old.opened old.waiting.items rest before_it it before more start as_before stays quiet in
    holds_as rules P (Heard share now) now share old.opened (old.waiting.items ++ it ∷ []) rest (before ++ more) new (time ∙ sym same) (shared ∙ sym is) opened waits serves reached

-- one connection is over
pub leads_closing : (rules : Rules) (share now : ℕ) (old new : Hall) (before_it it : Peer) (why : Departure) (rest : List Peer) (more : List Step) → now ≡ old.time → share ≡ old.share → old.served.items ≡ rest ++ before_it ∷ [] → new.served.items ≡ rest → new.waiting.items ≡ old.waiting.items
    → new.time ≡ old.time → new.share ≡ old.share → new.opened ≡ old.opened → Departs rules.idle now before_it it why more → IsQuiet before_it.id more → LeadsOn rules (Served share rules.idle now) (Heard share now) (Served share rules.idle now) (Heard share now) old new (more ++ Happens (Closed before_it.id why) ∷ [])
leads_closing rules share now old new before_it it why rest more same is was serves waits time shared opened departs quiet before holds =
    let P : List Step → Peer → Type 0 = Served share rules.idle now in
    let start : Holds rules P (Heard share now) now share old.opened old.waiting.items (rest ++ before_it ∷ []) before =
    holds_of rules P (Heard share now) now share old.waiting.items (rest ++ before_it ∷ []) before old same is refl was holds in
    let closed : Holds rules P (Heard share now) now share old.opened old.waiting.items rest (before ++ (more ++ Happens (Closed before_it.id why) ∷ [])) =
    close_one rules now share old.opened old.waiting.items rest before_it it why before more start departs quiet in
    holds_as rules P (Heard share now) now share old.opened old.waiting.items rest (before ++ (more ++ Happens (Closed before_it.id why) ∷ [])) new (time ∙ sym same) (shared ∙ sym is) opened waits serves closed

-- the last that waited was taken: whatever was said of those that wait
pub emptied_waiting : (rules : Rules) (P Q R S : List Step → Peer → Type 0) (old middle new : Hall) (steps : List Step) → middle.waiting.items ≡ [] → new.waiting.items ≡ [] → new.served.items ≡ middle.served.items → new.time ≡ middle.time → new.share ≡ middle.share → new.opened ≡ middle.opened
    → LeadsOn rules P Q R S old middle steps → LeadsOn rules P Q NoPeer S old new steps
emptied_waiting rules P Q R S old middle new steps was is serves time share opened leads before holds =
    let here = leads before holds in
    let there : Holds rules NoPeer S middle.time middle.share middle.opened [] middle.served.items (before ++ steps) = record {
      keeps = subst (λ (l : List Peer). Keeps rules middle.share middle.opened (times_among l middle.served.items) (length l + length middle.served.items) (before ++ steps)) was here.keeps;
      clock = here.clock;
      all_waiting = tt;
      all_served = here.all_served;
    } in
    holds_as rules NoPeer S middle.time middle.share middle.opened [] middle.served.items (before ++ steps) new time share opened is serves there

-- the same of those that were served
pub emptied_served : (rules : Rules) (P Q R S : List Step → Peer → Type 0) (old middle new : Hall) (steps : List Step) → middle.served.items ≡ [] → new.served.items ≡ [] → new.waiting.items ≡ middle.waiting.items → new.time ≡ middle.time → new.share ≡ middle.share → new.opened ≡ middle.opened
    → LeadsOn rules P Q R S old middle steps → LeadsOn rules P Q R NoPeer old new steps
emptied_served rules P Q R S old middle new steps was is waits time share opened leads before holds =
    let here = leads before holds in
    let there : Holds rules R NoPeer middle.time middle.share middle.opened middle.waiting.items [] (before ++ steps) = record {
      keeps = subst (λ (l : List Peer). Keeps rules middle.share middle.opened (times_among middle.waiting.items l) (length middle.waiting.items + length l) (before ++ steps)) was here.keeps;
      clock = here.clock;
      all_waiting = here.all_waiting;
      all_served = tt;
    } in
    holds_as rules R NoPeer middle.time middle.share middle.opened middle.waiting.items [] (before ++ steps) new time share opened waits is there

-- the two lists changed places
swapped : (rules : Rules) (P : List Step → Peer → Type 0) (now share count : ℕ) (peers : List Peer) (steps : List Step) → Holds rules NoPeer P now share count [] peers steps → Holds rules P NoPeer now share count peers [] steps
swapped rules P now share count peers steps holds = record {
  keeps = keeps_as rules share count (times_among [] peers) (times_among peers []) (0 + length peers) (length peers + 0) steps (λ id. omega arith) (omega arith) holds.keeps;
  clock = holds.clock;
  all_waiting = holds.all_served;
  all_served = tt;
}

pub leads_swapped : (rules : Rules) (P Q R : List Step → Peer → Type 0) (old middle new : Hall) (steps : List Step) → middle.waiting.items ≡ [] → new.served.items ≡ [] → new.waiting.items ≡ middle.served.items → new.time ≡ middle.time → new.share ≡ middle.share → new.opened ≡ middle.opened
    → LeadsOn rules P Q NoPeer R old middle steps → LeadsOn rules P Q R NoPeer old new steps
leads_swapped rules P Q R old middle new steps was is serves time share opened leads before holds =
    let here : Holds rules NoPeer R middle.time middle.share middle.opened [] middle.served.items (before ++ steps) =
    holds_of rules NoPeer R middle.time middle.share [] middle.served.items (before ++ steps) middle refl refl was refl (leads before holds) in
    holds_as rules R NoPeer middle.time middle.share middle.opened middle.served.items [] (before ++ steps) new time share opened serves is
    (swapped rules R middle.time middle.share middle.opened middle.served.items (before ++ steps) here)

-- the share was made larger
pub leads_sharing : (rules : Rules) (P Q : List Step → Peer → Type 0) (old new : Hall) → old.share ≤ new.share → new.waiting.items ≡ old.waiting.items → new.served.items ≡ old.served.items → new.time ≡ old.time → new.opened ≡ old.opened → LeadsOn rules P Q P Q old new []
leads_sharing rules P Q old new more waits serves time opened before holds =
    let larger : Holds rules P Q old.time new.share old.opened old.waiting.items old.served.items before = record {
      keeps = keeps_more rules old.share new.share old.opened (times_among old.waiting.items old.served.items) (length old.waiting.items + length old.served.items) before more holds.keeps;
      clock = holds.clock;
      all_waiting = holds.all_waiting;
      all_served = holds.all_served;
    } in
    subst (Holds rules P Q new.time new.share new.opened new.waiting.items new.served.items) (sym (append-nil before))
    (holds_as rules P Q old.time new.share old.opened old.waiting.items old.served.items before new time refl opened waits serves larger)

-- ---- one comes

-- nobody came
pub leads_nobody : (rules : Rules) (now : ℕ) (hall : Hall) → now ≡ hall.time → LeadsOn rules (Unheard now) NoPeer (Unheard now) NoPeer hall hall (Happens NoneOpened ∷ [])
leads_nobody rules now hall same before holds =
    let start : Holds rules (Unheard now) NoPeer now hall.share hall.opened hall.waiting.items hall.served.items before =
    subst (λ (n : ℕ). Holds rules (Unheard now) NoPeer n hall.share hall.opened hall.waiting.items hall.served.items before) (sym same) holds in
    subst (λ (n : ℕ). Holds rules (Unheard now) NoPeer n hall.share hall.opened hall.waiting.items hall.served.items (before ++ Happens NoneOpened ∷ [])) same (none_comes rules now hall.share hall.opened hall.waiting.items hall.served.items before start)

-- a connection came
pub leads_coming : (rules : Rules) (now : ℕ) (old new : Hall) (peer : Peer) → now ≡ old.time → length old.waiting.items + length old.served.items < rules.seats → ((total : ℕ) → rules.total ≡ Some total → old.opened < total) → IsNew old.opened old.time peer
    → new.waiting.items ≡ old.waiting.items ++ peer ∷ [] → new.served.items ≡ old.served.items → new.time ≡ old.time → new.share ≡ old.share → new.opened ≡ old.opened + 1 → LeadsOn rules (Unheard now) NoPeer (Unheard now) NoPeer old new (Happens (Opened old.opened) ∷ [])
leads_coming rules now old new peer same seats wanted is_new waits serves time shared opened before holds =
    let start : Holds rules (Unheard now) NoPeer now old.share old.opened old.waiting.items old.served.items before =
    subst (λ (n : ℕ). Holds rules (Unheard now) NoPeer n old.share old.opened old.waiting.items old.served.items before) (sym same) holds in
    let came : Holds rules (Unheard now) NoPeer now old.share (old.opened + 1) (old.waiting.items ++ peer ∷ []) old.served.items (before ++ Happens (Opened old.opened) ∷ []) =
    one_comes rules now old.share old.opened old.waiting.items old.served.items peer before start seats wanted (subst (λ (n : ℕ). IsNew old.opened n peer) (sym same) is_new) in
    holds_as rules (Unheard now) NoPeer now old.share (old.opened + 1) (old.waiting.items ++ peer ∷ []) old.served.items (before ++ Happens (Opened old.opened) ∷ []) new (time ∙ sym same) shared opened waits serves came

-- or there was no memory for it
pub leads_failing : (rules : Rules) (now : ℕ) (old new : Hall) → now ≡ old.time → length old.waiting.items + length old.served.items < rules.seats → ((total : ℕ) → rules.total ≡ Some total → old.opened < total)
    → new.waiting.items ≡ old.waiting.items → new.served.items ≡ old.served.items → new.time ≡ old.time → new.share ≡ old.share → new.opened ≡ old.opened + 1
    → LeadsOn rules (Unheard now) NoPeer (Unheard now) NoPeer old new (Happens (Opened old.opened) ∷ Happens (Closed old.opened departures.Memory) ∷ [])
leads_failing rules now old new same seats wanted waits serves time shared opened before holds =
    let start : Holds rules (Unheard now) NoPeer now old.share old.opened old.waiting.items old.served.items before =
    subst (λ (n : ℕ). Holds rules (Unheard now) NoPeer n old.share old.opened old.waiting.items old.served.items before) (sym same) holds in
    let more : List Step = Happens (Opened old.opened) ∷ Happens (Closed old.opened departures.Memory) ∷ [] in
    let left : Holds rules (Unheard now) NoPeer now old.share (old.opened + 1) old.waiting.items old.served.items (before ++ more) =
    one_fails rules now old.share old.opened old.waiting.items old.served.items before start seats wanted in
    holds_as rules (Unheard now) NoPeer now old.share (old.opened + 1) old.waiting.items old.served.items (before ++ more) new (time ∙ sym same) shared opened waits serves left

-- the clock was read
pub leads_timed : (rules : Rules) (now : ℕ) (old new : Hall) → now ≡ old.time → new.waiting.items ≡ old.waiting.items → new.served.items ≡ old.served.items → new.share ≡ old.share → new.opened ≡ old.opened
    → LeadsOn rules (Unheard now) NoPeer (Unheard new.time) NoPeer old new (Happens (Timed new.time) ∷ [])
leads_timed rules now old new same waits serves shared opened before holds =
    let start : Holds rules (Unheard now) NoPeer now old.share old.opened old.waiting.items old.served.items before =
    subst (λ (n : ℕ). Holds rules (Unheard now) NoPeer n old.share old.opened old.waiting.items old.served.items before) (sym same) holds in
    holds_as rules (Unheard new.time) NoPeer new.time old.share old.opened old.waiting.items old.served.items (before ++ Happens (Timed new.time) ∷ []) new refl shared opened waits serves
    (read_clock rules now new.time old.share old.opened old.waiting.items old.served.items before start)

-- ---- those that waited were accepted

enough_more : (wanted : Option ℕ) (one other : ℕ) → one ≤ other → HasEnough wanted one → HasEnough wanted other
enough_more None one other few is = omega (arith, few, is)
enough_more (Some total) one other few is = omega (arith, few, is)

opened_grow : (steps more : List Step) → length (opened steps) ≤ length (opened (steps ++ more))
opened_grow steps more = omega (arith, ap length (gathered opened_by steps more), length-append (opened steps) (opened more))

taken_more : (seats : ℕ) (steps turn more : List Step) → WereTaken seats steps turn → WereTaken seats (steps ++ more) (turn ++ more)
taken_more seats steps turn more were = record {
  early = were.early;
  first = were.first;
  late = were.late ++ more;
  parts = ap (λ (l : List Step). l ++ more) were.parts ∙ append_assoc were.early were.late more;
  within = ap (λ (l : List Step). l ++ more) were.within ∙ append_assoc were.first were.late more;
  taken = were.taken;
}

admitted_more : (rules : Rules) (steps turn more : List Step) → HasAdmitted rules steps turn → HasAdmitted rules (steps ++ more) (turn ++ more)
admitted_more rules steps turn more (inl nobody) = inl (happened_then NoneOpened turn more nobody)
admitted_more rules steps turn more (inr (inl were)) = inr (inl (taken_more rules.seats steps turn more were))
admitted_more rules steps turn more (inr (inr enough)) = inr (inr (enough_more rules.total (length (opened steps)) (length (opened (steps ++ more))) (opened_grow steps more) enough))

begun_more : (rules : Rules) (steps more : List Step) → AllByRecursion IsCalm more → HasBegun rules steps (turn_of steps) → HasBegun rules (steps ++ more) (turn_of (steps ++ more))
begun_more rules steps more still begun =
    subst (HasBegun rules (steps ++ more)) (sym (turn_more steps more still))
    (record { time = begun.time; timed = happened_then (Timed begun.time) (turn_of steps) more begun.timed; admitted = admitted_more rules steps (turn_of steps) more begun.admitted })

pub leads_in_turn : (rules : Rules) (K : Step → Type 0) (P Q R S T U : List Step → Peer → Type 0) (old middle new : Hall) (first later : List Step) → LeadsInTurn rules K P Q R S old middle first → LeadsInTurn rules K R S T U middle new later
    → LeadsInTurn rules K P Q T U old new (first ++ later)
leads_in_turn rules K P Q R S T U old middle new first later one other =
    (leads_both rules P Q R S T U old middle new first later one.0 other.0, all_both IsCalm first later one.1 other.1, all_both K first later one.2 other.2)

pub calm_nobody : AllByRecursion IsCalm (Happens NoneOpened ∷ [])
calm_nobody = none_calm

pub calm_opened : (id : ℕ) → AllByRecursion IsCalm (Happens (Opened id) ∷ [])
calm_opened id = (opened_calm id, tt)

pub calm_failed : (id : ℕ) → AllByRecursion IsCalm (Happens (Opened id) ∷ Happens (Closed id departures.Memory) ∷ [])
calm_failed id = (opened_calm id, (closed_calm id departures.Memory, tt))

-- nobody waits any more
pub admits_nobody : (rules : Rules) (old new : Hall) (first : List Step) → new.time ≡ old.time → LeadsInTurn rules IsHearing (Unheard old.time) NoPeer (Unheard old.time) NoPeer old new first → Admits rules old new (first ++ Happens NoneOpened ∷ [])
admits_nobody rules old new first same so =
    let step : List Step = Happens NoneOpened ∷ [] in
    let all = leads_in_turn rules IsHearing (Unheard old.time) NoPeer (Unheard old.time) NoPeer (Unheard old.time) NoPeer old new new first step so (leads_nobody rules old.time new (sym same), none_calm, (tt, tt)) in
    record {
      leads = all.0;
      calm = all.1;
      hearing = all.2;
      admitted = λ before holds. inl (subst (λ (l : List Step). Happened NoneOpened (turn_of l)) (append_assoc before first step)
          (subst (Happened NoneOpened) (sym (turn_more (before ++ first) step none_calm)) (happened_here NoneOpened (turn_of (before ++ first)))));
    }

-- or there is no seat, or enough came
pub admits_enough : (rules : Rules) (old new : Hall) (steps : List Step) → LeadsInTurn rules IsHearing (Unheard old.time) NoPeer (Unheard old.time) NoPeer old new steps → (rules.seats ≤ length new.waiting.items) ⊎ HasEnough rules.total new.opened → Admits rules old new steps
admits_enough rules old new steps so why = record {
  leads = so.0;
  calm = so.1;
  hearing = so.2;
  admitted = λ before holds. elim why [
    | inl full ↦ inr (inl (record {
      early = before ++ steps;
      first = turn_of (before ++ steps);
      late = [];
      parts = sym (append-nil (before ++ steps));
      within = sym (append-nil (turn_of (before ++ steps)));
      taken = omega (arith, holds.keeps.taken, full);
    }))
    | inr enough ↦ inr (inr (subst (HasEnough rules.total) (sym (ap length holds.keeps.numbered ∙ numbers_size new.opened)) enough))
  ];
}

-- ---- how long may be waited

less_patient : (idle now limit less : ℕ) (peers : List Peer) → less ≤ limit → AllByRecursion (IsPatient idle now limit) peers → AllByRecursion (IsPatient idle now less) peers
less_patient idle now limit less peers few all =
    all_as (IsPatient idle now limit) (IsPatient idle now less) peers (λ peer it. record { hungry = λ is. omega (arith, few, it.hungry is); prompt = omega (arith, few, it.prompt) }) all

pub patient_more : (idle now limit less one : ℕ) (peers : List Peer) (index : ℕ) (peer : Peer) → index < length peers → peer ≡ get_or peers index peer → AllByRecursion (IsPatient idle now limit) (take index peers) → less ≤ limit → less ≤ one
    → (is_hungry peer ≡ true → one ≡ 0) → one ≤ idle - (now - peer.active) → AllByRecursion (IsPatient idle now less) (take (index + 1) peers)
patient_more idle now limit less one peers index peer below is all few too hungry prompt =
    let its : IsPatient idle now less peer = record { hungry = λ h. omega (arith, too, hungry h); prompt = omega (arith, too, prompt) } in
    subst (AllByRecursion (IsPatient idle now less)) (sym (take_more peers index peer below ∙ ap (λ (p : Peer). take index peers ++ p ∷ []) (sym is)))
    (all_both (IsPatient idle now less) (take index peers) (peer ∷ []) (less_patient idle now limit less (take index peers) few all) (its, tt))

-- ---- a whole turn

pub no_peer : {P : Type 0} (steps : List Step) (peer : Peer) → NoPeer steps peer → P
no_peer steps peer none = absurd none

-- what a turn led to so far
pub record Began (rules : Rules) (R S : List Step → Peer → Type 0) (old new : Hall) (steps : List Step) : Type 0 where
  pub leads : LeadsOn rules (Unheard old.time) NoPeer R S (fresh old) new steps
  pub begins : (before : List Step) → Begins rules old before → HasBegun rules (before ++ steps) (turn_of (before ++ steps))

began_on : (rules : Rules) (R S T U : List Step → Peer → Type 0) (old middle new : Hall) (first later : List Step) → Began rules R S old middle first → LeadsOn rules R S T U middle new later → AllByRecursion IsCalm later → Began rules T U old new (first ++ later)
began_on rules R S T U old middle new first later began leads still = record {
  leads = leads_both rules (Unheard old.time) NoPeer R S T U (fresh old) middle new first later began.leads leads;
  begins = λ before holds. subst (λ (l : List Step). HasBegun rules l (turn_of l)) (append_assoc before first later) (begun_more rules (before ++ first) later still (began.begins before holds));
}

-- the clock was read, and those that waited were accepted
began_by : (rules : Rules) (old one two : Hall) (later : List Step) → LeadsOn rules (Unheard old.time) NoPeer (Unheard one.time) NoPeer (fresh old) one (Happens (Timed one.time) ∷ []) → Admits rules one two later
    → Began rules (Unheard one.time) NoPeer old two (Happens (Timed one.time) ∷ later)
began_by rules old one two later timed admits =
    let step : List Step = Happens (Timed one.time) ∷ [] in
    record {
      leads = leads_both rules (Unheard old.time) NoPeer (Unheard one.time) NoPeer (Unheard one.time) NoPeer (fresh old) one two step later timed admits.leads;
      begins = λ before holds.
          let there = admits.leads (before ++ step) (timed before holds) in
          let so_far : Happened (Timed one.time) (turn_of (before ++ step)) = subst (Happened (Timed one.time)) (sym (turn_timed before one.time)) (happened_here (Timed one.time) (turn_of before)) in
          let now : Happened (Timed one.time) (turn_of ((before ++ step) ++ later)) =
          subst (Happened (Timed one.time)) (sym (turn_more (before ++ step) later admits.calm)) (happened_then (Timed one.time) (turn_of (before ++ step)) later so_far) in
          subst (λ (l : List Step). HasBegun rules l (turn_of l)) (append_assoc before step later)
          (record { time = one.time; timed = now; admitted = admits.admitted (before ++ step) there });
    }

-- these steps end no turn
abbrev pub StaysInTurn : List Step → Type 0
StaysInTurn steps = (before : List Step) → turn_of (before ++ steps) ≡ turn_of before ++ steps

stays_both : (first later : List Step) → StaysInTurn first → StaysInTurn later → StaysInTurn (first ++ later)
stays_both first later one other before =
    ap turn_of (sym (append_assoc before first later)) ∙ (other (before ++ first) ∙ (ap (λ (l : List Step). l ++ later) (one before) ∙ append_assoc (turn_of before) first later))

-- what each connection has was looked at
pub record HasLooked (rules : Rules) (now : ℕ) (old new : Hall) (steps : List Step) : Type 0 where
  pub began : Began rules (Looked now) NoPeer old new steps
  pub stays : StaysInTurn steps
  pub hearing : AllByRecursion IsHearing steps
  pub none : NoneHandled steps

-- the same, but for the last
record LooksSo (rules : Rules) (P : List Step → Peer → Type 0) (old new : Hall) (steps : List Step) : Type 0 where
  began : Began rules P NoPeer old new steps
  stays : StaysInTurn steps
  hearing : AllByRecursion IsHearing steps

looks_first : (rules : Rules) (old one two : Hall) (first later : List Step) → LeadsOn rules (Unheard old.time) NoPeer (Unheard one.time) NoPeer (fresh old) one (Happens (Timed one.time) ∷ []) → first ≡ Happens (Timed one.time) ∷ [] → Admits rules one two later
    → LooksSo rules (Unheard one.time) old two (first ++ later)
looks_first rules old one two first later timed is admits =
    let step : List Step = Happens (Timed one.time) ∷ [] in
    subst (λ (l : List Step). LooksSo rules (Unheard one.time) old two (l ++ later)) (sym is) (record {
      began = began_by rules old one two later timed admits;
      stays = stays_both step later (λ before. turn_timed before one.time) (λ before. turn_more before later admits.calm);
      hearing = (tt, admits.hearing);
    })

looks_then : (rules : Rules) (now : ℕ) (old two three : Hall) (first later : List Step) → LooksSo rules (Unheard now) old two first → LeadsInTurn rules IsHearing (Unheard now) NoPeer (Looked now) NoPeer two three later → LooksSo rules (Looked now) old three (first ++ later)
looks_then rules now old two three first later so more = record {
  began = began_on rules (Unheard now) NoPeer (Looked now) NoPeer old two three first later so.began more.0 more.1;
  stays = stays_both first later so.stays (λ before. turn_more before later more.1);
  hearing = all_both IsHearing first later so.hearing more.2;
}

-- events handle nothing
none_in_events : (events : List Event) → NoneHandled (map Happens events)
none_in_events [] id = refl
none_in_events (event ∷ events) id = none_in_events events id

pub looked_turn : {C : Type 0} (does : C → Event → C → Type 0) (rules : Rules) (old one two three : Hall) (c c1 c2 c3 : C)
    → Moves does c c1 (λ (steps : List Step). steps ≡ Happens (Timed one.time) ∷ []) → LeadsOn rules (Unheard old.time) NoPeer (Unheard one.time) NoPeer (fresh old) one (Happens (Timed one.time) ∷ [])
    → Moves does c1 c2 (Admits rules one two) → Moves does c2 c3 (LeadsInTurn rules IsHearing (Unheard two.time) NoPeer (Looked two.time) NoPeer two three) → two.time ≡ one.time → Moves does c c3 (HasLooked rules one.time old three)
looked_turn does rules old one two three c c1 c2 c3 read timed admitted looked second =
    let now : ℕ = one.time in
    let looking : Moves does c2 c3 (LeadsInTurn rules IsHearing (Unheard now) NoPeer (Looked now) NoPeer two three) =
    subst (λ (n : ℕ). Moves does c2 c3 (LeadsInTurn rules IsHearing (Unheard n) NoPeer (Looked n) NoPeer two three)) second looked in
    let all : Moves does c c3 (LooksSo rules (Looked now) old three) =
    moves_both does c c2 c3 (LooksSo rules (Unheard now) old two) (LeadsInTurn rules IsHearing (Unheard now) NoPeer (Looked now) NoPeer two three) (LooksSo rules (Looked now) old three) (looks_then rules now old two three)
    (moves_both does c c1 c2 (λ (steps : List Step). steps ≡ Happens (Timed now) ∷ []) (Admits rules one two) (LooksSo rules (Unheard now) old two) (λ first later is admits. looks_first rules old one two first later timed is admits) read admitted) looking in
    record { events = all.events; done = all.done; holds = record { began = all.holds.began; stays = all.holds.stays; hearing = all.holds.hearing; none = none_in_events all.events } }

-- each connection was heard, and nothing was written
pub record HasHeard (rules : Rules) (now : ℕ) (old new : Hall) (steps : List Step) : Type 0 where
  pub began : Began rules NoPeer (Heard new.share now) old new steps
  pub hearing : AllByRecursion IsHearing steps
  pub dealt : (before : List Step) → Begins rules old before → turn_of before ≡ [] → Dealt new.share new.opened (before ++ steps) (turn_of (before ++ steps))

-- frames were handled of one connection, which had bytes
handled_own : (who id : ℕ) (more : List Step) → AllByRecursion (IsTraffic who) more → (who ≡ id → ⊥) → handled id more ≡ []
handled_own who id more own other = handled_elsewhere id more (all_elsewhere who id more own other)

pub grants_one : (now share : ℕ) (rest later : List Peer) (old new : Peer) (more : List Step) → Hears now share old new more → (id : ℕ) → 0 < length (handled id more) → 0 < had_in id (rest ++ old ∷ later)
grants_one now share rest later old new more hears id some = elim (eqb_tells old.id id) [
  | inl same ↦
      let here : 0 < length (handled old.id more) = subst (λ (i : ℕ). 0 < length (handled i more)) (sym same.1) some in
      subst (λ (i : ℕ). 0 < had_in i (rest ++ old ∷ later)) same.1 (had_there rest later old (hears.had (omega (arith, here, hears.turns.handles))))
  | inr other ↦ absurd (omega (arith, some, ap length (handled_own old.id id more hears.goes.own other.1)))
]

pub grants_both : (had : ℕ → ℕ) (first later : List Step) → Grants had first → Grants had later → Grants had (first ++ later)
grants_both had first later one other id some = elim (cases_zero (length (handled id first))) [
  | inr here ↦ one id here
  | inl none ↦ other id (omega (arith, some, none, ap length (gathered (handled_in id) first later), length-append (handled id first) (handled id later)))
]

-- the hall between looking and hearing: its share is by those that have bytes
pub record Shares (old new : Hall) : Type 0 where
  pub fair : new.share ≡ share_of (having new.waiting.items)
  pub more : old.share ≤ new.share
  pub waits : new.waiting.items ≡ old.waiting.items
  pub serves : new.served.items ≡ old.served.items
  pub time : new.time ≡ old.time
  pub opened : new.opened ≡ old.opened
  pub whole : AllByRecursion IsWhole new.waiting.items

-- what was dealt, behind what was heard
dealt_heard : (rules : Rules) (now : ℕ) (looked three four : Hall) (before first later : List Step) → looked.time ≡ now → Shares looked three → four.share ≡ three.share → four.opened ≡ three.opened
    → Holds rules (Looked now) NoPeer looked.time looked.share looked.opened looked.waiting.items looked.served.items (before ++ first) → turn_of (before ++ first) ≡ first → NoneHandled first → AllByRecursion IsCalm later → Grants (λ id. had_in id three.waiting.items) later
    → Dealt four.share four.opened (before ++ (first ++ later)) (turn_of (before ++ (first ++ later)))
dealt_heard rules now looked three four before first later time shares shared count_is holds turn none still grants =
    let waiting : List Peer = looked.waiting.items in
    let had : ℕ → ℕ = λ id. had_in id waiting in
    let share : ℕ = share_of (having waiting) in
    let all : List Step = (before ++ first) ++ later in
    let whole : AllByRecursion IsWhole waiting = subst (AllByRecursion IsWhole) shares.waits shares.whole in
    let start : DealtBy had share looked.opened (before ++ first) first = dealt_first rules now looked.share looked.opened waiting looked.served.items (before ++ first) first
    (subst (λ (n : ℕ). Holds rules (Looked now) NoPeer n looked.share looked.opened waiting looked.served.items (before ++ first)) time holds) whole none in
    let further : DealtBy had share looked.opened all (first ++ later) = dealt_on had share looked.opened (before ++ first) first later start (subst (λ (l : List Peer). Grants (λ id. had_in id l) later) shares.waits grants) in
    let is_share : share ≡ four.share = sym (shared ∙ (shares.fair ∙ ap (λ (l : List Peer). share_of (having l)) shares.waits)) in
    let in_turn : first ++ later ≡ turn_of all = sym (turn_more (before ++ first) later still ∙ ap (λ (l : List Step). l ++ later) turn) in
    subst (λ (l : List Step). Dealt four.share four.opened l (turn_of l)) (append_assoc before first later) (
      had,
      subst (λ (s : ℕ). DealtBy had s four.opened all (turn_of all)) is_share
          (subst (λ (n : ℕ). DealtBy had share n all (turn_of all)) (sym (count_is ∙ shares.opened)) (subst (λ (t : List Step). DealtBy had share looked.opened all t) in_turn further)),
    )

heard_then : (rules : Rules) (now : ℕ) (old looked three four : Hall) (first later : List Step) → looked.time ≡ now → Shares looked three → four.share ≡ three.share → four.opened ≡ three.opened → HasLooked rules now old looked first
    → HearsEach rules (Heard four.share now) NoPeer three four later → three.time ≡ now → HasHeard rules now old four (first ++ later)
heard_then rules now old looked three four first later time shares shared opened so each also =
    let share : ℕ = four.share in
    let sharing : LeadsOn rules (Looked now) NoPeer (Looked now) NoPeer looked three [] = leads_sharing rules (Looked now) NoPeer looked three shares.more shares.waits shares.serves shares.time shares.opened in
    let widened : Began rules (Looked now) NoPeer old three first = subst (Began rules (Looked now) NoPeer old three) (append-nil first) (began_on rules (Looked now) NoPeer (Looked now) NoPeer old looked three first [] so.began sharing tt) in
    let leads : LeadsInTurn rules IsHearing (Looked now) (Heard share now) NoPeer (Heard share now) three four later = subst (λ (n : ℕ). LeadsInTurn rules IsHearing (Looked n) (Heard share now) NoPeer (Heard share now) three four later) also each.0 in
    record {
      began = began_on rules (Looked now) NoPeer NoPeer (Heard share now) old three four first later widened
          (leads_as rules (Looked now) (Heard share now) NoPeer (Heard share now) (Looked now) NoPeer NoPeer (Heard share now) three four later (λ before peer it. it) (λ before peer it. no_peer before peer it) (λ before peer it. it) (λ before peer it. it) leads.0) leads.1;
      hearing = all_both IsHearing first later so.hearing leads.2;
      dealt = λ before holds none. dealt_heard rules now looked three four before first later time shares shared opened (so.began.leads before holds) (so.stays before ∙ ap (λ (l : List Step). l ++ first) none) so.none leads.1 each.1;
    }

pub heard_turn : {C H : Type 0} (does : C → Event → C → Type 0) (handles : H → Frame → Reply → H → Type 0) (settles : H → Bool → H → Type 0) (rules : Rules) (now : ℕ) (old looked three four : Hall) (c c1 c2 : C) (h h1 : H)
    → looked.time ≡ now → Shares looked three → four.share ≡ three.share → four.opened ≡ three.opened
    → Moves does c c1 (HasLooked rules now old looked) → Goes does handles settles c1 h c2 h1 (HearsEach rules (Heard three.share three.time) NoPeer three four)
    → Goes does handles settles c h c2 h1 (HasHeard rules now old four)
heard_turn does handles settles rules now old looked three four c c1 c2 h h1 time shares shared opened looks heard =
    let also : three.time ≡ now = shares.time ∙ time in
    let hearing : Goes does handles settles c1 h c2 h1 (HearsEach rules (Heard four.share now) NoPeer three four) =
    subst (λ (s : ℕ). Goes does handles settles c1 h c2 h1 (HearsEach rules (Heard s now) NoPeer three four)) (sym shared)
    (subst (λ (n : ℕ). Goes does handles settles c1 h c2 h1 (HearsEach rules (Heard three.share n) NoPeer three four)) also heard) in
    goes_both does handles settles c c1 c2 h h h1 (HasLooked rules now old looked) (HearsEach rules (Heard four.share now) NoPeer three four) (HasHeard rules now old four)
    (λ first later so each. heard_then rules now old looked three four first later time shares shared opened so each also) (goes_moving does handles settles c c1 h (HasLooked rules now old looked) looks) hearing

-- ---- the handler settles

settling_calm : (done : Bool) → AllByRecursion IsCalm (Settles done ∷ [])
settling_calm done = (record { turn = λ turn. refl; clock = λ now. refl }, tt)

settle_heard : (rules : Rules) (now share count : ℕ) (waiting served : List Peer) (done : Bool) (steps : List Step) → Holds rules NoPeer (Heard share now) now share count waiting served steps → Holds rules NoPeer (Heard share now) now share count waiting served (steps ++ Settles done ∷ [])
settle_heard rules now share count waiting served done steps holds = record {
  keeps = keeps_settled rules share count (times_among waiting served) (length waiting + length served) done steps holds.keeps;
  clock = clock_more steps (Settles done ∷ []) (settling_calm done) ∙ holds.clock;
  all_waiting = holds.all_waiting;
  all_served = all_as (Heard share now steps) (Heard share now (steps ++ Settles done ∷ [])) served (λ peer it. heard_elsewhere share now steps (Settles done ∷ []) peer (settling_elsewhere peer.id done, tt) (settling_calm done) it) holds.all_served;
}

leads_settling : (rules : Rules) (now : ℕ) (hall : Hall) (done : Bool) → now ≡ hall.time → LeadsOn rules NoPeer (Heard hall.share now) NoPeer (Heard hall.share now) hall hall (Settles done ∷ [])
leads_settling rules now hall done same before holds =
    let start : Holds rules NoPeer (Heard hall.share now) now hall.share hall.opened hall.waiting.items hall.served.items before =
    subst (λ (n : ℕ). Holds rules NoPeer (Heard hall.share now) n hall.share hall.opened hall.waiting.items hall.served.items before) (sym same) holds in
    subst (λ (n : ℕ). Holds rules NoPeer (Heard hall.share now) n hall.share hall.opened hall.waiting.items hall.served.items (before ++ Settles done ∷ [])) same (settle_heard rules now hall.share hall.opened hall.waiting.items hall.served.items done before start)

-- each connection was heard, and the handler was to settle
record HasAsked (rules : Rules) (done : Bool) (now : ℕ) (old new : Hall) (steps : List Step) : Type 0 where
  first : List Step
  parts : steps ≡ first ++ Settles done ∷ []
  hearing : AllByRecursion IsHearing first
  began : Began rules NoPeer (Heard new.share now) old new steps
  dealt : (before : List Step) → Begins rules old before → turn_of before ≡ [] → Dealt new.share new.opened (before ++ steps) (turn_of (before ++ steps))

-- nothing more was handled
dealt_later : (share count : ℕ) (before first later : List Step) → AllByRecursion IsCalm later → NoneHandled later → Dealt share count (before ++ first) (turn_of (before ++ first)) → Dealt share count (before ++ (first ++ later)) (turn_of (before ++ (first ++ later)))
dealt_later share count before first later still none dealt =
    subst (λ (l : List Step). Dealt share count l (turn_of l)) (append_assoc before first later)
    (subst (Dealt share count ((before ++ first) ++ later)) (sym (turn_more (before ++ first) later still)) (dealt_still share count (before ++ first) (turn_of (before ++ first)) later dealt none))

asked_then : (rules : Rules) (done : Bool) (now : ℕ) (old three : Hall) (first later : List Step) → three.time ≡ now → HasHeard rules now old three first → later ≡ Settles done ∷ [] → HasAsked rules done now old three (first ++ later)
asked_then rules done now old three first later last so is =
    let step : List Step = Settles done ∷ [] in
    subst (λ (l : List Step). HasAsked rules done now old three (first ++ l)) (sym is) (record {
      first = first;
      parts = refl;
      hearing = so.hearing;
      began = began_on rules NoPeer (Heard three.share now) NoPeer (Heard three.share now) old three three first step so.began (leads_settling rules now three done (sym last)) (settling_calm done);
      dealt = λ before holds none. dealt_later three.share three.opened before first step (settling_calm done) (λ id. refl) (so.dealt before holds none);
    })

asked_turn : {C H : Type 0} (does : C → Event → C → Type 0) (handles : H → Frame → Reply → H → Type 0) (settles : H → Bool → H → Type 0) (rules : Rules) (done : Bool) (now : ℕ) (old three : Hall) (c c3 : C) (h h1 h2 : H)
    → three.time ≡ now → Goes does handles settles c h c3 h1 (HasHeard rules now old three) → settles h1 done h2 → Goes does handles settles c h c3 h2 (HasAsked rules done now old three)
asked_turn does handles settles rules done now old three c c3 h h1 h2 last heard settled =
    goes_both does handles settles c c3 c3 h h1 h2 (HasHeard rules now old three) (λ (steps : List Step). steps ≡ Settles done ∷ []) (HasAsked rules done now old three)
    (λ first later so is. asked_then rules done now old three first later last so is)
    heard (goes_settling does handles settles c3 h1 h2 done (λ (steps : List Step). steps ≡ Settles done ∷ []) settled refl)

-- what was written handles nothing
none_writing : (steps : List Step) → AllByRecursion IsWriting steps → NoneHandled steps
none_writing [] all id = refl
none_writing (Happens event ∷ steps) all id = none_writing steps all.1 id
none_writing (Handles who frame reply ∷ steps) all id = absurd all.0
none_writing (Settles done ∷ steps) all id = absurd all.0

settled_then_written : (rules : Rules) (now : ℕ) (old three four : Hall) (first later : List Step) → three.time ≡ now → four.time ≡ three.time → four.share ≡ three.share → four.opened ≡ three.opened → HasAsked rules true now old three first
    → LeadsInTurn rules IsWriting (Served three.share rules.idle now) (Heard three.share now) (Served three.share rules.idle now) NoPeer three four later → TakesTurn rules old four (first ++ later)
settled_then_written rules now old three four first later last fourth shared count_is so more =
    let P : List Step → Peer → Type 0 = Served three.share rules.idle now in
    let all : Began rules P NoPeer old four (first ++ later) =
    began_on rules NoPeer (Heard three.share now) P NoPeer old three four first later so.began
    (leads_as rules P (Heard three.share now) P NoPeer NoPeer (Heard three.share now) P NoPeer three four later (λ before peer it. no_peer before peer it) (λ before peer it. it) (λ before peer it. it) (λ before peer it. it) more.0) more.1 in
    let leads : LeadsOn rules (Unheard old.time) NoPeer (Served four.share rules.idle four.time) NoPeer (fresh old) four (first ++ later) =
    subst (λ (s : ℕ). LeadsOn rules (Unheard old.time) NoPeer (Served s rules.idle four.time) NoPeer (fresh old) four (first ++ later)) (sym shared)
    (subst (λ (n : ℕ). LeadsOn rules (Unheard old.time) NoPeer (Served three.share rules.idle n) NoPeer (fresh old) four (first ++ later)) (sym (fourth ∙ last)) all.leads) in
    record {
      leads = leads;
      begins = all.begins;
      shares = λ before holds none.
          let there = leads before holds in
          let dealt : Dealt three.share three.opened (before ++ (first ++ later)) (turn_of (before ++ (first ++ later))) = dealt_later three.share three.opened before first later more.1 (none_writing later more.2) (so.dealt before holds none) in
          let count : three.opened ≡ length (opened (before ++ (first ++ later))) = sym count_is ∙ sym (ap length there.keeps.numbered ∙ numbers_size four.opened) in
          subst (λ (s : ℕ). IsShare s (before ++ (first ++ later)) (turn_of (before ++ (first ++ later)))) (sym shared) (share_dealt three.share three.opened (before ++ (first ++ later)) (turn_of (before ++ (first ++ later))) count dealt);
      settles = record { first = so.first; later = later; parts = ap (λ (l : List Step). l ++ later) so.parts ∙ append_assoc so.first (Settles true ∷ []) later; hearing = so.hearing; rest = more.2 };
    }

-- it settled, and what waited was written
pub settled_turn : {C H : Type 0} (does : C → Event → C → Type 0) (handles : H → Frame → Reply → H → Type 0) (settles : H → Bool → H → Type 0) (rules : Rules) (now : ℕ) (old three four : Hall) (c c3 c4 : C) (h h1 h2 : H)
    → three.time ≡ now → four.time ≡ three.time → four.share ≡ three.share → four.opened ≡ three.opened → Goes does handles settles c h c3 h1 (HasHeard rules now old three) → settles h1 true h2
    → Moves does c3 c4 (LeadsInTurn rules IsWriting (Served three.share rules.idle three.time) (Heard three.share three.time) (Served three.share rules.idle three.time) NoPeer three four)
    → Goes does handles settles c h c4 h2 (TakesTurn rules old four)
settled_turn does handles settles rules now old three four c c3 c4 h h1 h2 last fourth shared opened heard settled written =
    let reached : Moves does c3 c4 (LeadsInTurn rules IsWriting (Served three.share rules.idle now) (Heard three.share now) (Served three.share rules.idle now) NoPeer three four) =
    subst (λ (n : ℕ). Moves does c3 c4 (LeadsInTurn rules IsWriting (Served three.share rules.idle n) (Heard three.share n) (Served three.share rules.idle n) NoPeer three four)) last written in
    goes_both does handles settles c c3 c4 h h2 h2 (HasAsked rules true now old three) (LeadsInTurn rules IsWriting (Served three.share rules.idle now) (Heard three.share now) (Served three.share rules.idle now) NoPeer three four) (TakesTurn rules old four)
    (λ first later so more. settled_then_written rules now old three four first later last fourth shared opened so more)
    (asked_turn does handles settles rules true now old three c c3 h h1 h2 last heard settled)
    (goes_moving does handles settles c3 c4 h2 (LeadsInTurn rules IsWriting (Served three.share rules.idle now) (Heard three.share now) (Served three.share rules.idle now) NoPeer three four) reached)

-- it failed to, and all connections were closed
closed_all : (rules : Rules) (now opened : ℕ) (three : Hall) (served : List Peer) (steps later : List Step) → Holds rules NoPeer (Heard three.share now) three.time three.share three.opened three.waiting.items three.served.items steps → FailedToSettle steps
    → ClosesSome departures.Unsettled three.served.items served later → served ≡ [] → opened ≡ three.opened → Keeps rules three.share opened (λ (id : ℕ). 0) 0 (steps ++ later)
closed_all rules now opened three served steps later holds failed closes none same =
    let nobody = no_peers steps three.waiting.items holds.all_waiting in
    let here : Keeps rules three.share three.opened (λ id. times_in id three.served.items + 0) (length three.served.items + 0) steps =
    keeps_as rules three.share three.opened (times_among three.waiting.items three.served.items) (λ id. times_in id three.served.items + 0) (length three.waiting.items + length three.served.items) (length three.served.items + 0) steps
    (λ id. omega (arith, ap (times_in id) nobody)) (omega (arith, ap length nobody)) holds.keeps in
    let closed = closes.keeps rules three.share three.opened (λ id. 0) 0 steps failed here in
    let over : Keeps rules three.share three.opened (λ id. 0) 0 (steps ++ later) =
    keeps_as rules three.share three.opened (λ id. times_in id served + 0) (λ id. 0) (length served + 0) 0 (steps ++ later) (λ id. omega (arith, ap (times_in id) none)) (omega (arith, ap length none)) closed.1 in
    subst (λ (n : ℕ). Keeps rules three.share n (λ id. 0) 0 (steps ++ later)) (sym same) over

failed_in : (before steps first : List Step) → steps ≡ first ++ Settles false ∷ [] → FailedToSettle (before ++ steps)
failed_in before steps first is = settled_last false before steps (subst FailedToSettle (sym is) (settled_last false first (Settles false ∷ []) (inl refl)))

pub failed_turn : {C H : Type 0} (does : C → Event → C → Type 0) (handles : H → Frame → Reply → H → Type 0) (settles : H → Bool → H → Type 0) (rules : Rules) (now : ℕ) (old three four : Hall) (c c3 c4 : C) (h h1 h2 : H)
    → three.time ≡ now → four.served.items ≡ [] → four.opened ≡ three.opened → four.share ≡ three.share → Goes does handles settles c h c3 h1 (HasHeard rules now old three) → settles h1 false h2
    → Moves does c3 c4 (ClosesSome departures.Unsettled three.served.items four.served.items) → Goes does handles settles c h c4 h2 (GivesUp rules old four)
failed_turn does handles settles rules now old three four c c3 c4 h h1 h2 last none opened shared heard failed closed =
    goes_both does handles settles c c3 c4 h h2 h2 (HasAsked rules false now old three) (ClosesSome departures.Unsettled three.served.items four.served.items) (GivesUp rules old four)
    (λ first later so closes. record {
      keeps = λ before holds. subst (λ (s : ℕ). Keeps rules s four.opened (λ (id : ℕ). 0) 0 (before ++ (first ++ later))) (sym shared) (subst (Keeps rules three.share four.opened (λ (id : ℕ). 0) 0) (append_assoc before first later)
          (closed_all rules now four.opened three four.served.items (before ++ first) later (so.began.leads before holds) (failed_in before first so.first so.parts) closes none opened));
      settles = record { first = so.first; later = later; parts = ap (λ (l : List Step). l ++ later) so.parts ∙ append_assoc so.first (Settles false ∷ []) later; hearing = so.hearing; rest = closes.closing };
    })
    (asked_turn does handles settles rules false now old three c c3 h h1 h2 last heard failed)
    (goes_moving does handles settles c3 c4 h2 (ClosesSome departures.Unsettled three.served.items four.served.items) closed)

-- one connection is written to, and then closed
pub closing_moves : {C : Type 0} (does : C → Event → C → Type 0) (rules : Rules) (share now : ℕ) (start old new : Hall) (before_it it : Peer) (why : Departure) (rest : List Peer) (c c1 c2 c3 : C)
    → Moves does c c1 (LeadsInTurn rules IsWriting (Served share rules.idle now) (Heard share now) (Served share rules.idle now) (Heard share now) start old) → Moves does c1 c2 (λ (steps : List Step). Departs rules.idle now before_it it why steps × IsQuiet before_it.id steps)
    → does c2 (Closed before_it.id why) c3 → now ≡ old.time → share ≡ old.share → old.served.items ≡ rest ++ before_it ∷ [] → new.served.items ≡ rest → new.waiting.items ≡ old.waiting.items → new.time ≡ old.time → new.share ≡ old.share → new.opened ≡ old.opened
    → Moves does c c3 (LeadsInTurn rules IsWriting (Served share rules.idle now) (Heard share now) (Served share rules.idle now) (Heard share now) start new)
closing_moves does rules share now start old new before_it it why rest c c1 c2 c3 so_far wrote done same is was serves waits time shared opened =
    let P : List Step → Peer → Type 0 = Served share rules.idle now in
    let Q : List Step → Peer → Type 0 = Heard share now in
    moves_both does c c1 c3 (LeadsInTurn rules IsWriting P Q P Q start old) (LeadsInTurn rules IsWriting P Q P Q old new) (LeadsInTurn rules IsWriting P Q P Q start new)
    (λ first later one other. leads_in_turn rules IsWriting P Q P Q P Q start old new first later one other) so_far
    (moves_event does c1 c2 c3 (Closed before_it.id why) (λ (steps : List Step). Departs rules.idle now before_it it why steps × IsQuiet before_it.id steps) (LeadsInTurn rules IsWriting P Q P Q old new)
    (λ later both. (
      leads_closing rules share now old new before_it it why rest later same is was serves waits time shared opened both.0 both.1,
      all_both IsCalm later (Happens (Closed before_it.id why) ∷ []) (calm before_it.id later both.0.own) (closed_calm before_it.id why, tt),
      all_both IsWriting later (Happens (Closed before_it.id why) ∷ []) (writing before_it.id later both.0.own both.1.nothing_handled) (tt, tt),
    )) wrote done)

-- ---- the loop

-- at first
pub at_rest_none : (rules : Rules) (hall : Hall) → hall.time ≡ 0 → hall.opened ≡ 0 → hall.waiting.items ≡ [] → hall.served.items ≡ [] → IsAtRest rules hall []
at_rest_none rules hall time opened waits serves =
    let start : Holds rules (Served hall.share rules.idle hall.time) NoPeer 0 hall.share 0 [] [] [] = record {
      keeps = keeps_as rules hall.share 0 (λ (id : ℕ). 0) (times_among [] []) 0 (0 + 0) [] (λ id. omega arith) (omega arith) (keeps_start rules hall.share);
      clock = refl;
      all_waiting = tt;
      all_served = tt;
    } in
    holds_as rules (Served hall.share rules.idle hall.time) NoPeer 0 hall.share 0 [] [] [] hall time refl opened waits serves start

-- waiting failed
unwaited_calm : AllByRecursion IsCalm (Happens Unwaited ∷ [])
unwaited_calm = (record { turn = λ turn. refl; clock = λ now. refl }, tt)

unwaited_elsewhere : (id : ℕ) → Elsewhere id (Happens Unwaited)
unwaited_elsewhere id = record { reads = refl; writes = refl; handles = refl; times = λ times. refl }

pub rest_unwaited : (rules : Rules) (hall : Hall) (steps : List Step) → IsAtRest rules hall steps → IsAtRest rules hall (steps ++ Happens Unwaited ∷ [])
rest_unwaited rules hall steps rest = record {
  keeps = keeps_unwaited rules hall.share hall.opened (times_among hall.waiting.items hall.served.items) (length hall.waiting.items + length hall.served.items) steps rest.keeps;
  clock = clock_more steps (Happens Unwaited ∷ []) unwaited_calm ∙ rest.clock;
  all_waiting = all_as (Served hall.share rules.idle hall.time steps) (Served hall.share rules.idle hall.time (steps ++ Happens Unwaited ∷ [])) hall.waiting.items
      (λ peer it. served_elsewhere hall.share rules.idle hall.time steps (Happens Unwaited ∷ []) peer (unwaited_elsewhere peer.id, tt) unwaited_calm it) rest.all_waiting;
  all_served = rest.all_served;
}

waits_more : (steps more : List Step) → count_by is_wait steps ≤ count_by is_wait (steps ++ more)
waits_more steps more = omega (arith, sum_by-append (λ (s : Step). cond (is_wait s) 1 0) steps more)

pub one_wait : (steps more : List Step) (limit count : ℕ) → count ≤ count_by is_wait steps → count + 1 ≤ count_by is_wait (steps ++ Happens (Waited limit) ∷ more)
one_wait steps more limit count many =
    let step : List Step = Happens (Waited limit) ∷ [] in
    let one : count_by is_wait step ≡ 1 = refl in
    let with_one : count_by is_wait (steps ++ step) ≡ count_by is_wait steps + 1 = omega (arith, sum_by-append (λ (s : Step). cond (is_wait s) 1 0) steps step, one) in
    let all : count_by is_wait (steps ++ step) ≤ count_by is_wait ((steps ++ step) ++ more) = waits_more (steps ++ step) more in
    subst (λ (l : List Step). count + 1 ≤ count_by is_wait l) (append_assoc steps step more) (omega (arith, many, with_one, all))

-- all that is promised, where none is open any more
pub serves_all : (rules : Rules) (share count : ℕ) (result : Ending) (steps : List Step) → Keeps rules share count (λ (id : ℕ). 0) 0 steps → AtEach SettlesFirst [] steps → (result ≢ ways.Unsettled → AllSettled steps) → EndsBy rules.total result steps → ServesAll rules result steps
serves_all rules share count result steps keeps order settled ended = record {
  each = keeps.each;
  seated = keeps.seated;
  numbered = keeps.numbered ∙ ap numbers (sym (ap length keeps.numbered ∙ numbers_size count));
  fair = keeps.fair;
  settled = order;
  all_settled = settled;
  limited = keeps.limited;
  left = have_left rules share count steps keeps;
  ended = ended;
}

all_of : (wanted : Option ℕ) (count : ℕ) → ((total : ℕ) → wanted ≡ Some total → count ≤ total) → HasEnough wanted count → IsAll wanted count
all_of None count few enough = enough
all_of (Some total) count few enough = omega (arith, few total refl, enough)

pub ended_all : (rules : Rules) (hall : Hall) (steps : List Step) → IsAtRest rules hall steps → IsOrdered steps → hall.waiting.items ≡ [] → HasEnough rules.total hall.opened → ServesAll rules ways.All steps
ended_all rules hall steps rest so none enough =
    let keeps = none_open rules hall.time hall.share hall.opened hall.waiting.items hall.served.items steps rest none in
    serves_all rules hall.share hall.opened ways.All steps keeps so.order (λ other. so.settled) (hall.opened, are_all rules hall.share hall.opened steps keeps, all_of rules.total hall.opened keeps.wanted enough)

-- waiting failed, or there were 2^64 - 1 turns; and then every connection was closed
pub ended_stopped : (rules : Rules) (old new : Hall) (first later : List Step) → IsStopped first → IsAtRest rules old first → IsOrdered first → Stops rules old new later → ServesAll rules ways.Stopped (first ++ later)
ended_stopped rules old new first later stopped rest so stops =
    let both = stops.keeps first stopped rest in
    let ordered = ordered_on first later stops.writing so in
    serves_all rules new.share new.opened ways.Stopped (first ++ later) both.1 ordered.order (λ other. ordered.settled) both.0

pub ended_at_once : (rules : Rules) → ServesAll rules ways.Memory []
ended_at_once rules = serves_all rules 0 0 ways.Memory [] (keeps_start rules 0) ordered_none.order (λ other. ordered_none.settled) refl

-- the loop waited, and then every connection had its turn
pub record WaitsAndGoes (rules : Rules) (old new : Hall) (limit : ℕ) (steps : List Step) : Type 0 where
  pub more : List Step
  pub parts : steps ≡ Happens (Waited limit) ∷ more
  pub turn : TakesTurn rules old new more

-- between two turns, after at least `count` waits
pub record IsBetween (rules : Rules) (hall : Hall) (count : ℕ) (steps : List Step) : Type 0 where
  pub rest : IsAtRest rules hall steps
  pub begun : (steps ≡ []) ⊎ HasBegun rules steps (turn_of steps)
  pub is_share : IsShare hall.share steps (turn_of steps)
  pub many : count ≤ count_by is_wait steps
  pub ordered : IsOrdered steps
  pub once : IsOnce steps

pub turned : (rules : Rules) (old new : Hall) (limit count : ℕ) (first later : List Step) → IsBetween rules old count first → AllByRecursion (IsPatient rules.idle old.time limit) old.waiting.items → WaitsAndGoes rules old new limit later → IsBetween rules new (count + 1) (first ++ later)
turned rules old new limit count first later so patient waits =
    let step : List Step = Happens (Waited limit) ∷ [] in
    let waited = wait_over rules old.time old.share old.opened limit old.waiting.items old.served.items first so.rest patient so.begun so.is_share in
    let same : (first ++ step) ++ waits.more ≡ first ++ later = append_assoc first step waits.more ∙ ap (λ (l : List Step). first ++ l) (sym waits.parts) in
    record {
      rest = subst (Holds rules (Served new.share rules.idle new.time) NoPeer new.time new.share new.opened new.waiting.items new.served.items) same (waits.turn.leads (first ++ step) waited);
      begun = inr (subst (λ (l : List Step). HasBegun rules l (turn_of l)) same (waits.turn.begins (first ++ step) waited));
      is_share = subst (λ (l : List Step). IsShare new.share l (turn_of l)) same (waits.turn.shares (first ++ step) waited (turn_waited first limit));
      many = subst (λ (l : List Step). count + 1 ≤ count_by is_wait (first ++ l)) (sym waits.parts) (one_wait first waits.more limit count so.many);
      ordered = subst (λ (l : List Step). IsOrdered (first ++ l)) (sym waits.parts) (ordered_turn first waits.more limit so.ordered so.once waits.turn.settles);
      once = inr (subst (λ (l : List Step). SettledOnce (turn_of (first ++ l))) (sym waits.parts) (once_turn first waits.more limit waits.turn.settles));
    }

-- the loop waited, and then the handler failed to settle
pub record WaitsAndFails (rules : Rules) (old new : Hall) (limit : ℕ) (steps : List Step) : Type 0 where
  pub more : List Step
  pub parts : steps ≡ Happens (Waited limit) ∷ more
  pub turn : GivesUp rules old new more

pub unsettled : (rules : Rules) (old new : Hall) (limit count : ℕ) (first later : List Step) → IsBetween rules old count first → AllByRecursion (IsPatient rules.idle old.time limit) old.waiting.items → WaitsAndFails rules old new limit later → ServesAll rules ways.Unsettled (first ++ later)
unsettled rules old new limit count first later so patient fails =
    let step : List Step = Happens (Waited limit) ∷ [] in
    let waited = wait_over rules old.time old.share old.opened limit old.waiting.items old.served.items first so.rest patient so.begun so.is_share in
    let keeps : Keeps rules new.share new.opened (λ (id : ℕ). 0) 0 (first ++ Happens (Waited limit) ∷ fails.more) =
    subst (Keeps rules new.share new.opened (λ (id : ℕ). 0) 0) (append_assoc first step fails.more) (fails.turn.keeps (first ++ step) waited) in
    subst (λ (l : List Step). ServesAll rules ways.Unsettled (first ++ l)) (sym fails.parts)
    (serves_all rules new.share new.opened ways.Unsettled (first ++ Happens (Waited limit) ∷ fails.more) keeps (order_failed first fails.more limit so.ordered so.once fails.turn.settles) (λ other. absurd (other refl)) (failed_there first fails.more limit fails.turn.settles))

-- waiting failed, and then every connection was closed
pub record FailsAndStops (rules : Rules) (old new : Hall) (steps : List Step) : Type 0 where
  pub more : List Step
  pub parts : steps ≡ Happens Unwaited ∷ more
  pub stops : Stops rules old new more

pub failed : (rules : Rules) (old new : Hall) (first later : List Step) → IsAtRest rules old first → IsOrdered first → FailsAndStops rules old new later → ServesAll rules ways.Stopped (first ++ later)
failed rules old new first later rest so stops =
    let step : List Step = Happens Unwaited ∷ [] in
    let same : (first ++ step) ++ stops.more ≡ first ++ later = append_assoc first step stops.more ∙ ap (λ (l : List Step). first ++ l) (sym stops.parts) in
    subst (ServesAll rules ways.Stopped) same
    (ended_stopped rules old new (first ++ step) stops.more (inl (happened_here Unwaited first)) (rest_unwaited rules old first rest) (ordered_on first step (tt, tt) so) stops.stops)
