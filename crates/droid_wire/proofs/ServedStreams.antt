-- What the loop comes to on one stream, in the terms of `serve`.
use Rattle.std.proofs.Common.{◌≡◌, ℕ, zero, suc, ◌≤◌, Bool, cond, List, [], ◌∷◌, ◌++◌, length, fold, map, Option, Some, None, refl, sym, ap, subst, ◌∙◌, arith, append_assoc, inl, inr}
use Rattle.std.specs.Io.KnownBytes.{Appends, Consumes, IsAtEnd}
use Rattle.std.specs.List.{AllByRecursion, flat_map}
use Rattle.std.proofs.lemmas.Bool.{ne_eqb}
use Rattle.std.proofs.lemmas.List.{append-nil, length-map}
use Rattle.std.proofs.lemmas.List.Sums.{fold-append}
use Rattle.droid_frame.specs.Frames.{frame_bytes}
use Rattle.droid_frame.specs.ReplyFrames.{reply_frame}
use Rattle.droid_frame.specs.StreamReads.{ImpliedBy}
use Rattle.droid_frame.specs.Streams.{IsReadable}
use Rattle.droid_frame.specs.declared.frame.Frame.{Frame}
use Rattle.droid_frame.specs.declared.io.stream_record.Seen.{Seen}
use Rattle.droid_frame.specs.declared.reply.Reply.{Reply}
use Rattle.droid_frame.specs.declared.streams.fault.FrameFault.{FrameFault}
use Rattle.droid_frame.specs.declared.streams.fault.FrameFault.TheVariants as frame_faults
use Rattle.droid_core.specs.Running.{Runs}
use Rattle.droid_core.specs.declared.service.Service.{Service}
use Rattle.droid_core_spec.specs.Histories.{History}
use Rattle.droid_core_spec.specs.Setting.{Setting}
use Rattle.droid_core_spec.specs.Written.{reply_frames}
use Rattle.droid_turns.specs.Chains.{GoesOver}
use Rattle.droid_turns.specs.Departures.{Explains, StopsBy}
use Rattle.droid_turns.specs.Events.{Closed, Ended, Event, NoneOpened, Opened, Read, Timed, Unread, Unwaited, Unwritten, Waited, Wrote}
use Rattle.droid_turns.specs.Pipes.{PipeDoes, left_behind, taken}
use Rattle.droid_turns.specs.Steps.{AreOfOthers, Handles, Happened, Happens, IsOfOther, Settles, Step, all_handled, bytes_read, bytes_written, came, handled, handled_in, spelled_frames, spelled_replies, went}
use Rattle.droid_turns.specs.Turns.{AreAll, HasLeft, IsAll}
use Rattle.droid_turns.specs.declared.departure.Departure.{Departure}
use Rattle.droid_turns.specs.declared.departure.Departure.TheVariants as departures
use Rattle.droid_turns.specs.declared.pipe.Pipe.{Pipe}
use Rattle.droid_turns.proofs.OwnSteps.{none_gathered}
use Rattle.droid_wire.specs.ManyConnections.{events_of}
use Rattle.droid_wire.specs.Serving.{Handled, Serves as ServesInput}
use Rattle.droid_wire.specs.StreamServing.{HasFault, IsAhead, ServesFront, StreamServed, StreamsAreServed}

-- ---- steps of others

-- nothing is gathered of the connection, and it is not closed
record Quiet (step : Step) : Type 0 where
  reads : bytes_read 0 step ≡ []
  writes : bytes_written 0 step ≡ []
  handles : handled_in 0 step ≡ []
  stays : (before : Option Departure) → left_behind before step ≡ before

quiet : (step : Step) → IsOfOther 0 step → Quiet step
quiet (Happens (Waited limit)) other = record { reads = refl; writes = refl; handles = refl; stays = λ before. refl }
quiet (Happens Unwaited) other = record { reads = refl; writes = refl; handles = refl; stays = λ before. refl }
quiet (Happens (Timed time)) other = record { reads = refl; writes = refl; handles = refl; stays = λ before. refl }
quiet (Happens (Opened who)) other = record { reads = refl; writes = refl; handles = refl; stays = λ before. refl }
quiet (Happens NoneOpened) other = record { reads = refl; writes = refl; handles = refl; stays = λ before. refl }
quiet (Happens (Read who bytes)) other = record { reads = ap (λ (b : Bool). cond b bytes []) (ne_eqb who 0 other); writes = refl; handles = refl; stays = λ before. refl }
quiet (Happens (Ended who)) other = record { reads = refl; writes = refl; handles = refl; stays = λ before. refl }
quiet (Happens (Unread who)) other = record { reads = refl; writes = refl; handles = refl; stays = λ before. refl }
quiet (Happens (Wrote who bytes)) other = record { reads = refl; writes = ap (λ (b : Bool). cond b bytes []) (ne_eqb who 0 other); handles = refl; stays = λ before. refl }
quiet (Happens (Unwritten who)) other = record { reads = refl; writes = refl; handles = refl; stays = λ before. refl }
quiet (Happens (Closed who why)) other = record { reads = refl; writes = refl; handles = refl; stays = λ before. ap (λ (b : Bool). cond b (Some why) before) (ne_eqb who 0 other) }
quiet (Handles who frame reply) other = record { reads = refl; writes = refl; handles = ap (λ (b : Bool). cond b ((frame, reply) ∷ []) []) (ne_eqb who 0 other); stays = λ before. refl }
quiet (Settles done) other = record { reads = refl; writes = refl; handles = refl; stays = λ before. refl }

none_came : (steps : List Step) → AreOfOthers 0 steps → came 0 steps ≡ []
none_came [] others = refl
none_came (step ∷ steps) others = ap (λ (l : List ℕ). l ++ came 0 steps) (quiet step others.0).reads ∙ none_came steps others.1

none_went : (steps : List Step) → AreOfOthers 0 steps → went 0 steps ≡ []
none_went [] others = refl
none_went (step ∷ steps) others = ap (λ (l : List ℕ). l ++ went 0 steps) (quiet step others.0).writes ∙ none_went steps others.1

none_handled : (steps : List Step) → AreOfOthers 0 steps → handled 0 steps ≡ []
none_handled [] others = refl
none_handled (step ∷ steps) others = ap (λ (l : List (Frame × Reply)). l ++ handled 0 steps) (quiet step others.0).handles ∙ none_handled steps others.1

stays_closed : (departure : Option Departure) (steps : List Step) → AreOfOthers 0 steps → fold left_behind departure steps ≡ departure
stays_closed departure [] others = refl
stays_closed departure (step ∷ steps) others = ap (λ (d : Option Departure). fold left_behind d steps) ((quiet step others.0).stays departure) ∙ stays_closed departure steps others.1

-- the connection's frames are all that was handled
all_of_one : (steps : List Step) → ((id : ℕ) → 1 ≤ id → AreOfOthers id steps) → all_handled steps ≡ handled 0 steps
all_of_one [] others = refl
all_of_one (Happens event ∷ steps) others = all_of_one steps (λ id above. (others id above).1)
all_of_one (Handles zero frame reply ∷ steps) others = ap (λ (l : List (Frame × Reply)). (frame, reply) ∷ l) (all_of_one steps (λ id above. (others id above).1))
all_of_one (Handles (suc who) frame reply ∷ steps) others = absurd ((others (suc who) (omega arith)).0 refl)
all_of_one (Settles done ∷ steps) others = all_of_one steps (λ id above. (others id above).1)

-- ---- the end of the input

known_left : (old : List ℕ) (new : Option (List ℕ)) (bytes : List ℕ) → Consumes (Some old) new bytes → (left : List ℕ) × (new ≡ Some left)
known_left old None bytes read = absurd read
known_left old (Some left) bytes read = (left, refl)

none_left : (new : Option (List ℕ)) (bytes : List ℕ) → Consumes (Some []) new bytes → new ≡ Some []
none_left None bytes read = absurd read
none_left (Some left) [] read = ap (λ (l : List ℕ). Some l) (sym read)
none_left (Some left) (byte ∷ bytes) read = absurd (let bad : ◌≡◌ {A = List ℕ} [] (byte ∷ (bytes ++ left)) = read in cc)

end_is : (known : Option (List ℕ)) (left : List ℕ) → known ≡ Some left → IsAtEnd known → known ≡ Some []
end_is None left is at_end = absurd (let bad : ◌≡◌ {A = Option (List ℕ)} None (Some left) = is in cc)
end_is (Some bytes) left is at_end = ap (λ (l : List ℕ). Some l) at_end

same_event : (one other : Event) → Happens one ≡ Happens other → one ≡ other
same_event one other is = cc

abbrev IsEvent : Step → Type 0
IsEvent (Happens event) = Unit {0}
IsEvent (Handles id frame reply) = ⊥
IsEvent (Settles done) = ⊥

module _ {R W : Type 0} (remaining : R → Option (List ℕ)) (contents : W → Option (List ℕ)) (was_read : R → Seen) (was_written : W → Seen) (room : W → Option ℕ) where
  abbrev Does : Pipe R W → Event → Pipe R W → Type 0
  Does = PipeDoes remaining contents was_read was_written room

  at_its_end : (events : List Event) (pipe later : Pipe R W) → GoesOver Does pipe events later → remaining pipe.reader ≡ Some [] → remaining later.reader ≡ Some []
  at_its_end [] pipe later over is = ap (λ (p : Pipe R W). remaining p.reader) over ∙ is
  at_its_end (event ∷ events) pipe later over is =
      at_its_end events over.0 later over.2 (none_left (remaining over.0.reader) (taken event) (subst (λ (known : Option (List ℕ)). Consumes known (remaining over.0.reader) (taken event)) is over.1.read))

  ended_left : (steps : List Step) (pipe later : Pipe R W) (input : List ℕ) → remaining pipe.reader ≡ Some input → GoesOver Does pipe (events_of steps) later → Happened (Ended 0) steps → remaining later.reader ≡ Some []
  ended_left [] pipe later input known over there = absurd there
  ended_left (Happens event ∷ steps) pipe later input known over (inl here) =
      let now = known_left input (remaining over.0.reader) (taken event) (subst (λ (k : Option (List ℕ)). Consumes k (remaining over.0.reader) (taken event)) known over.1.read) in
      let does : Does pipe (Ended 0) over.0 = subst (λ (e : Event). Does pipe e over.0) (same_event event (Ended 0) here) over.1 in
      at_its_end (events_of steps) over.0 later over.2 (end_is (remaining over.0.reader) now.0 now.1 does.ends)
  ended_left (Happens event ∷ steps) pipe later input known over (inr there) =
      let now = known_left input (remaining over.0.reader) (taken event) (subst (λ (k : Option (List ℕ)). Consumes k (remaining over.0.reader) (taken event)) known over.1.read) in
      ended_left steps over.0 later now.0 now.1 over.2 there
  ended_left (Handles id frame reply ∷ steps) pipe later input known over (inl here) = absurd (subst IsEvent (sym here) tt)
  ended_left (Handles id frame reply ∷ steps) pipe later input known over (inr there) = ended_left steps pipe later input known over there
  ended_left (Settles done ∷ steps) pipe later input known over (inl here) = absurd (subst IsEvent (sym here) tt)
  ended_left (Settles done ∷ steps) pipe later input known over (inr there) = ended_left steps pipe later input known over there

happened_first : (event : Event) (first later : List Step) → Happened event first → Happened event (first ++ later)
happened_first event [] later there = absurd there
happened_first event (step ∷ first) later (inl here) = inl here
happened_first event (step ∷ first) later (inr there) = inr (happened_first event first later there)

-- ---- frames and replies

abbrev frames_in : List (Frame × Reply) → List Frame
frames_in answered = map (λ (one : Frame × Reply). one.0) answered

abbrev replies_in : List (Frame × Reply) → List Reply
replies_in answered = map (λ (one : Frame × Reply). one.1) answered

all_readable : (answered : List (Frame × Reply)) → AllByRecursion (λ (one : Frame × Reply). IsReadable one.0) answered → AllByRecursion IsReadable (frames_in answered)
all_readable [] are = tt
all_readable (one ∷ answered) are = (are.0, all_readable answered are.1)

same_frames : (answered : List (Frame × Reply)) → spelled_frames answered ≡ flat_map frame_bytes (frames_in answered)
same_frames [] = refl
same_frames (one ∷ answered) = ap (λ (l : List ℕ). frame_bytes one.0 ++ l) (same_frames answered)

same_replies : (answered : List (Frame × Reply)) → spelled_replies answered ≡ reply_frames (frames_in answered) (replies_in answered)
same_replies [] = refl
same_replies (one ∷ answered) = ap (λ (l : List ℕ). reply_frame one.0.version one.0.client one.0.number one.1 ++ l) (same_replies answered)

-- ---- a stream

-- the frames of a stream that were answered, what is held and left of it, and what is queued
record IsStream (setting : Setting) (history : History) (input left : List ℕ) (old new : Option (List ℕ)) (after : Service) (answered : List (Frame × Reply)) (held queued : List ℕ) : Type 0 where
  readable : AllByRecursion (λ (one : Frame × Reply). IsReadable one.0) answered
  joined : input ≡ spelled_frames answered ++ (held ++ left)
  sent : List ℕ
  parts : spelled_replies answered ≡ sent ++ queued
  written : Appends old new sent
  runs : Runs setting history (frames_in answered) (replies_in answered) after
  within : length answered ≤ 1000000

module _ (setting : Setting) (history : History) (input left : List ℕ) (old new : Option (List ℕ)) (after : Service) (answered : List (Frame × Reply)) (held queued : List ℕ) (is : IsStream setting history input left old new after answered held queued) where
  handled_so : Handled setting history input (held ++ left) (frames_in answered) (replies_in answered) after
  handled_so = record {
    readable = all_readable answered is.readable;
    joined = is.joined ∙ ap (λ (l : List ℕ). l ++ (held ++ left)) (same_frames answered);
    runs = is.runs;
  }

  serves_front : ServesFront setting history input old new after
  serves_front = record {
    frames = frames_in answered;
    replies = replies_in answered;
    rest = held ++ left;
    handled = handled_so;
    within = omega (arith, is.within, length-map answered (λ (one : Frame × Reply). one.0));
    sent = is.sent;
    unsent = queued;
    parts = sym (same_replies answered) ∙ is.parts;
    written = is.written;
  }

  -- all replies were written
  serves_all : (P : ℕ → List ℕ → Type 0) → queued ≡ [] → P (length answered) (held ++ left) → ServesInput setting history input old new after P
  serves_all P none ends = record {
    frames = frames_in answered;
    replies = replies_in answered;
    rest = held ++ left;
    handled = handled_so;
    written =
        let all : is.sent ≡ reply_frames (frames_in answered) (replies_in answered) = sym (append-nil is.sent) ∙ (ap (λ (l : List ℕ). is.sent ++ l) (sym none) ∙ (sym is.parts ∙ same_replies answered)) in
        subst (λ (l : List ℕ). Appends old new l) all is.written;
    ends = subst (λ (count : ℕ). P count (held ++ left)) (sym (length-map answered (λ (one : Frame × Reply). one.0))) ends;
  }

  -- the input has ended, and nothing of it is left
  nothing_left : held ≡ [] → left ≡ [] → held ++ left ≡ []
  nothing_left none empty = ap (λ (l : List ℕ). l ++ left) none ∙ empty

  all_held : left ≡ [] → held ++ left ≡ held
  all_held empty = ap (λ (l : List ℕ). held ++ l) empty ∙ append-nil held

  has_fault : (steps : List Step) (fault : FrameFault) → (Happened (Ended 0) steps → left ≡ []) → StopsBy 0 steps held fault → HasFault fault (held ++ left) left
  has_fault steps frame_faults.Truncated ends stops = (
    subst (λ (l : List ℕ). ImpliedBy frame_faults.Truncated l) (sym (all_held (ends stops.ended))) (record { no_frame = stops.no_frame; reason = stops.reason }),
    ends stops.ended,
  )
  has_fault steps frame_faults.BadVersion ends stops = (held, refl, record { no_frame = stops.no_frame; reason = stops.reason })
  has_fault steps frame_faults.TooLong ends stops = (held, refl, record { no_frame = stops.no_frame; reason = stops.reason })
  has_fault steps frame_faults.Memory ends stops = (held, refl, stops)
  has_fault steps frame_faults.Read ends stops = (held, refl, tt)

  served_by : (idle : ℕ) (steps : List Step) (why : Departure) → answered ≡ handled 0 steps → (Happened (Ended 0) steps → left ≡ []) → Explains idle 0 steps held queued why
      → StreamServed setting history input left old new after (Some why)
  served_by idle steps departures.Closed same ends because =
      serves_all (λ count rest. (count ≤ 1000000) × (rest ≡ []) × (left ≡ [])) because.2 (is.within, nothing_left because.1 (ends because.0), ends because.0)
  served_by idle steps departures.Enough same ends because =
      serves_all (λ count rest. (count ≡ 1000000) × IsAhead rest left) because.1
      (let count : length answered ≡ length (handled 0 steps) = ap length same in (omega (arith, is.within, count, because.0), (held, refl)))
  served_by idle steps (departures.Frame fault) same ends because =
      serves_all (λ count rest. (count ≤ 1000000) × HasFault fault rest left) because.1 (is.within, has_fault steps fault ends because.0)
  served_by idle steps departures.Memory same ends because = serves_front
  served_by idle steps departures.Write same ends because = serves_front
  served_by idle steps departures.Idle same ends because = serves_front
  served_by idle steps departures.Stopped same ends because = serves_front
  served_by idle steps departures.Unsettled same ends because = serves_front

-- ---- all of it

-- no bytes are known to be left twice
same_left : (known : Option (List ℕ)) (one other : List ℕ) → known ≡ Some one → known ≡ Some other → one ≡ other
same_left known one other is also = let same : ◌≡◌ {A = Option (List ℕ)} (Some one) (Some other) = sym is ∙ also in cc

consumed_is : (old new : Option (List ℕ)) (bytes input left : List ℕ) → old ≡ Some input → new ≡ Some left → Consumes old new bytes → input ≡ bytes ++ left
consumed_is old new bytes input left is also read =
    subst (λ (k : Option (List ℕ)). Consumes (Some input) k bytes) also (subst (λ (k : Option (List ℕ)). Consumes k new bytes) is read)

pub streams_are_served : {R W : Type 0} (remaining : R → Option (List ℕ)) (contents : W → Option (List ℕ)) (was_read : R → Seen) (was_written : W → Seen) (room : W → Option ℕ) → StreamsAreServed remaining contents was_read was_written room
streams_are_served {R} {W} remaining contents was_read was_written room setting history pipe later after input left known still all =
    let steps : List Step = all.steps in
    let serves = all.one.serves in
    let ended : (count : ℕ) × AreAll count steps × IsAll (Some 1) count = serves.ended in
    let others : (id : ℕ) → 1 ≤ id → AreOfOthers id steps = λ id above. ended.1.others id (omega (arith, above, ended.2)) in
    let gone : HasLeft 18446744073709551615 0 steps = serves.left 0 (ended.1.each_opened 0 (omega (arith, ended.2))) in
    let closing : List Step = Happens (Closed 0 gone.why) ∷ gone.later in
    let same_handled : handled 0 steps ≡ handled 0 gone.before = ap (handled 0) gone.parts ∙ none_gathered (handled_in 0) gone.before closing (none_handled gone.later gone.nothing_later) in
    let same_came : came 0 steps ≡ came 0 gone.before = ap (came 0) gone.parts ∙ none_gathered (bytes_read 0) gone.before closing (none_came gone.later gone.nothing_later) in
    let same_went : went 0 steps ≡ went 0 gone.before = ap (went 0) gone.parts ∙ none_gathered (bytes_written 0) gone.before closing (none_went gone.later gone.nothing_later) in
    let answered : List (Frame × Reply) = handled 0 gone.before in
    let runs : Runs setting history (frames_in answered) (replies_in answered) after =
    subst (λ (l : List (Frame × Reply)). Runs setting history (frames_in l) (replies_in l) after) (all_of_one steps others ∙ same_handled) all.runs in
    let joined : input ≡ spelled_frames answered ++ (gone.held ++ left) =
    consumed_is (remaining pipe.reader) (remaining later.reader) (came 0 steps) input left known still all.one.read
    ∙ (ap (λ (l : List ℕ). l ++ left) (same_came ∙ gone.serves.read) ∙ append_assoc (spelled_frames answered) gone.held left) in
    let is : IsStream setting history input left (contents pipe.writer) (contents later.writer) after answered gone.held gone.queued = record {
      readable = gone.serves.readable;
      joined = joined;
      sent = went 0 gone.before;
      parts = gone.serves.written;
      written = subst (λ (l : List ℕ). Appends (contents pipe.writer) (contents later.writer) l) same_went all.one.written;
      runs = runs;
      within = (let same : length (handled 0 steps) ≡ length answered = ap length same_handled in omega (arith, same, serves.limited 0));
    } in
    let ends : Happened (Ended 0) gone.before → left ≡ [] = λ there.
    same_left (remaining later.reader) left [] still
    (ended_left remaining contents was_read was_written room steps pipe later input known all.done (subst (λ (l : List Step). Happened (Ended 0) l) (sym gone.parts) (happened_first (Ended 0) gone.before closing there))) in
    let departed : later.departure ≡ Some gone.why =
    all.one.departed ∙ (ap (λ (l : List Step). fold left_behind pipe.departure l) gone.parts
    ∙ (fold-append left_behind pipe.departure gone.before closing ∙ stays_closed (Some gone.why) gone.later gone.nothing_later)) in
    subst (λ (d : Option Departure). StreamServed setting history input left (contents pipe.writer) (contents later.writer) after d) (sym departed)
    (served_by setting history input left (contents pipe.writer) (contents later.writer) after answered gone.held gone.queued is 18446744073709551615 gone.before gone.why refl ends gone.explained)
