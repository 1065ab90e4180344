-- Call after call on a sender's connection.
use Rattle.std.proofs.Common.{◌≡◌, ◌⊎◌, ◌==◌, ℕ, zero, suc, Bool, true, false, cond, List, [], ◌∷◌, ◌++◌, Contains, Some, inl, inr, refl, sym, ap, subst, ◌∙◌, arith}
use Rattle.std.specs.Prelude.{IsTrue}
use Rattle.std.specs.List.{AllByRecursion}
use Rattle.std.proofs.lemmas.List.Elements.{Contains-append_cases, Contains-append_left, Contains-append_right, Contains-push, Contains-push_cases}
use Rattle.droid_frame.specs.declared.frame.Frame.{Frame}
use Rattle.droid_frame.specs.declared.reply.Reply.{Reply}
use Rattle.droid_frame.specs.declared.reply.Reply.TheVariants as replies
use Rattle.droid_frame.specs.declared.request.Request.{Request}
use Rattle.droid_tree.specs.Heard.{Heard}
use Rattle.droid_tree.specs.Observation as trees
use Rattle.droid_tree.specs.Observation.{Observation}
use Rattle.droid_remote.specs.Answering.{IsTaken}
use Rattle.droid_remote.specs.Calls.{EndsAll, Fails, IsAmong, Sends, Waits}
use Rattle.droid_remote.specs.Chains.{GoesOver}
use Rattle.droid_remote.specs.Events as connections
use Rattle.droid_remote.specs.Events.{Event, Fact, Joined, Alone, Came, Lost, Paused, Expired, Started, facts_after, facts_behind}
use Rattle.droid_remote.specs.Moves.{Goes}
use Rattle.droid_remote.specs.Stages.{StandsOn}
use Rattle.droid_remote.specs.Vouching.{IsKnown, MayAllHappen, MayHappen, MayWrite, adds_newest, nothing_known, remember}
use Rattle.droid_remote.specs.declared.transfer.in_flight.InFlight.{InFlight}
use Rattle.droid_remote.specs.declared.transfer.known_requests.Known.{Known}
use Rattle.droid_remote.specs.declared.transfer.known_requests.KnownRequests.{KnownRequests}
use Rattle.droid_remote.specs.declared.transfer.transfer_fault.TransferFault.{TransferFault}
use Rattle.droid_remote.proofs.Chaining.{over_more}
use Rattle.droid_remote.proofs.Going.{all_append, all_in, answered_after, answered_before, goes_none, nothing_in, taken_after, taken_before}
use Rattle.droid_upload.specs.Calls.{Call, Answered, Sent, Failed}
use Rattle.droid_upload.specs.Deeds.{Deed, Does, Observed, Called, Informed}
use Rattle.droid_upload.specs.Fronts as fronts
use Rattle.droid_upload.specs.declared.submission_fault.SubmissionFault.{SubmissionFault}
use Rattle.droid_upload.specs.declared.client_fault.ClientFault.{ClientFault}
use Rattle.droid_upload.specs.declared.upload.Upload.{Upload}
use Rattle.droid_remote.specs.Conversations.{AreAwaited, AreDone, Converses, IsDone, IsOfDeeds, WritesOnly, frame_of_call, known_after, known_behind}
use Rattle.droid_remote.specs.Numbered.{frame_of}
use Rattle.droid_remote.specs.SenderCalls.{CallsSender, FailsCall, FailsToSettle, HadStopped, HadStoppedBefore, HasMissed, IsFresh, Misses, NotAllCame, WasForeign}
use Rattle.droid_remote.specs.declared.sender.Sender.{Sender}
use Rattle.droid_remote.proofs.Pausing.{stands_later}

all_at : {A : Type 0} (P : A → Type 0) (xs : List A) (x : A) → AllByRecursion P xs → Contains xs x → P x
all_at P [] x all there = absurd (nothing_in [] x refl there)
all_at P (y ∷ xs) x all (zero, below, is) = subst P is all.0
all_at P (y ∷ xs) x all (suc k, below, is) = all_at P xs x all.1 (k, omega (arith, below), is)

-- ---- which frames are written

-- the frame of a known request
abbrev IsKnownFrame : KnownRequests → Frame → Type 0
IsKnownFrame known frame = (one : Known) × IsKnown known one × (frame ≡ one.request)

module _ (known : KnownRequests) (Is : Frame → Type 0) where
  abbrev Either : Frame → Type 0
  Either frame = IsKnownFrame known frame ⊎ Is frame

  written_frame : (facts : List Fact) (frame : Frame) → MayWrite known Is facts frame → Either frame
  written_frame facts frame (inl is) = inl (is.0, is.1, is.2)
  written_frame facts frame (inr is) = inr is.0

  written_event : (facts : List Fact) (event : Event) → MayHappen known Is facts event → WritesOnly Either event
  written_event facts (connections.Sent frame) may = written_frame facts frame may
  written_event facts (connections.Cut frame) may = written_frame facts frame may
  written_event facts (Came frame) may = tt
  written_event facts Joined may = tt
  written_event facts Alone may = tt
  written_event facts Lost may = tt
  written_event facts Paused may = tt
  written_event facts Expired may = tt
  written_event facts Started may = tt

  written : (facts : List Fact) (events : List Event) → MayAllHappen known Is facts events → AllByRecursion (WritesOnly Either) events
  written facts [] may = tt
  written facts (event ∷ events) may = (written_event facts event may.0, written (facts_behind facts event) events may.1)

only_in : (Is Other : Frame → Type 0) → ((frame : Frame) → Is frame → Other frame) → (event : Event) → WritesOnly Is event → WritesOnly Other event
only_in Is Other in_it (connections.Sent frame) is = in_it frame is
only_in Is Other in_it (connections.Cut frame) is = in_it frame is
only_in Is Other in_it (Came frame) is = tt
only_in Is Other in_it Joined is = tt
only_in Is Other in_it Alone is = tt
only_in Is Other in_it Lost is = tt
only_in Is Other in_it Paused is = tt
only_in Is Other in_it Expired is = tt
only_in Is Other in_it Started is = tt

pub all_only_in : (Is Other : Frame → Type 0) → ((frame : Frame) → Is frame → Other frame) → (events : List Event) → AllByRecursion (WritesOnly Is) events → AllByRecursion (WritesOnly Other) events
all_only_in Is Other in_it events all = all_in (WritesOnly Is) (WritesOnly Other) events (only_in Is Other in_it) all

-- ---- what becomes known is the request that was answered

module _ (known : KnownRequests) (frame : Frame) where
  abbrev IsOld : Known → Type 0
  IsOld one = IsKnown known one ⊎ (one.request ≡ frame)

  known_profile : (reply : Frame) (is : Bool) (one : Known) → IsKnown (cond is (record { profile = Some (record { request = frame; reply = reply }); change = known.change; newest = known.newest }) known) one → IsOld one
  known_profile reply false one known_it = inl known_it
  known_profile reply true one (inl is) = inr cc
  known_profile reply true one (inr is) = inl (inr is)

  known_change : (reply : Frame) (newest : ℕ) (is : Bool) (one : Known) → IsKnown (cond is (record { profile = known.profile; change = Some (record { request = frame; reply = reply }); newest = newest }) known) one → IsOld one
  known_change reply newest false one known_it = inl known_it
  known_change reply newest true one (inl is) = inl (inl is)
  known_change reply newest true one (inr is) = inr cc

  known_before : (reply : Reply) (one : Known) → IsKnown (remember known frame reply) one → IsOld one
  known_before (replies.Made profile) one is = known_profile _ _ one is
  known_before (replies.Node number) one is = known_change _ number (adds_newest frame.kind number known.newest) one is
  known_before (replies.Taken held) one is = inl is
  known_before (replies.Finished method mismatch hash puids) one is = known_change _ known.newest (frame.kind == 5) one is
  known_before replies.Abandoned one is = known_change _ known.newest (frame.kind == 6) one is
  known_before (replies.Progress held missing) one is = inl is
  known_before (replies.Part as_of total bytes) one is = inl is
  known_before (replies.Refused refusal) one is = inl is

first_in : (deed : Deed) (deeds : List Deed) → Contains (deed ∷ deeds) deed
first_in deed deeds = (0, omega arith, refl)

later_in : (deed other : Deed) (deeds : List Deed) → Contains deeds other → Contains (deed ∷ deeds) other
later_in deed other deeds there = (suc there.0, (let below = there.1 in omega (arith, below)), there.2)

module _ (client : ℕ) (name : List ℕ) (at_end : Bool) where
  of_later : (deed : Deed) (deeds : List Deed) (frame : Frame) → IsOfDeeds client name deeds frame → IsOfDeeds client name (deed ∷ deeds) frame
  of_later deed deeds frame is = (is.0, later_in deed (Called is.0) deeds is.1, is.2)

  -- ---- what is done stays done

  one_done_later : (known : KnownRequests) (facts : List Fact) (xs ys : List Event) (deed : Deed) (deeds : List Deed) → IsDone client name at_end known (facts_after facts xs) ys deed deeds
      → IsDone client name at_end known facts (xs ++ ys) deed deeds
  one_done_later known facts xs ys (Observed observation) deeds done = tt
  one_done_later known facts xs ys (Informed heard) deeds done = tt
  one_done_later known facts xs ys (Called (Answered attempt request reply)) deeds done = answered_after known facts xs ys (frame_of client name attempt request) reply done
  one_done_later known facts xs ys (Called (Sent request)) deeds done = λ awaited. taken_after known facts xs ys (frame_of client name 0 request) (done awaited)
  one_done_later known facts xs ys (Called (Failed attempt request why)) deeds done = tt

  done_later : (known : KnownRequests) (facts : List Fact) (xs ys : List Event) (deeds : List Deed) → AreDone client name at_end known (facts_after facts xs) ys deeds
      → AreDone client name at_end known facts (xs ++ ys) deeds
  done_later known facts xs ys [] done = tt
  done_later known facts xs ys (deed ∷ deeds) done = (one_done_later known facts xs ys deed deeds done.0, done_later (known_behind client name known deed) facts xs ys deeds done.1)

  module _ {C : Type 0} (does : C → Event → C → Type 0) where
    -- the frames that may be written for these deeds
    abbrev May : KnownRequests → List Frame → List Deed → Frame → Type 0
    May known waiting deeds frame = IsKnownFrame known frame ⊎ (Contains waiting frame ⊎ IsOfDeeds client name deeds frame)

    -- for these deeds, events happened; all pieces that were in flight before were taken, if they had to be
    pub record Talks (deeds : List Deed) (known : KnownRequests) (facts : List Fact) (old new : InFlight C) : Type 0 where
      pub events : List Event
      pub happened : GoesOver does old.connection events new.connection
      pub only : AllByRecursion (WritesOnly (May known old.waiting.items deeds)) events
      pub done : AreDone client name at_end known facts events deeds
      pub settled : AreAwaited at_end deeds → (frame : Frame) → Contains old.waiting.items frame → IsTaken known facts events frame
      pub stands_on : StandsOn (known_after client name known deeds) (facts_after facts events) new

    -- after the last deed
    pub record Finishes (known : KnownRequests) (facts : List Fact) (old new : InFlight C) : Type 0 where
      pub goes : Goes does known (Contains old.waiting.items) facts old.connection new.connection
      pub taken : IsTrue at_end → (frame : Frame) → Contains old.waiting.items frame → IsTaken known facts goes.events frame
      pub stands_on : StandsOn known (facts_after facts goes.events) new

    talks_last : (known : KnownRequests) (facts : List Fact) (old new : InFlight C) → Finishes known facts old new → Talks [] known facts old new
    talks_last known facts old new last = record {
      events = last.goes.events;
      happened = last.goes.happened;
      only = all_only_in (Either known (Contains old.waiting.items)) (May known old.waiting.items [])
          (λ frame is. elim is [
            | inl known_it ↦ inl known_it
            | inr there ↦ inr (inl there)
          ])
          last.goes.events (written known (Contains old.waiting.items) facts last.goes.events last.goes.only);
      done = tt;
      settled = λ awaited frame there. last.taken awaited frame there;
      stands_on = last.stands_on;
    }

    module _ (deed : Deed) (deeds : List Deed) (known : KnownRequests) (facts : List Fact) (Is : Frame → Type 0) (old now new : InFlight C) (goes : Goes does known Is facts old.connection now.connection)
        (rest : Talks deeds (known_behind client name known deed) (facts_after facts goes.events) now new) where
      -- one deed before others
      talks_on : ((frame : Frame) → Is frame → May known old.waiting.items (deed ∷ deeds) frame)
          → ((frame : Frame) → May (known_behind client name known deed) now.waiting.items deeds frame → May known old.waiting.items (deed ∷ deeds) frame)
          → IsDone client name at_end known facts (goes.events ++ rest.events) deed deeds
          → (AreAwaited at_end (deed ∷ deeds) → (frame : Frame) → Contains old.waiting.items frame → IsTaken known facts (goes.events ++ rest.events) frame)
          → Talks (deed ∷ deeds) known facts old new
      talks_on in_it back own settled = record {
        events = goes.events ++ rest.events;
        happened = over_more does old.connection now.connection new.connection goes.events rest.events goes.happened rest.happened;
        only = all_append (WritesOnly (May known old.waiting.items (deed ∷ deeds))) goes.events rest.events
            (all_only_in (Either known Is) (May known old.waiting.items (deed ∷ deeds))
            (λ frame is. elim is [
              | inl known_it ↦ inl known_it
              | inr its ↦ in_it frame its
            ])
            goes.events (written known Is facts goes.events goes.only))
            (all_only_in (May (known_behind client name known deed) now.waiting.items deeds) (May known old.waiting.items (deed ∷ deeds)) back rest.events rest.only);
        done = (own, done_later (known_behind client name known deed) facts goes.events rest.events deeds rest.done);
        settled = settled;
        stands_on = stands_later (known_after client name (known_behind client name known deed) deeds) facts goes.events rest.events new rest.stands_on;
      }

    module _ (deeds : List Deed) (known : KnownRequests) (facts : List Fact) (old now new : InFlight C) where
      later : (deed : Deed) (frame : Frame) → May known old.waiting.items deeds frame → May known old.waiting.items (deed ∷ deeds) frame
      later deed frame (inl known_it) = inl known_it
      later deed frame (inr (inl there)) = inr (inl there)
      later deed frame (inr (inr is)) = inr (inr (of_later deed deeds frame is))

      -- the frame of the call was among those that were written
      among_may : (call : Call) (frame other : Frame) → frame ≡ frame_of_call client name call → IsAmong old.waiting.items frame other → May known old.waiting.items (Called call ∷ deeds) other
      among_may call frame other its (inl there) = inr (inl there)
      among_may call frame other its (inr same) = inr (inr (call, first_in (Called call) deeds, same ∙ its))

      -- what may be written later may be written for all
      known_may : (attempt : ℕ) (request : Request) (reply : Reply) (frame : Frame) → now.waiting.items ≡ [] → May (remember known (frame_of client name attempt request) reply) now.waiting.items deeds frame
          → May known old.waiting.items (Called (Answered attempt request reply) ∷ deeds) frame
      known_may attempt request reply frame none (inl (one, known_it, is)) = elim (known_before known (frame_of client name attempt request) reply one known_it) [
        | inl before ↦ inl (one, before, is)
        | inr same ↦ inr (inr (Answered attempt request reply, first_in (Called (Answered attempt request reply)) deeds, is ∙ same))
      ]
      known_may attempt request reply frame none (inr (inl there)) = absurd (nothing_in now.waiting.items frame none there)
      known_may attempt request reply frame none (inr (inr is)) = inr (inr (of_later (Called (Answered attempt request reply)) deeds frame is))

      kept_may : (deed : Deed) (frame : Frame) → ((other : Frame) → Contains now.waiting.items other → May known old.waiting.items (deed ∷ deeds) other) → May known now.waiting.items deeds frame
          → May known old.waiting.items (deed ∷ deeds) frame
      kept_may deed frame kept (inl known_it) = inl known_it
      kept_may deed frame kept (inr (inl there)) = kept frame there
      kept_may deed frame kept (inr (inr is)) = inr (inr (of_later deed deeds frame is))

      -- the request was answered
      answered_on : (attempt : ℕ) (request : Request) (reply : Reply) (waits : Waits does known (frame_of client name attempt request) reply facts old now)
          → Talks deeds (remember known (frame_of client name attempt request) reply) (facts_after facts waits.goes.events) now new → Talks (Called (Answered attempt request reply) ∷ deeds) known facts old new
      answered_on attempt request reply waits rest =
          let call : Call = Answered attempt request reply in
          let frame : Frame = frame_of client name attempt request in
          let early = waits.goes.events in
          talks_on (Called call) deeds known facts (IsAmong old.waiting.items frame) old now new waits.goes rest (λ other is. among_may call frame other refl is) (λ other is. known_may attempt request reply other waits.none is)
          (answered_before known facts early rest.events frame reply waits.answered)
          (λ awaited other there. taken_before known facts early rest.events other (all_at (IsTaken known facts early) old.waiting.items other waits.taken there))

      -- the piece was sent
      sent_on : (request : Request) (sends : Sends does known (frame_of client name 0 request) facts old now) → Talks deeds known (facts_after facts sends.goes.events) now new → Talks (Called (Sent request) ∷ deeds) known facts old new
      sent_on request sends rest =
          let call : Call = Sent request in
          let frame : Frame = frame_of client name 0 request in
          let early = sends.goes.events in
          let way : (other : Frame) → Contains sends.others other → Contains now.waiting.items other =
          λ other there. subst (λ (l : List Frame). Contains l other) (sym sends.behind) (Contains-append_left sends.others (frame ∷ []) other there) in
          talks_on (Called call) deeds known facts (IsAmong old.waiting.items frame) old now new sends.goes rest (λ other is. among_may call frame other refl is)
          (λ other is. kept_may (Called call) other
          (λ frame_there there. elim (Contains-push_cases sends.others frame frame_there (subst (λ (l : List Frame). Contains l frame_there) sends.behind there)) [
            | inl before ↦ inr (inl (subst (λ (l : List Frame). Contains l frame_there) (sym sends.cut) (Contains-append_right sends.settled sends.others frame_there before)))
            | inr same ↦ inr (inr (call, first_in (Called call) deeds, sym same))
          ])
          is)
          (λ awaited. taken_after known facts early rest.events frame (rest.settled awaited frame (subst (λ (l : List Frame). Contains l frame) (sym sends.behind) (Contains-push sends.others frame))))
          (λ awaited other there. elim (Contains-append_cases sends.settled sends.others other (subst (λ (l : List Frame). Contains l other) sends.cut there)) [
            | inl before ↦ taken_before known facts early rest.events other (all_at (IsTaken known facts early) sends.settled other sends.taken before)
            | inr late ↦ taken_after known facts early rest.events other (rest.settled awaited other (way other late))
          ])

      -- no reply to the request came
      missed_on : (attempt : ℕ) (request : Request) (why : ClientFault) (fault : TransferFault) (misses : Misses does known (frame_of client name attempt request) fault facts old now)
          → Talks deeds known (facts_after facts misses.goes.events) now new → Talks (Called (Failed attempt request why) ∷ deeds) known facts old new
      missed_on attempt request why fault misses rest =
          let call : Call = Failed attempt request why in
          let frame : Frame = frame_of client name attempt request in
          talks_on (Called call) deeds known facts (IsAmong old.waiting.items frame) old now new misses.goes rest (λ other is. among_may call frame other refl is)
          (λ other is. kept_may (Called call) other (λ frame_there there. inr (inl (misses.kept frame_there there))) is) tt (λ never. absurd never)

    -- ---- a deed by which nothing happens on the connection

    module _ (deeds : List Deed) (known : KnownRequests) (facts : List Fact) (old new : InFlight C) (rest : Talks deeds known facts old new) where
      observed_on : (observation : Observation) → Talks (Observed observation ∷ deeds) known facts old new
      observed_on observation = talks_on (Observed observation) deeds known facts (λ frame. ⊥) old old new (goes_none does known (λ frame. ⊥) facts old.connection) rest (λ frame never. absurd never)
          (λ frame is. later deeds known facts old old new (Observed observation) frame is) tt (λ awaited frame there. rest.settled awaited frame there)

      informed_on : (heard : Heard) → Talks (Informed heard ∷ deeds) known facts old new
      informed_on heard = talks_on (Informed heard) deeds known facts (λ frame. ⊥) old old new (goes_none does known (λ frame. ⊥) facts old.connection) rest (λ frame never. absurd never)
          (λ frame is. later deeds known facts old old new (Informed heard) frame is) tt (λ awaited frame there. rest.settled awaited frame there)

      failed_on : (attempt : ℕ) (request : Request) (why : ClientFault) → Talks (Called (Failed attempt request why) ∷ deeds) known facts old new
      failed_on attempt request why = talks_on (Called (Failed attempt request why)) deeds known facts (λ frame. ⊥) old old new (goes_none does known (λ frame. ⊥) facts old.connection) rest (λ frame never. absurd never)
          (λ frame is. later deeds known facts old old new (Called (Failed attempt request why)) frame is) tt (λ never. absurd never)

    -- ---- of senders

    -- all that follows, whatever is known and stands
    abbrev Onwards : List Deed → InFlight C → InFlight C → Type 0
    Onwards deeds now last = (known : KnownRequests) (facts : List Fact) → StandsOn known facts now → Talks deeds known facts now last

    module _ (deeds : List Deed) (last : InFlight C) (known : KnownRequests) (facts : List Fact) (old now : Sender C) (same : old.client ≡ client) (named : old.name ≡ name)
        (more : Onwards deeds now.in_flight last) (stands : StandsOn known facts old.in_flight) where
      its_frame : (attempt : ℕ) (request : Request) → frame_of old.client old.name attempt request ≡ frame_of client name attempt request
      its_frame attempt request = ap (λ (c : ℕ). frame_of c old.name attempt request) same ∙ ap (λ (n : List ℕ). frame_of client n attempt request) named

      fails_on : (attempt : ℕ) (request : Request) (why : ClientFault) → FailsCall does attempt request why old now → Talks (Called (Failed attempt request why) ∷ deeds) known facts old.in_flight last
      fails_on attempt request why (HadStopped stopped is kept) = failed_on deeds known facts old.in_flight last
          (subst (λ (s : Sender C). Talks deeds known facts s.in_flight last) kept (more known facts (subst (λ (s : Sender C). StandsOn known facts s.in_flight) (sym kept) stands))) attempt request why
      fails_on attempt request why (WasForeign foreign is kept) = failed_on deeds known facts old.in_flight last
          (subst (λ (s : Sender C). Talks deeds known facts s.in_flight last) kept (more known facts (subst (λ (s : Sender C). StandsOn known facts s.in_flight) (sym kept) stands))) attempt request why
      fails_on attempt request why (HasMissed fault missed is) =
          let misses = subst (λ (f : Frame). Misses does known f fault facts old.in_flight now.in_flight) (its_frame attempt request) (missed.misses known facts stands) in
          missed_on deeds known facts old.in_flight now.in_flight last attempt request why fault misses (more known (facts_after facts misses.goes.events) misses.stands_on)

      call_on : (call : Call) → CallsSender does old call now → Talks (Called call ∷ deeds) known facts old.in_flight last
      call_on (Answered attempt request reply) called =
          let waits = subst (λ (f : Frame). Waits does known f reply facts old.in_flight now.in_flight) (its_frame attempt request) (called.waits known facts stands) in
          answered_on deeds known facts old.in_flight now.in_flight last attempt request reply waits
          (more (remember known (frame_of client name attempt request) reply) (facts_after facts waits.goes.events) waits.stands_on)
      call_on (Sent request) called =
          let sends = subst (λ (f : Frame). Sends does known f facts old.in_flight now.in_flight) (its_frame 0 request) (called.sends known facts stands) in
          sent_on deeds known facts old.in_flight now.in_flight last request sends (more known (facts_after facts sends.goes.events) sends.stands_on)
      call_on (Failed attempt request why) called = fails_on attempt request why called

    fails_same : (attempt : ℕ) (request : Request) (why : ClientFault) (old now : Sender C) → FailsCall does attempt request why old now → (now.client ≡ old.client) × (now.name ≡ old.name)
    fails_same attempt request why old now (HadStopped stopped is kept) = (ap (λ (s : Sender C). s.client) kept, ap (λ (s : Sender C). s.name) kept)
    fails_same attempt request why old now (WasForeign foreign is kept) = (ap (λ (s : Sender C). s.client) kept, ap (λ (s : Sender C). s.name) kept)
    fails_same attempt request why old now (HasMissed fault missed is) = (missed.same_client, missed.same_name)

    call_same : (call : Call) (old now : Sender C) → CallsSender does old call now → (now.client ≡ old.client) × (now.name ≡ old.name)
    call_same (Answered attempt request reply) old now called = (called.goes_on.same_client, called.goes_on.same_name)
    call_same (Sent request) old now called = (called.goes_on.same_client, called.goes_on.same_name)
    call_same (Failed attempt request why) old now called = fails_same attempt request why old now called

    module _ {T W : Type 0} (observes : T → Observation → T → Type 0) (hears : W → Heard → W → Type 0) (reached : Upload T (Sender C) W) (last : InFlight C)
        (finishes : (known : KnownRequests) (facts : List Fact) → StandsOn known facts reached.client.in_flight → Finishes known facts reached.client.in_flight last) where
      deeds_on : (deeds : List Deed) (old : Upload T (Sender C) W) → old.client.client ≡ client → old.client.name ≡ name → trees.GoesOver (Does observes (CallsSender does) hears) old deeds reached
          → Onwards deeds old.client.in_flight last
      deeds_on [] old same named over known facts stands =
          let here = ap (λ (u : Upload T (Sender C) W). u.client.in_flight) over in
          talks_last known facts old.client.in_flight last (subst (λ (i : InFlight C). Finishes known facts i last) here (finishes known facts (subst (λ (i : InFlight C). StandsOn known facts i) (sym here) stands)))
      deeds_on (Observed observation ∷ deeds) old same named over known facts stands =
          let now = over.0 in
          let kept = ap (λ (u : Upload T (Sender C) W). u.client) over.1.1 in
          let more = deeds_on deeds now (ap (λ (s : Sender C). s.client) kept ∙ same) (ap (λ (s : Sender C). s.name) kept ∙ named) over.2 in
          observed_on deeds known facts old.client.in_flight last
          (subst (λ (s : Sender C). Talks deeds known facts s.in_flight last) kept (more known facts (subst (λ (s : Sender C). StandsOn known facts s.in_flight) (sym kept) stands))) observation
      deeds_on (Informed heard ∷ deeds) old same named over known facts stands =
          let now = over.0 in
          let kept = ap (λ (u : Upload T (Sender C) W). u.client) over.1.1 in
          let more = deeds_on deeds now (ap (λ (s : Sender C). s.client) kept ∙ same) (ap (λ (s : Sender C). s.name) kept ∙ named) over.2 in
          informed_on deeds known facts old.client.in_flight last
          (subst (λ (s : Sender C). Talks deeds known facts s.in_flight last) kept (more known facts (subst (λ (s : Sender C). StandsOn known facts s.in_flight) (sym kept) stands))) heard
      deeds_on (Called call ∷ deeds) old same named over known facts stands =
          let now = over.0 in
          let kept = call_same call old.client now.client over.1.0 in
          call_on deeds last known facts old.client now.client same named (deeds_on deeds now (kept.0 ∙ same) (kept.1 ∙ named) over.2) stands call over.1.0

      -- nothing is known at first, and nothing is in flight
      fresh_may : (deeds : List Deed) (waiting : List Frame) (frame : Frame) → waiting ≡ [] → May nothing_known waiting deeds frame → IsOfDeeds client name deeds frame
      fresh_may deeds waiting frame none (inl (one, inl is, same)) = absurd cc
      fresh_may deeds waiting frame none (inl (one, inr is, same)) = absurd cc
      fresh_may deeds waiting frame none (inr (inl there)) = absurd (nothing_in waiting frame none there)
      fresh_may deeds waiting frame none (inr (inr is)) = is

      pub converses : (deeds : List Deed) (old : Upload T (Sender C) W) → old.client.client ≡ client → old.client.name ≡ name → trees.GoesOver (Does observes (CallsSender does) hears) old deeds reached
          → IsFresh old.client → Converses client name does at_end deeds old.client.in_flight last
      converses deeds old same named over fresh =
          let talks = deeds_on deeds old same named over nothing_known [] fresh.stands_on in
          record {
            events = talks.events;
            happened = talks.happened;
            only = all_only_in (May nothing_known old.client.in_flight.waiting.items deeds) (IsOfDeeds client name deeds) (λ frame may. fresh_may deeds old.client.in_flight.waiting.items frame fresh.none may) talks.events talks.only;
            done = talks.done;
            stands_on = talks.stands_on;
          }

-- ---- ends

module _ (client : ℕ) (name : List ℕ) {C : Type 0} (does : C → Event → C → Type 0) (known : KnownRequests) (facts : List Fact) where
  pub ends_all : (old new : InFlight C) → EndsAll does known facts old new → Finishes client name true does known facts old new
  ends_all old new ends = record { goes = ends.goes; taken = λ awaited frame there. all_at (IsTaken known facts ends.goes.events) old.waiting.items frame ends.taken there; stands_on = ends.stands_on }

  pub ends_nowhere : (old new : InFlight C) → new ≡ old → StandsOn known facts old → Finishes client name false does known facts old new
  ends_nowhere old new same stands = subst (λ (i : InFlight C). Finishes client name false does known facts old i) (sym same)
      (record { goes = goes_none does known (Contains old.waiting.items) facts old.connection; taken = λ never frame there. absurd cc; stands_on = stands })

  pub ends_failing : (fault : TransferFault) (old new : InFlight C) → Fails does known (Contains old.waiting.items) old.waiting.items fault facts old new → Finishes client name false does known facts old new
  ends_failing fault old new fails = record { goes = fails.stops.goes; taken = λ never frame there. absurd cc; stands_on = fails.stands_on }

  pub ends_unsettled : (fault : TransferFault) (old new : Sender C) → FailsToSettle does fault old new → StandsOn known facts old.in_flight → Finishes client name false does known facts old.in_flight new.in_flight
  ends_unsettled fault old new (HadStoppedBefore stopped same) stands = ends_nowhere old.in_flight new.in_flight (ap (λ (s : Sender C). s.in_flight) same) stands
  ends_unsettled fault old new (NotAllCame going same fails) stands = ends_failing fault old.in_flight new.in_flight (fails known facts stands)

-- where a run ended early, its client is where its deeds led
pub stands_client : {T C W : Type 0} (fault : SubmissionFault) (reached new : Upload T (Sender C) W) → fronts.Stands fault reached new → new.client ≡ reached.client
stands_client {T} {C} {W} fault reached new (inl same) = ap (λ (u : Upload T (Sender C) W). u.client) same
stands_client {T} {C} {W} fault reached new (inr memory) = ap (λ (u : Upload T (Sender C) W). u.client) memory.1
