-- Frame after frame on one connection.
use Rattle.std.proofs.Common.{◌≡◌, ◌⊎◌, ℕ, zero, suc, ◌+◌, ◌<◌, ◌≤◌, List, [], ◌∷◌, ◌++◌, Some, None, inl, inr, refl, sym, ap, subst, ◌∙◌, arith}
use Rattle.std.specs.List.{AllByRecursion}
use Rattle.std.proofs.lemmas.List.Elements.{Contains-append_left, Contains-push}
use Rattle.droid_frame.specs.declared.frame.Frame.{Frame}
use Rattle.droid_frame.specs.declared.refusal.Refusal.TheVariants as refusals
use Rattle.droid_frame.specs.declared.reply.Reply.{Reply}
use Rattle.droid_frame.specs.declared.reply.Reply.TheVariants as replies
use Rattle.droid_remote.specs.Answering.{IsAnswered, IsReplyTo}
use Rattle.droid_remote.specs.Events.{Event, Fact, Sent, Came, Cut, Lost, Written, Received, facts_after}
use Rattle.droid_remote.specs.Moves.{Goes}
use Rattle.droid_remote.specs.Stages.{CountsOn, StandsOn}
use Rattle.droid_remote.specs.declared.transfer.connection_steps.Stage.{Stage}
use Rattle.droid_remote.specs.declared.transfer.connection_steps.Stage.TheVariants.{Nowhere}
use Rattle.droid_remote.specs.declared.transfer.in_flight.InFlight.{InFlight}
use Rattle.droid_remote.specs.declared.transfer.known_requests.KnownRequests.{KnownRequests}
use Rattle.droid_remote.proofs.Counting.{counts_nowhere, vouched_more}
use Rattle.droid_remote.proofs.Going.{all_append, answered_after, answered_before, goes_in, goes_none, goes_on, goes_one}
use Rattle.droid_upload.specs.declared.tree_submission.Options.{Options}
use Rattle.droid_remote.specs.Probes.{AnswersHere, BrokeHere, Finds, IsHere, IsOfPair, IsRefusedPair, ReadsHere, ReadsNotHere, Refuses, StandsNowhere, StaysHere, Tries, WritesHere, WritesNotHere, profile_frame, with_pair}
use Rattle.droid_remote.proofs.Pausing.{stands_later}

module _ {C : Type 0} (does : C → Event → C → Type 0) (known : KnownRequests) (frame : Frame) (facts : List Fact) where
  counts_more : (stage : Stage) (waiting : List Frame) (fact : Fact) → CountsOn stage known waiting facts → CountsOn stage known waiting (facts ++ fact ∷ [])
  counts_more stage waiting fact counts = record {
    written = λ other there. Contains-append_left facts (fact ∷ []) (Written other) (counts.written other there);
    vouched = λ stands. vouched_more known facts fact (counts.vouched stands);
  }

  -- a frame was written or read
  pub stands_here : (fact : Fact) (old new : InFlight C) → StandsOn known facts old → new ≡ record old { connection = new.connection } → StandsOn known (facts ++ fact ∷ []) new
  stands_here fact old new stands same = subst (λ (i : InFlight C). StandsOn known (facts ++ fact ∷ []) i) (sym same)
      (record { same = stands.same; counts = counts_more old.stage old.waiting.items fact stands.counts })

  -- the connection broke
  pub stands_nowhere : (old new : InFlight C) → StandsOn known facts old → new ≡ record old { connection = new.connection; stage = Nowhere } → StandsOn known [] new
  stands_nowhere old new stands same = subst (λ (i : InFlight C). StandsOn known [] i) (sym same) (record { same = stands.same; counts = counts_nowhere known old.waiting.items [] })

  abbrev pub stays_none : (old : InFlight C) → StandsOn known facts old → StaysHere does known frame facts old old
  stays_none old stands = record { goes = goes_none does known (λ other. other ≡ frame) facts old.connection; same_waiting = refl; stands_on = stands }

  abbrev pub stays_written : (old new : InFlight C) → StandsOn known facts old → WritesHere does frame old new → StaysHere does known frame facts old new
  stays_written old new stands writes = record {
    goes = goes_one does known (λ other. other ≡ frame) facts old.connection new.connection (Sent frame) writes.sent (inr (refl, stands.counts.vouched writes.stands));
    same_waiting = ap (λ (i : InFlight C). i.waiting.items) writes.same;
    stands_on = stands_here (Written frame) old new stands writes.same;
  }

  pub stays_unwritten : (old new : InFlight C) → StandsOn known facts old → WritesNotHere does frame old new → StaysHere does known frame facts old new
  stays_unwritten old new stands (StandsNowhere same) = subst (λ (i : InFlight C). StaysHere does known frame facts old i) (sym same) (stays_none old stands)
  stays_unwritten old new stands (BrokeHere stood cut same) = record {
    goes = goes_one does known (λ other. other ≡ frame) facts old.connection new.connection (Cut frame) cut (inr (refl, stands.counts.vouched stood));
    same_waiting = ap (λ (i : InFlight C). i.waiting.items) same;
    stands_on = stands_nowhere old new stands same;
  }

  abbrev pub stays_read : (came : Frame) (old new : InFlight C) → StandsOn known facts old → ReadsHere does came old new → StaysHere does known frame facts old new
  stays_read came old new stands reads = record {
    goes = goes_one does known (λ other. other ≡ frame) facts old.connection new.connection (Came came) reads.read tt;
    same_waiting = ap (λ (i : InFlight C). i.waiting.items) reads.same;
    stands_on = stands_here (Received came) old new stands reads.same;
  }

  abbrev pub stays_unread : (old new : InFlight C) → StandsOn known facts old → ReadsNotHere does old new → StaysHere does known frame facts old new
  stays_unread old new stands reads = record {
    goes = goes_one does known (λ other. other ≡ frame) facts old.connection new.connection Lost reads.lost tt;
    same_waiting = ap (λ (i : InFlight C). i.waiting.items) reads.same;
    stands_on = stands_nowhere old new stands reads.same;
  }

module _ {C : Type 0} (does : C → Event → C → Type 0) (known : KnownRequests) (frame : Frame) (facts : List Fact) where
  abbrev stays_on : (old now new : InFlight C) (first : StaysHere does known frame facts old now) → StaysHere does known frame (facts_after facts first.goes.events) now new → StaysHere does known frame facts old new
  stays_on old now new first second = record {
    goes = goes_on does known (λ other. other ≡ frame) facts old.connection now.connection new.connection first.goes second.goes;
    same_waiting = second.same_waiting ∙ first.same_waiting;
    stands_on = stands_later known facts first.goes.events second.goes.events new second.stands_on;
  }

  module _ (old now new : InFlight C) (stands : StandsOn known facts old) (writes : WritesHere does frame old now) where
    abbrev first : StaysHere does known frame facts old now
    first = stays_written does known frame facts old now stands writes

    pub stays_lost : ReadsNotHere does now new → StaysHere does known frame facts old new
    stays_lost reads = stays_on old now new first (stays_unread does known frame (facts ++ Written frame ∷ []) now new first.stands_on reads)

    module _ (came : Frame) (reads : ReadsHere does came now new) where
      pub stays_came : StaysHere does known frame facts old new
      stays_came = stays_on old now new first (stays_read does known frame (facts ++ Written frame ∷ []) came now new first.stands_on reads)

      pub answers_here : (reply : Reply) → IsReplyTo frame came reply → AnswersHere does known frame reply facts old new
      answers_here reply is_reply = record {
        middle = now.connection;
        came = came;
        sent = writes.sent;
        read = reads.read;
        vouched = stands.counts.vouched writes.stands;
        is_reply = is_reply;
        same_waiting = ap (λ (i : InFlight C). i.waiting.items) reads.same ∙ ap (λ (i : InFlight C). i.waiting.items) writes.same;
        stands_on = stands_here does known frame (facts ++ Written frame ∷ []) (Received came) now new first.stands_on reads.same;
      }

-- ---- pair after pair

last_or_before : (turn other : ℕ) → other < turn + 1 → (other < turn) ⊎ (other ≡ turn)
last_or_before zero zero below = inr refl
last_or_before zero (suc other) below = absurd (omega (arith, below))
last_or_before (suc turn) zero below = inl (omega arith)
last_or_before (suc turn) (suc other) below = elim (last_or_before turn other (omega (arith, below))) [
  | inl less ↦ inl (omega (arith, less))
  | inr same ↦ inr (ap suc same)
]

module _ (client : ℕ) (name : List ℕ) (options : Options) {C : Type 0} (does : C → Event → C → Type 0) (known : KnownRequests) (facts : List Fact) where
  abbrev its : ℕ → Frame
  its turn = profile_frame client name (with_pair turn options)

  of_pair : (turn : ℕ) (frame : Frame) → frame ≡ its turn → IsOfPair client name options frame
  of_pair turn frame is = (turn, is)

  abbrev pub tries_none : (old : InFlight C) → StandsOn known facts old → Tries client name options does known facts old old
  tries_none old stands = record { goes = goes_none does known (IsOfPair client name options) facts old.connection; same_waiting = refl; stands_on = stands }

  pub refuses_none : (old : InFlight C) → StandsOn known facts old → Refuses client name options does 0 known facts old old
  refuses_none old stands = record { tries = tries_none old stands; here = tt; refused = λ turn below. absurd (omega (arith, below)) }

  module _ (turn : ℕ) (old now new : InFlight C) (before : Refuses client name options does turn known facts old now) where
    abbrev then : List Fact
    then = facts_after facts before.tries.goes.events

    pub tries_on : StaysHere does known (its turn) then now new → Tries client name options does known facts old new
    tries_on stays = record {
      goes = goes_on does known (IsOfPair client name options) facts old.connection now.connection new.connection before.tries.goes
          (goes_in does known (λ other. other ≡ its turn) (IsOfPair client name options) then now.connection new.connection (of_pair turn) stays.goes);
      same_waiting = stays.same_waiting ∙ before.tries.same_waiting;
      stands_on = stands_later known facts before.tries.goes.events stays.goes.events new stays.stands_on;
    }

    module _ (reply : Reply) (answers : AnswersHere does known (its turn) reply then now new) where
      abbrev late : List Event
      late = Sent (its turn) ∷ Came answers.came ∷ []

      abbrev pair_goes : Goes does known (λ other. other ≡ its turn) then now.connection new.connection
      pair_goes = record { events = late; happened = (answers.middle, answers.sent, (new.connection, answers.read, refl)); only = (inr (refl, answers.vouched), (tt, tt)) }

      abbrev tried : Tries client name options does known facts old new
      tried = record {
        goes = goes_on does known (IsOfPair client name options) facts old.connection now.connection new.connection before.tries.goes
            (goes_in does known (λ other. other ≡ its turn) (IsOfPair client name options) then now.connection new.connection (of_pair turn) pair_goes);
        same_waiting = answers.same_waiting ∙ before.tries.same_waiting;
        stands_on = stands_later known facts before.tries.goes.events late new answers.stands_on;
      }

      its_answer : IsAnswered known facts (before.tries.goes.events ++ late) (its turn) reply
      its_answer = answered_after known facts before.tries.goes.events late (its turn) reply (record {
        came = answers.came;
        before = Sent (its turn) ∷ [];
        later = [];
        cut = refl;
        was_written = Contains-push then (Written (its turn));
        vouched = vouched_more known then (Written (its turn)) answers.vouched;
        is_reply = answers.is_reply;
      })

      all_here : AllByRecursion IsHere (before.tries.goes.events ++ late)
      all_here = all_append IsHere before.tries.goes.events late before.here (tt, (tt, tt))

      refused_one : (other : ℕ) → other < turn + 1 → (other < turn) ⊎ (other ≡ turn) → reply ≡ replies.Refused refusals.NumberReused → IsRefusedPair client name options known facts (before.tries.goes.events ++ late) other
      refused_one other below (inl less) is = answered_before known facts before.tries.goes.events late (its other) (replies.Refused refusals.NumberReused) (before.refused other less)
      refused_one other below (inr same) is = subst (λ (n : ℕ). IsRefusedPair client name options known facts (before.tries.goes.events ++ late) n) (sym same)
          (subst (λ (r : Reply). IsAnswered known facts (before.tries.goes.events ++ late) (its turn) r) is its_answer)

      -- the service refused this pair too
      pub refuses_more : reply ≡ replies.Refused refusals.NumberReused → Refuses client name options does (turn + 1) known facts old new
      refuses_more is = record { tries = tried; here = all_here; refused = λ other below. refused_one other below (last_or_before turn other below) is }

      -- it made a profile
      pub finds_made : (profile : ℕ) → reply ≡ replies.Made profile → Finds client name options does (Some (with_pair turn options)) known facts old new
      finds_made profile is = record {
        tries = tried;
        here = all_here;
        found_is = record { turn = turn; is = refl; profile = profile; made = subst (λ (r : Reply). IsAnswered known facts (before.tries.goes.events ++ late) (its turn) r) is its_answer };
      }

  -- it refused all pairs
  pub finds_none : (turns : ℕ) (old new : InFlight C) → 6 ≤ turns → Refuses client name options does turns known facts old new → Finds client name options does None known facts old new
  finds_none turns old new all refuses = record { tries = refuses.tries; here = refuses.here; found_is = λ turn below. refuses.refused turn (omega (arith, all, below)) }

-- ---- a sender that is the same, but for what is in flight

pub same_profile : (client client_now : ℕ) (name name_now : List ℕ) (options : Options) → client_now ≡ client → name_now ≡ name → profile_frame client_now name_now options ≡ profile_frame client name options
same_profile client client_now name name_now options same named =
    ap (λ (c : ℕ). profile_frame c name_now options) same ∙ ap (λ (n : List ℕ). profile_frame client n options) named

pub its_stays : {C : Type 0} (does : C → Event → C → Type 0) (known : KnownRequests) (facts : List Fact) (client client_now : ℕ) (name name_now : List ℕ) (options : Options) (old new : InFlight C) → client_now ≡ client → name_now ≡ name
    → StaysHere does known (profile_frame client_now name_now options) facts old new → StaysHere does known (profile_frame client name options) facts old new
its_stays does known facts client client_now name name_now options old new same named stays =
    subst (λ (f : Frame). StaysHere does known f facts old new) (same_profile client client_now name name_now options same named) stays

pub its_answers : {C : Type 0} (does : C → Event → C → Type 0) (known : KnownRequests) (facts : List Fact) (client client_now : ℕ) (name name_now : List ℕ) (options : Options) (reply : Reply) (old new : InFlight C) → client_now ≡ client → name_now ≡ name
    → AnswersHere does known (profile_frame client_now name_now options) reply facts old new → AnswersHere does known (profile_frame client name options) reply facts old new
its_answers does known facts client client_now name name_now options reply old new same named answers =
    subst (λ (f : Frame). AnswersHere does known f reply facts old new) (same_profile client client_now name name_now options same named) answers
