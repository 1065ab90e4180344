-- The frames in flight, and the replies to them.
use Rattle.std.proofs.Common.{◌≡◌, ◌<◌, ◌≤◌, ℕ, ◌+◌, ◌-◌, true, List, [], ◌∷◌, ◌++◌, Contains, take, drop, length, inl, inr, sym, ap, subst, ◌∙◌, length-append, length-drop, arith}
use Rattle.std.specs.List.{AllByRecursion}
use Rattle.std.proofs.lemmas.List.{drop_at, take-append-drop, take-take, take_at}
use Rattle.std.proofs.lemmas.List.Elements.{Contains-append_left, Contains-append_right, Contains-push, Contains-push_cases}
use Rattle.droid_frame.specs.declared.frame.Frame.{Frame}
use Rattle.droid_frame.specs.declared.reply.Reply.{Reply}
use Rattle.droid_frame.specs.declared.reply.Reply.TheVariants as replies
use Rattle.droid_frame.specs.Replies.{SpellsReply, reply_bytes, reply_kind}
use Rattle.droid_remote.specs.Answering.{IsAnswered, IsReplyTo, IsTaken, IsTo}
use Rattle.droid_remote.specs.Chains.{GoesOver}
use Rattle.droid_remote.specs.Calls.{Fails, Hears, IsAmong, Puts, Sends, Settles, Takes, Tries, Waited}
use Rattle.droid_remote.specs.Events.{Event, Came, Lost, Paused, Started, EndsIn, Fact, Written, Received, facts_after}
use Rattle.droid_remote.specs.Moves.{Goes, Moves, ReadsNothing, Stops}
use Rattle.droid_remote.specs.Stages.{AreIn, CountsOn, HasFirst, StandsOn, counted}
use Rattle.droid_remote.specs.TransferFaults.{Explains, ExplainsBody, ExplainsPiece, is_refusal}
use Rattle.droid_remote.specs.Vouching.{IsRepeated, remember, remember_as, reply_to}
use Rattle.droid_remote.specs.declared.transfer.connection_steps.Stage.{Stage}
use Rattle.droid_remote.specs.declared.transfer.connection_steps.Stage.TheVariants.{Nowhere}
use Rattle.droid_remote.specs.declared.transfer.in_flight.InFlight.{InFlight}
use Rattle.droid_remote.specs.declared.transfer.known_requests.Known.{Known}
use Rattle.droid_remote.specs.declared.transfer.known_requests.KnownRequests.{KnownRequests}
use Rattle.droid_remote.specs.declared.transfer.transfer_fault.TransferFault.{TransferFault}
use Rattle.droid_remote.specs.declared.transfer.transfer_fault.TransferFault.TheVariants.{Memory, Broken, Stranger, Restarted, Refused, Busy}
use Rattle.droid_remote.proofs.Counting.{counts_nowhere, in_front, in_rest, take_on, vouched_known, vouched_more}
use Rattle.droid_remote.proofs.Going.{all_append, all_taken_after, all_taken_before, answered_after, ends_after, explains_after, explains_before, facts_append, goes_in, goes_none, goes_on, goes_one, moves_on, stops_on}

-- the next frame is among the first `count`
pub next_in : (place count : ℕ) (xs : List Frame) → place < count → AreIn (take 1 (drop place xs)) (take count xs)
next_in place count xs below frame there =
    let more : Contains (take (place + 1) xs) frame = subst (λ (l : List Frame). Contains l frame) (take_on place xs) (Contains-append_right (take place xs) (take 1 (drop place xs)) frame there) in
    in_front (place + 1) (take count xs) frame (subst (λ (l : List Frame). Contains l frame) (sym (take-take (place + 1) count xs (omega arith))) more)

-- ---- the frame of a reply

abbrev made_of : ℕ → ℕ → ℕ → ℕ → List ℕ → Frame
made_of version kind client number body = record { version = version; kind = kind; client = client; number = number; body = body }

same_made : (v w k l c d n m : ℕ) (b a : List ℕ) → v ≡ w → k ≡ l → c ≡ d → n ≡ m → b ≡ a → made_of v k c n b ≡ made_of w l d m a
same_made v w k l c d n m b a p q r s t = cc

-- a request and a reply have one frame for the reply
pub came_is : (frame came : Frame) (reply : Reply) → IsReplyTo frame came reply → came ≡ reply_to frame reply
came_is frame came reply is =
    same_made came.version frame.version came.kind (reply_kind reply) came.client frame.client came.number frame.number came.body (reply_bytes frame.version reply) is.to.version is.spelled.kind_is is.to.client is.to.number
    (is.spelled.body_is ∙ ap (λ (v : ℕ). reply_bytes v reply) is.to.version)

abbrev known_by : Frame → Frame → Known
known_by request reply = record { request = request; reply = reply }

same_known : (one other came then : Frame) → one ≡ other → came ≡ then → known_by one came ≡ known_by other then
same_known one other came then p q = cc

-- why no reply could be read from the frame that came
body_explains : (known : KnownRequests) (Is : Frame → Type 0) (pieces : List Frame) (facts : List Fact) (events : List Event) (answer : Known) → Is answer.request → EndsIn events (Came answer.reply ∷ []) → (fault : TransferFault) → ExplainsBody fault answer.reply
    → Explains fault known Is pieces facts events
body_explains known Is pieces facts events answer there last Memory why = tt
body_explains known Is pieces facts events answer there last Stranger why = record { frame = answer.request; came = answer.reply; is = there; last = last; no_reply = λ reply is. absurd (why reply is.spelled) }
body_explains known Is pieces facts events answer there last (Refused refusal) why = absurd why
body_explains known Is pieces facts events answer there last Broken why = absurd why
body_explains known Is pieces facts events answer there last Restarted why = absurd why
body_explains known Is pieces facts events answer there last Busy why = absurd why

module _ {C : Type 0} (does : C → Event → C → Type 0) (known : KnownRequests) where
  -- ---- tries

  pub reads_nothing : (Is : Frame → Type 0) (facts : List Fact) (old new : C) → ReadsNothing does old new → Goes does known Is facts old new
  reads_nothing Is facts old new (inl same) = subst (λ (c : C). Goes does known Is facts old c) (sym same) (goes_none does known Is facts old)
  reads_nothing Is facts old new (inr lost) = goes_one does known Is facts old new Lost lost tt

  abbrev pub tries_none : (facts : List Fact) (old : InFlight C) → StandsOn known facts old → Tries does known facts old old
  tries_none facts old on = record { goes = goes_none does known (Contains old.waiting.items) facts old.connection; stands_on = on }

  abbrev pub tries_on : (facts : List Fact) (old now new : InFlight C) (first : Tries does known facts old now) (second : Goes does known (Contains now.waiting.items) (facts_after facts first.goes.events) now.connection new.connection)
      → StandsOn known (facts_after (facts_after facts first.goes.events) second.events) new → AreIn now.waiting.items old.waiting.items → Tries does known facts old new
  tries_on facts old now new first second on are = record {
    goes = goes_on does known (Contains old.waiting.items) facts old.connection now.connection new.connection first.goes
        (goes_in does known (Contains now.waiting.items) (Contains old.waiting.items) (facts_after facts first.goes.events) now.connection new.connection are second);
    stands_on = subst (λ (l : List Fact). StandsOn known l new) (sym (facts_append facts first.goes.events second.events)) on;
  }

  -- a pause, and the start of the time to wait
  abbrev pub tries_paused : (facts : List Fact) (old now new : InFlight C) (first : Tries does known facts old now) → now.waiting.items ≡ old.waiting.items → Waited does Paused now new → Tries does known facts old new
  tries_paused facts old now new first same waited =
      tries_on facts old now new first (goes_one does known (Contains now.waiting.items) (facts_after facts first.goes.events) now.connection new.connection Paused waited.happened tt)
      (waited.stands_on known (facts_after facts first.goes.events) first.stands_on) (λ frame there. subst (λ (l : List Frame). Contains l frame) same there)

  abbrev pub tries_started : (facts : List Fact) (old now new : InFlight C) (first : Tries does known facts old now) → now.waiting.items ≡ old.waiting.items → Waited does Started now new → Tries does known facts old new
  tries_started facts old now new first same waited =
      tries_on facts old now new first (goes_one does known (Contains now.waiting.items) (facts_after facts first.goes.events) now.connection new.connection Started waited.happened tt)
      (waited.stands_on known (facts_after facts first.goes.events) first.stands_on) (λ frame there. subst (λ (l : List Frame). Contains l frame) same there)

  -- a pause and one more try
  pub tries_again : (count : ℕ) (facts : List Fact) (old now paused new : InFlight C) (tries : Tries does known facts old now) → count ≤ length tries.goes.events → now.waiting.items ≡ old.waiting.items → Waited does Paused now paused
      → ((then : List Fact) → StandsOn known then paused → Tries does known then paused new) → (later : Tries does known facts old new) × (count + 1 ≤ length later.goes.events)
  tries_again count facts old now paused new tries many same waited again =
      let rested : Tries does known facts old paused = tries_paused facts old now paused tries same waited in
      let last = again (facts_after facts (tries.goes.events ++ Paused ∷ [])) rested.stands_on in (
        tries_on facts old paused new rested last.goes last.stands_on (λ frame there. subst (λ (l : List Frame). Contains l frame) (waited.same_waiting ∙ same) there),
        omega (arith, many, length-append (tries.goes.events ++ Paused ∷ []) last.goes.events, length-append tries.goes.events (Paused ∷ [])),
      )

  pub hears_on : (came : Frame) (facts : List Fact) (old now new : InFlight C) (tries : Tries does known facts old now) → now.waiting.items ≡ old.waiting.items
      → Hears does known came (facts_after facts tries.goes.events) now new → Hears does known came facts old new
  hears_on came facts old now new tries same hears = record {
    stage = hears.stage;
    middle = hears.middle;
    ahead = moves_on does known (Contains old.waiting.items) facts hears.stage old.waiting.items old.connection now.connection hears.middle tries.goes
        (subst (λ (l : List Frame). Moves does known (Contains l) (facts_after facts tries.goes.events) hears.stage l now.connection hears.middle) same hears.ahead);
    stands = hears.stands;
    first = subst (λ (l : List Frame). HasFirst hears.stage l) same hears.first;
    last = hears.last;
    same_known = hears.same_known;
    behind = subst (λ (l : List Frame). (rest : List Frame) → AreIn rest l → AreIn (counted new.stage rest) (counted hears.stage l)) same hears.behind;
  }

  pub stops_later : (fault : TransferFault) (facts : List Fact) (old now : InFlight C) (new : C) (tries : Tries does known facts old now) → now.waiting.items ≡ old.waiting.items
      → Stops does known (Contains now.waiting.items) [] fault (facts_after facts tries.goes.events) now.connection new → Stops does known (Contains old.waiting.items) [] fault facts old.connection new
  stops_later fault facts old now new tries same stops =
      stops_on does known (Contains old.waiting.items) fault facts old.connection now.connection new tries.goes
      (subst (λ (l : List Frame). Stops does known (Contains l) [] fault (facts_after facts tries.goes.events) now.connection new) same stops)

  -- ---- a reply to the first frame

  module _ (facts : List Fact) (answer : Known) (rest : List Frame) (old now : InFlight C) (hears : Hears does known answer.reply facts old now) where
    abbrev pub takes_goes : Goes does known (Contains old.waiting.items) facts old.connection now.connection
    takes_goes =
        goes_on does known (Contains old.waiting.items) facts old.connection hears.middle now.connection hears.ahead.goes
        (goes_one does known (Contains old.waiting.items) (facts_after facts hears.ahead.goes.events) hears.middle now.connection (Came answer.reply) hears.last tt)

    pub takes_counts : AreIn rest old.waiting.items → CountsOn now.stage known rest (facts_after facts (hears.ahead.goes.events ++ Came answer.reply ∷ []))
    takes_counts are =
        subst (λ (l : List Fact). CountsOn now.stage known rest l) (sym (facts_append facts hears.ahead.goes.events (Came answer.reply ∷ [])))
        (record {
          written = λ frame there. Contains-append_left (facts_after facts hears.ahead.goes.events) (Received answer.reply ∷ []) (Written frame) (hears.ahead.counts.written frame (hears.behind rest are frame there));
          vouched = λ stands. vouched_more known (facts_after facts hears.ahead.goes.events) (Received answer.reply) (hears.ahead.counts.vouched hears.stands);
        })

  module _ (facts : List Fact) (answer : Known) (old now : InFlight C) (takes : Takes does known answer facts old now) where
    abbrev pub answer_is : (reply : Reply) → IsTo answer.request answer.reply → SpellsReply answer.reply.version answer.reply.kind answer.reply.body reply → IsAnswered known facts takes.goes.events answer.request reply
    answer_is reply to spelled = record {
      came = answer.reply;
      before = takes.before;
      later = [];
      cut = takes.cut;
      was_written = takes.was_written;
      vouched = takes.vouched;
      is_reply = record { to = to; spelled = spelled };
    }

    pub repeated_by : IsRepeated (facts_after facts takes.goes.events) answer
    repeated_by =
        subst (λ (events : List Event). IsRepeated (facts_after facts events) answer) (sym takes.cut)
        (subst (λ (l : List Fact). IsRepeated l answer) (sym (facts_append facts takes.before (Came answer.reply ∷ [])))
        (record {
          written = Contains-append_left (facts_after facts takes.before) (Received answer.reply ∷ []) (Written answer.request) takes.was_written;
          received = Contains-push (facts_after facts takes.before) (Received answer.reply);
        }))

    -- why the reply to a piece ends a call
    pub piece_explains : (pieces : List Frame) → Contains pieces answer.request → Contains old.waiting.items answer.request → IsTo answer.request answer.reply → (fault : TransferFault) → ExplainsPiece fault answer.reply
        → Explains fault known (Contains old.waiting.items) pieces facts takes.goes.events
    piece_explains pieces among there to Memory why = tt
    piece_explains pieces among there to Stranger why = record { frame = answer.request; came = answer.reply; is = there; last = (takes.before, takes.cut); no_reply = λ reply is. why reply is.spelled }
    piece_explains pieces among there to (Refused refusal) why = record { frame = answer.request; is = among; answered = answer_is (replies.Refused refusal) to why.0; reason = why.1 }
    piece_explains pieces among there to Broken why = absurd why
    piece_explains pieces among there to Restarted why = absurd why
    piece_explains pieces among there to Busy why = absurd why

  -- ---- faults

  abbrev pub fails_reset : (Is : Frame → Type 0) (pieces : List Frame) (fault : TransferFault) (facts : List Fact) (old now new : InFlight C) → Stops does known Is pieces fault facts old.connection now.connection → now.known ≡ known
      → new.connection ≡ now.connection → new.known ≡ now.known → new.waiting.items ≡ [] → new.stage ≡ Nowhere → Fails does known Is pieces fault facts old new
  fails_reset Is pieces fault facts old now new stops knows connected same none nowhere =
      let here : Stops does known Is pieces fault facts old.connection new.connection = subst (λ (c : C). Stops does known Is pieces fault facts old.connection c) (sym connected) stops in
      record {
        none = none;
        stops = here;
        stands_on = record {
          same = same ∙ knows;
          counts = subst (λ (s : Stage). CountsOn s known new.waiting.items (facts_after facts here.goes.events)) (sym nowhere) (counts_nowhere known new.waiting.items (facts_after facts here.goes.events));
        };
      }

  pub fails_on : (Is Other : Frame → Type 0) (pieces more : List Frame) (fault : TransferFault) (facts : List Fact) (old now new : InFlight C) (first : Goes does known Other facts old.connection now.connection)
      → ((frame : Frame) → Is frame → Other frame) → AreIn pieces more → Fails does known Is pieces fault (facts_after facts first.events) now new → Fails does known Other more fault facts old new
  fails_on Is Other pieces more fault facts old now new first in_it in_more fails = record {
    none = fails.none;
    stops = record {
      goes = goes_on does known Other facts old.connection now.connection new.connection first (goes_in does known Is Other (facts_after facts first.events) now.connection new.connection in_it fails.stops.goes);
      explained = explains_after known Is Other pieces more in_it in_more facts first.events fails.stops.goes.events fault fails.stops.explained;
    };
    stands_on = subst (λ (l : List Fact). StandsOn known l new) (sym (facts_append facts first.events fails.stops.goes.events)) fails.stands_on;
  }

  pub fails_in : (Is Other : Frame → Type 0) (pieces more : List Frame) (fault : TransferFault) (facts : List Fact) (old new : InFlight C)
      → ((frame : Frame) → Is frame → Other frame) → AreIn pieces more → Fails does known Is pieces fault facts old new → Fails does known Other more fault facts old new
  fails_in Is Other pieces more fault facts old new in_it in_more fails = fails_on Is Other pieces more fault facts old old new (goes_none does known Other facts old.connection) in_it in_more fails

  -- the first frame was refused, and the replies to the others were read
  pub refused_first : (facts : List Fact) (answer : Known) (fault : TransferFault) (old now new : InFlight C) (takes : Takes does known answer facts old now) → old.waiting.items ≡ answer.request ∷ now.waiting.items
      → IsTo answer.request answer.reply → ExplainsPiece fault answer.reply → is_refusal fault ≡ true → Tries does known (facts_after facts takes.goes.events) now new → new.waiting.items ≡ []
      → Fails does known (Contains old.waiting.items) (take 1 old.waiting.items) fault facts old new
  refused_first facts answer fault old now new takes first to why refused tries none =
      let within : AreIn now.waiting.items old.waiting.items = λ frame there. subst (λ (l : List Frame). Contains l frame) (sym first) (Contains-append_right (answer.request ∷ []) now.waiting.items frame there) in
      let front : Contains (take 1 old.waiting.items) answer.request = subst (λ (l : List Frame). Contains (take 1 l) answer.request) (sym first) (Contains-push [] answer.request) in
      record {
        none = none;
        stops = record {
          goes = goes_on does known (Contains old.waiting.items) facts old.connection now.connection new.connection takes.goes
              (goes_in does known (Contains now.waiting.items) (Contains old.waiting.items) (facts_after facts takes.goes.events) now.connection new.connection within tries.goes);
          explained = explains_before known (Contains old.waiting.items) (take 1 old.waiting.items) facts takes.goes.events tries.goes.events fault refused
              (piece_explains facts answer old now takes (take 1 old.waiting.items) front (in_front 1 old.waiting.items answer.request front) to fault why);
        };
        stands_on = subst (λ (l : List Fact). StandsOn known l new) (sym (facts_append facts takes.goes.events tries.goes.events)) tries.stands_on;
      }

  -- ---- replies that are Taken

  pub settles_first : (facts : List Fact) (answer : Known) (old new : InFlight C) (takes : Takes does known answer facts old new) → old.waiting.items ≡ answer.request ∷ new.waiting.items → IsTo answer.request answer.reply
      → (held : ℕ) × SpellsReply answer.reply.version answer.reply.kind answer.reply.body (replies.Taken held) → Settles does known (take 1 old.waiting.items) facts old new
  settles_first facts answer old new takes first to spelled = record {
    goes = takes.goes;
    taken = subst (λ (l : List Frame). AllByRecursion (IsTaken known facts takes.goes.events) (take 1 l)) (sym first) ((spelled.0, answer_is facts answer old new takes (replies.Taken spelled.0) to spelled.1), tt);
    stands_on = takes.stands_on;
  }

  pub settles_none : (facts : List Fact) (old : InFlight C) → StandsOn known facts old → Settles does known [] facts old old
  settles_none facts old on = record { goes = goes_none does known (Contains old.waiting.items) facts old.connection; taken = tt; stands_on = on }

  pub settles_more : (count : ℕ) (facts : List Fact) (old now new : InFlight C) (settles : Settles does known (take count old.waiting.items) facts old now) → now.waiting.items ≡ drop count old.waiting.items
      → Settles does known (take 1 now.waiting.items) (facts_after facts settles.goes.events) now new → Settles does known (take (count + 1) old.waiting.items) facts old new
  settles_more count facts old now new settles left next =
      let waiting = old.waiting.items in
      let within : AreIn now.waiting.items waiting = λ frame there. in_rest count waiting frame (subst (λ (l : List Frame). Contains l frame) left there) in
      let events : List Event = settles.goes.events ++ next.goes.events in
      let cut : take count waiting ++ take 1 now.waiting.items ≡ take (count + 1) waiting = ap (λ (l : List Frame). take count waiting ++ take 1 l) left ∙ take_on count waiting in
      record {
        goes = goes_on does known (Contains waiting) facts old.connection now.connection new.connection settles.goes
            (goes_in does known (Contains now.waiting.items) (Contains waiting) (facts_after facts settles.goes.events) now.connection new.connection within next.goes);
        taken = subst (λ (l : List Frame). AllByRecursion (IsTaken known facts events) l) cut
            (all_append (IsTaken known facts events) (take count waiting) (take 1 now.waiting.items) (all_taken_before known facts settles.goes.events next.goes.events (take count waiting) settles.taken)
            (all_taken_after known facts settles.goes.events next.goes.events (take 1 now.waiting.items) next.taken));
        stands_on = subst (λ (l : List Fact). StandsOn known l new) (sym (facts_append facts settles.goes.events next.goes.events)) next.stands_on;
      }

  pub sends_on : (count : ℕ) (frame : Frame) (facts : List Fact) (old now new : InFlight C) → count ≡ length old.waiting.items - 15 → (settles : Settles does known (take count old.waiting.items) facts old now)
      → now.waiting.items ≡ drop count old.waiting.items → Puts does known frame (facts_after facts settles.goes.events) now new → new.waiting.items ≡ now.waiting.items ++ frame ∷ [] → Sends does known frame facts old new
  sends_on count frame facts old now new due settles left puts behind =
      let waiting = old.waiting.items in
      let shorter : length now.waiting.items ≡ length waiting - count = ap (λ (l : List Frame). length l) left ∙ length-drop count waiting in
      let longer : length new.waiting.items ≡ length now.waiting.items + 1 = ap (λ (l : List Frame). length l) behind ∙ length-append now.waiting.items (frame ∷ []) in
      record {
        settled = take count waiting;
        others = drop count waiting;
        cut = sym (take-append-drop count waiting);
        behind = behind ∙ ap (λ (l : List Frame). l ++ frame ∷ []) left;
        few = omega (arith, due, shorter, longer);
        goes = goes_on does known (IsAmong waiting frame) facts old.connection now.connection new.connection
            (goes_in does known (Contains waiting) (IsAmong waiting frame) facts old.connection now.connection (λ other there. inl there) settles.goes)
            (goes_in does known (λ other. other ≡ frame) (IsAmong waiting frame) (facts_after facts settles.goes.events) now.connection new.connection (λ other same. inr same) puts.goes);
        taken = all_taken_before known facts settles.goes.events puts.goes.events (take count waiting) settles.taken;
        stands_on = subst (λ (l : List Fact). StandsOn known l new) (sym (facts_append facts settles.goes.events puts.goes.events)) puts.stands_on;
      }

  -- ---- a reply that is waited for

  module _ (count : ℕ) (frame : Frame) (facts : List Fact) (old sent : InFlight C) (due : count ≡ length sent.waiting.items - 1) (sends : Sends does known frame facts old sent) where
    long : length sends.others ≡ count
    long = omega (arith, due, ap (λ (l : List Frame). length l) sends.behind, length-append sends.others (frame ∷ []))

    front : take count sent.waiting.items ≡ sends.others
    front = ap (λ (l : List Frame). take count l) sends.behind ∙ take_at sends.others (frame ∷ []) count long

    end : drop count sent.waiting.items ≡ frame ∷ []
    end = ap (λ (l : List Frame). drop count l) sends.behind ∙ drop_at sends.others (frame ∷ []) count long

    pub among_sent : (other : Frame) → Contains sent.waiting.items other → IsAmong old.waiting.items frame other
    among_sent other there = elim (Contains-push_cases sends.others frame other (subst (λ (l : List Frame). Contains l other) sends.behind there)) [
      | inl before ↦ inl (subst (λ (l : List Frame). Contains l other) (sym sends.cut) (Contains-append_right sends.settled sends.others other before))
      | inr same ↦ inr (sym same)
    ]

    pub pieces_sent : AreIn (take count sent.waiting.items) old.waiting.items
    pieces_sent other there = subst (λ (l : List Frame). Contains l other) (sym sends.cut) (Contains-append_right sends.settled sends.others other (subst (λ (l : List Frame). Contains l other) front there))

    module _ (settled : InFlight C) (settles : Settles does known (take count sent.waiting.items) (facts_after facts sends.goes.events) sent settled) (left : settled.waiting.items ≡ drop count sent.waiting.items) where
      pub among_settled : (other : Frame) → Contains settled.waiting.items other → IsAmong old.waiting.items frame other
      among_settled other there = among_sent other (in_rest count sent.waiting.items other (subst (λ (l : List Frame). Contains l other) left there))

      abbrev pub both_goes : Goes does known (IsAmong old.waiting.items frame) facts old.connection settled.connection
      both_goes =
          goes_on does known (IsAmong old.waiting.items frame) facts old.connection sent.connection settled.connection sends.goes
          (goes_in does known (Contains sent.waiting.items) (IsAmong old.waiting.items frame) (facts_after facts sends.goes.events) sent.connection settled.connection among_sent settles.goes)

      pub both_stand : StandsOn known (facts_after facts (sends.goes.events ++ settles.goes.events)) settled
      both_stand = subst (λ (l : List Fact). StandsOn known l settled) (sym (facts_append facts sends.goes.events settles.goes.events)) settles.stands_on

      module _ (answer : Known) (last : InFlight C) (takes : Takes does known answer (facts_after facts (sends.goes.events ++ settles.goes.events)) settled last) (first : settled.waiting.items ≡ answer.request ∷ last.waiting.items) (to : IsTo answer.request answer.reply) where
        its : answer.request ≡ frame
        its = let same : answer.request ∷ last.waiting.items ≡ frame ∷ [] = sym first ∙ (left ∙ end) in cc

        abbrev pub all_goes : Goes does known (IsAmong old.waiting.items frame) facts old.connection last.connection
        all_goes =
            goes_on does known (IsAmong old.waiting.items frame) facts old.connection settled.connection last.connection both_goes
            (goes_in does known (Contains settled.waiting.items) (IsAmong old.waiting.items frame) (facts_after facts (sends.goes.events ++ settles.goes.events)) settled.connection last.connection among_settled takes.goes)

        pub all_taken : AllByRecursion (IsTaken known facts ((sends.goes.events ++ settles.goes.events) ++ takes.goes.events)) old.waiting.items
        all_taken =
            let Is : Frame → Type 0 = IsTaken known facts (sends.goes.events ++ settles.goes.events) in
            all_taken_before known facts (sends.goes.events ++ settles.goes.events) takes.goes.events old.waiting.items
            (subst (λ (l : List Frame). AllByRecursion Is l) (sym sends.cut)
            (all_append Is sends.settled sends.others (all_taken_before known facts sends.goes.events settles.goes.events sends.settled sends.taken)
            (all_taken_after known facts sends.goes.events settles.goes.events sends.others
            (subst (λ (l : List Frame). AllByRecursion (IsTaken known (facts_after facts sends.goes.events) settles.goes.events) l) front settles.taken))))

        pub now_answered : (reply : Reply) → SpellsReply answer.reply.version answer.reply.kind answer.reply.body reply → IsAnswered known facts ((sends.goes.events ++ settles.goes.events) ++ takes.goes.events) frame reply
        now_answered reply spelled =
            subst (λ (f : Frame). IsAnswered known facts ((sends.goes.events ++ settles.goes.events) ++ takes.goes.events) f reply) its
            (answered_after known facts (sends.goes.events ++ settles.goes.events) takes.goes.events answer.request reply
            (answer_is (facts_after facts (sends.goes.events ++ settles.goes.events)) answer settled last takes reply to spelled))

        -- what is known then
        pub now_stands : (reply : Reply) (new : InFlight C) → SpellsReply answer.reply.version answer.reply.kind answer.reply.body reply → new.known ≡ remember_as last.known answer reply → new.stage ≡ last.stage
            → new.waiting.items ≡ last.waiting.items → StandsOn (remember known frame reply) (facts_after facts ((sends.goes.events ++ settles.goes.events) ++ takes.goes.events)) new
        now_stands reply new spelled knows same_stage same_waiting =
            let early : List Event = sends.goes.events ++ settles.goes.events in
            let then : List Fact = facts_after (facts_after facts early) takes.goes.events in
            let is : answer.reply ≡ reply_to frame reply = subst (λ (f : Frame). answer.reply ≡ reply_to f reply) its (came_is answer.request answer.reply reply (record { to = to; spelled = spelled })) in
            let same : answer ≡ known_by frame (reply_to frame reply) = same_known answer.request frame answer.reply (reply_to frame reply) its is in
            let counts : CountsOn last.stage (remember_as known answer reply) last.waiting.items then = record {
              written = takes.stands_on.counts.written;
              vouched = λ stands. vouched_known known then answer reply (takes.stands_on.counts.vouched stands) (repeated_by (facts_after facts early) answer settled last takes);
            } in
            subst (λ (l : List Fact). StandsOn (remember known frame reply) l new) (sym (facts_append facts early takes.goes.events))
            (record {
              same = knows ∙ (ap (λ (k : KnownRequests). remember_as k answer reply) takes.stands_on.same ∙ ap (λ (a : Known). remember_as known a reply) same);
              counts = subst (λ (s : Stage). CountsOn s (remember known frame reply) new.waiting.items then) (sym same_stage)
                  (subst (λ (l : List Frame). CountsOn last.stage (remember known frame reply) l then) (sym same_waiting)
                  (subst (λ (a : Known). CountsOn last.stage (remember_as known a reply) last.waiting.items then) same counts));
            })

        -- no reply could be read
        pub now_fails : (fault : TransferFault) (new : InFlight C) → ExplainsBody fault answer.reply → new.known ≡ last.known → new.stage ≡ last.stage → new.waiting.items ≡ last.waiting.items → new.connection ≡ last.connection → last.waiting.items ≡ []
            → Fails does known (IsAmong old.waiting.items frame) old.waiting.items fault facts old new
        now_fails fault new why knows same_stage same_waiting connected none =
            let early : List Event = sends.goes.events ++ settles.goes.events in
            let then : List Fact = facts_after (facts_after facts early) takes.goes.events in
            let counts : CountsOn new.stage known new.waiting.items then =
            subst (λ (s : Stage). CountsOn s known new.waiting.items then) (sym same_stage) (subst (λ (l : List Frame). CountsOn last.stage known l then) (sym same_waiting) takes.stands_on.counts) in
            let last_one : EndsIn (early ++ takes.goes.events) (Came answer.reply ∷ []) = ends_after early takes.goes.events (Came answer.reply ∷ []) (takes.before, takes.cut) in
            record {
              none = same_waiting ∙ none;
              stops = record {
                goes = record {
                  events = early ++ takes.goes.events;
                  happened = subst (λ (c : C). GoesOver does old.connection (early ++ takes.goes.events) c) (sym connected) all_goes.happened;
                  only = all_goes.only;
                };
                explained = body_explains known (IsAmong old.waiting.items frame) old.waiting.items facts (early ++ takes.goes.events) answer (inr its) last_one fault why;
              };
              stands_on = subst (λ (l : List Fact). StandsOn known l new) (sym (facts_append facts early takes.goes.events)) (record { same = knows ∙ takes.stands_on.same; counts = counts });
            }
