-- What holds at the end of a schedule, and what that says of the answers that are held.
use Rattle.std.proofs.Common.{◌≡◌, ◌≢◌, ℕ, zero, suc, ◌+◌, ◌-◌, ◌^◌, ◌==◌, ◌&&◌, Bool, true, false, eqb, ltb, List, [], ◌∷◌, ◌++◌, map, Option, Some, None, refl, sym, ap, ◌∙◌, subst, arith, inl, inr, append_assoc}
use Rattle.std.specs.Bool.{if◌then◌else◌}
use Rattle.std.specs.List.{slice_get}
use Rattle.std.proofs.lemmas.Bool.Decides.{eqb_tells}
use Rattle.std.proofs.lemmas.List.Elements.{Contains-append_left}
use Rattle.droid_frame.specs.declared.frame.Frame.{Frame}
use Rattle.droid_frame.specs.declared.refusal.Refusal.TheVariants.{NumberReused}
use Rattle.droid_frame.specs.declared.reply.Reply.{Reply}
use Rattle.droid_frame.specs.declared.reply.Reply.TheVariants.{Refused}
use Rattle.droid_frame.specs.declared.request.Request.{Request}
use Rattle.droid_core_spec.specs.Histories.{History, is_under}
use Rattle.droid_client.specs.declared.slot.Slot.{Slot}
use Rattle.droid_client.specs.declared.slot.State.{State}
use Rattle.droid_client.specs.declared.slot.State.TheVariants.{Pending, Answered}
use Rattle.droid_client.specs.Cores.{Core, answer_in, new_core, next_frame, next_number, slot_answer, slot_at}
use Rattle.droid_wire.specs.Desks.{Desk, IsDesk, is_command, is_refused}
use Rattle.droid_wire.specs.Schedules.{AreHeld, AreOnce, AreOnes, Event, Submits, Arrives, FailsForMemory, Replies, Drops, IsOnlyEntry, Moment, NoneReused, Sent, Failure, WasAnswer, arrived, happens, replied, run, start, submitted, wanted}
use Rattle.droid_client.proofs.Elements.{counted}
use Rattle.droid_client.proofs.Numbers.{slot_found}
use Rattle.droid_wire.proofs.Invariant.{Within, Says, Refusing, Kept, Reported, IsSlot, IsState, Holds, same_within}
use Rattle.droid_wire.proofs.Steps.{Marks, keeps}

-- ---- frames are never taken back

within_if : (b : Bool) (old new : Moment) → Within old.frames new.frames → Within old.frames (if b then new else old).frames
within_if true old new more = more
within_if false old new more = same_within old.frames

within_submitted : (moment : Moment) (which : ℕ) (version : ℕ) (request : Request) (o : Option Core) → Within moment.frames (submitted moment which version request o).frames
within_submitted moment which version request None = same_within moment.frames
within_submitted moment which version request (Some core) = within_if (ltb (next_number core) (2 ^ 63)) moment _ (Contains-append_left moment.frames (next_frame core version request ∷ []))

within_arrived : (desk : Desk) (moment : Moment) (o : Option Frame) → Within moment.frames (arrived desk moment o).frames
within_arrived desk moment None = same_within moment.frames
within_arrived desk moment (Some frame) = same_within moment.frames

within_wanted : (desk : Desk) (moment : Moment) (failure : Failure) (o : Option Frame) → Within moment.frames (wanted desk moment failure o).frames
within_wanted desk moment failure None = same_within moment.frames
within_wanted desk moment failure (Some frame) = within_if (desk.is_spelled frame) moment _ (same_within moment.frames)

within_replied : (moment : Moment) (which : ℕ) (o : Option Core) (s : Option Sent) → Within moment.frames (replied moment which o s).frames
within_replied moment which None s = same_within moment.frames
within_replied moment which (Some core) None = same_within moment.frames
within_replied moment which (Some core) (Some sent) = same_within moment.frames

within_step : (desk : Desk) (moment : Moment) (event : Event) → Within moment.frames (happens desk moment event).frames
within_step desk moment (Submits which version request) = within_submitted moment which version request (slice_get moment.cores which)
within_step desk moment (Arrives which) = within_arrived desk moment (slice_get moment.frames which)
within_step desk moment (FailsForMemory which failure) = within_wanted desk moment failure (slice_get moment.frames which)
within_step desk moment (Replies which at) = within_replied moment which (slice_get moment.cores which) (slice_get moment.replies at)
within_step desk moment (Drops which at) = same_within moment.frames

within_run : (desk : Desk) (events : List Event) (moment : Moment) → Within moment.frames (run desk events moment).frames
within_run desk [] moment = same_within moment.frames
within_run desk (event ∷ events) moment = λ x there. within_run desk events (happens desk moment event) x (within_step desk moment event x there)

fewer_ones : (frames more : List Frame) → Within frames more → AreOnes more → AreOnes frames
fewer_ones frames more within ones one other is too = ones one other (within one is) (within other too)

-- ---- from the start to the end

pub run_append : (desk : Desk) (early late : List Event) (moment : Moment) → run desk (early ++ late) moment ≡ run desk late (run desk early moment)
run_append desk [] late moment = refl
run_append desk (event ∷ early) late moment = run_append desk early late (happens desk moment event)

-- this frame arrives after this history
record At (desk : Desk) (from : Moment) (events : List Event) (past : History) (frame : Frame) : Type 0 where
  before : List Event
  which : ℕ
  after : List Event
  parts : before ++ Arrives which ∷ after ≡ events
  arriving : slice_get (run desk before from).frames which ≡ Some frame
  past_is : past ≡ (run desk before from).history

marks : (desk : Desk) (from : Moment) (all done rest : List Event) (event : Event) → done ++ event ∷ rest ≡ all → Marks (At desk from all) (run desk done from) event
marks desk from all done rest (Submits which version request) parts = tt
marks desk from all done rest (Arrives which) parts = λ frame is. record { before = done; which = which; after = rest; parts = parts; arriving = is; past_is = refl }
marks desk from all done rest (FailsForMemory which failure) parts = tt
marks desk from all done rest (Replies which at) parts = tt
marks desk from all done rest (Drops which at) parts = tt

goes_on : (desk : Desk) (from : Moment) (all done rest : List Event) → IsDesk desk → done ++ rest ≡ all → AreOnes (run desk rest (run desk done from)).frames → Holds (At desk from all) desk (run desk done from)
    → Holds (At desk from all) desk (run desk rest (run desk done from))
goes_on desk from all done [] can parts ones holds = holds
goes_on desk from all done (event ∷ rest) can parts ones holds =
    let now = run desk done from in
    let next : run desk (done ++ event ∷ []) from ≡ happens desk now event = run_append desk done (event ∷ []) from in
    let ones_now : AreOnes now.frames = fewer_ones now.frames (run desk (event ∷ rest) now).frames (within_run desk (event ∷ rest) now) ones in
    let step = keeps (At desk from all) desk now event can ones_now (marks desk from all done rest event parts) holds in
    let joined : (done ++ event ∷ []) ++ rest ≡ all = append_assoc done (event ∷ []) rest ∙ parts in
    subst (λ (moment : Moment). Holds (At desk from all) desk (run desk rest moment)) next
    (goes_on desk from all (done ++ event ∷ []) rest can joined
    (subst (λ (moment : Moment). AreOnes (run desk rest moment).frames) (sym next) ones)
    (subst (Holds (At desk from all) desk) (sym next) step))

no_slots : (clients : List (ℕ × ℕ)) (which : ℕ) (core : Core) → slice_get (map (λ client. new_core client.0 client.1) clients) which ≡ Some core → core.slots ≡ []
no_slots [] which core is = absurd cc
no_slots (client ∷ clients) zero core is =
    let same : new_core client.0 client.1 ≡ core = cc in
    ap (λ (core : Core). core.slots) (sym same)
no_slots (client ∷ clients) (suc which) core is = no_slots clients which core is

starts : (Was : History → Frame → Type 0) (desk : Desk) (clients : List (ℕ × ℕ)) → Holds Was desk (start clients)
starts Was desk clients = record {
  entries = λ entry there. absurd (omega (arith, there.1));
  once = λ client number. omega arith;
  replies = λ sent there. absurd (omega (arith, there.1));
  cores = λ which core is place slot there.
      let none : slice_get core.slots place ≡ None = ap (λ (slots : List Slot). slice_get slots place) (no_slots clients which core is) in
      absurd cc;
}

ends : (desk : Desk) (clients : List (ℕ × ℕ)) (events : List Event) → IsDesk desk → AreOnes (run desk events (start clients)).frames → Holds (At desk (start clients) events) desk (run desk events (start clients))
ends desk clients events can ones = goes_on desk (start clients) events [] events can refl ones (starts (At desk (start clients) events) desk clients)

-- ---- what a held answer is

same_number : (n : ℕ) → eqb n n ≡ true
same_number n = elim (eqb_tells n n) [ inl t ↦ t.0 | inr t ↦ absurd (t.1 refl) ]

under_itself : (frame : Frame) → (frame.client == frame.client) && (frame.number == frame.number) ≡ true
under_itself frame = rw (same_number frame.client, same_number frame.number) refl

only_entry : (desk : Desk) (from moment : Moment) (events : List Event) (frame : Frame) (reply : Reply) → Holds (At desk from events) desk moment → Says (At desk from events) desk moment.history frame reply → is_refused reply ≡ false → is_command frame ≡ true
    → IsOnlyEntry moment.history frame reply
only_entry desk from moment events frame reply holds (Refusing refusal other is) answered command = let refused = ap is_refused is in absurd cc
only_entry desk from moment events frame reply holds (Reported past was query is reported) answered command = absurd cc
only_entry desk from moment events frame reply holds (Kept entry there own is accepted) answered command =
    let passes : is_under frame.client frame.number entry ≡ true = ap (λ (f : Frame). (f.client == frame.client) && (f.number == frame.number)) own ∙ under_itself frame in
    let some = counted (is_under frame.client frame.number) moment.history entry there passes in
    let most = holds.once frame.client frame.number in
    record { once = omega (arith, some, most); entry = entry; is_there = there; is_request = own; is_reply = is }

was_answer : (desk : Desk) (from moment : Moment) (events : List Event) (frame : Frame) (reply : Reply) → Holds (At desk from events) desk moment → Says (At desk from events) desk moment.history frame reply → is_refused reply ≡ false → is_command frame ≡ false
    → WasAnswer desk from events frame reply
was_answer desk from moment events frame reply holds (Refusing refusal other is) answered query = let refused = ap is_refused is in absurd cc
was_answer desk from moment events frame reply holds (Kept entry there own is accepted) answered query =
    let command = (holds.entries entry there).command in
    let same = ap is_command own in
    absurd cc
was_answer desk from moment events frame reply holds (Reported past was query is reported) answered query_too = record {
  before = was.before;
  which = was.which;
  after = was.after;
  parts = was.parts;
  arriving = was.arriving;
  is_reply = is ∙ ap (λ (h : History). desk.answer h frame) was.past_is;
}

state_answer : (state : State) (reply : Reply) → answer_in state ≡ Some reply → state ≡ Answered reply
state_answer (Pending frame) reply is = absurd cc
state_answer (Answered answer) reply is = let same : answer ≡ reply = cc in ap (λ (r : Reply). Answered r) same

pub answered_slot : (o : Option Slot) (reply : Reply) → slot_answer o ≡ Some reply → (slot : Slot) × (o ≡ Some slot) × (slot.state ≡ Answered reply)
answered_slot None reply is = absurd cc
answered_slot (Some slot) reply is = (slot, refl, state_answer slot.state reply is)

pub all_held : (desk : Desk) (clients : List (ℕ × ℕ)) (events : List Event) → IsDesk desk → AreOnes (run desk events (start clients)).frames → AreHeld desk (start clients) events
all_held desk clients events can ones which number core reply there answered =
    let from = start clients in
    let moment = run desk events from in
    let Was = At desk from events in
    let holds = ends desk clients events can ones in
    let slot = answered_slot (slot_at core number) reply answered in
    let found = slot_found core number slot.0 slot.1 in
    let numbered : core.first + (number - core.first) ≡ number = omega (arith, found.0) in
    let known : IsSlot Was desk moment.history moment.frames core.client number slot.0 =
    subst (λ (n : ℕ). IsSlot Was desk moment.history moment.frames core.client n slot.0) numbered (holds.cores which core there (number - core.first) slot.0 found.1) in
    let state : IsState Was desk moment.history known.frame (Answered reply) = subst (IsState Was desk moment.history known.frame) slot.2 known.state in
    record {
      frame = known.frame;
      submitted = known.request.submitted;
      client_is = known.request.client_is;
      number_is = known.request.number_is;
      command = only_entry desk from moment events known.frame reply holds state.0 state.1;
      query = was_answer desk from moment events known.frame reply holds state.0 state.1;
    }

pub all_once : (desk : Desk) (clients : List (ℕ × ℕ)) (events : List Event) → IsDesk desk → AreOnes (run desk events (start clients)).frames → AreOnce (run desk events (start clients))
all_once desk clients events can ones frame there = (ends desk clients events can ones).once frame.client frame.number

reused : (Was : History → Frame → Type 0) (desk : Desk) (history : History) (frame : Frame) (reply : Reply) → Says Was desk history frame reply → reply ≢ Refused NumberReused
reused Was desk history frame reply (Refusing refusal other is) same = other cc
reused Was desk history frame reply (Kept entry there own is accepted) same = let refused = ap is_refused same in absurd cc
reused Was desk history frame reply (Reported past was query is reported) same = let refused = ap is_refused same in absurd cc

pub none_reused : (desk : Desk) (clients : List (ℕ × ℕ)) (events : List Event) → IsDesk desk → AreOnes (run desk events (start clients)).frames → NoneReused (run desk events (start clients))
none_reused desk clients events can ones sent there same =
    let holds = ends desk clients events can ones in
    let is = holds.replies sent there in
    reused (At desk (start clients) events) desk (run desk events (start clients)).history is.frame sent.reply is.says same
