-- Each event keeps what holds at each moment.
use Rattle.std.proofs.Common.{◌≡◌, ◌≢◌, ℕ, ◌+◌, ◌-◌, ◌^◌, ◌≤◌, ◌==◌, ◌&&◌, Bool, true, false, cond, ltb, List, [], ◌∷◌, ◌++◌, set, Option, Some, None, refl, sym, ap, ◌∙◌, subst, arith, inl, inr}
use Rattle.std.specs.Bool.{if◌then◌else◌}
use Rattle.std.specs.List.{Contains, count_by, slice_get}
use Rattle.std.proofs.lemmas.Bool.{eqb-true}
use Rattle.std.proofs.lemmas.Bool.Decides.{eqb_tells}
use Rattle.std.proofs.lemmas.List.Elements.{Contains-append_left, Contains-push, Contains-push_cases}
use Rattle.droid_frame.specs.declared.frame.Frame.{Frame}
use Rattle.droid_frame.specs.declared.refusal.Refusal.TheVariants as refusals
use Rattle.droid_frame.specs.declared.reply.Reply.{Reply}
use Rattle.droid_frame.specs.declared.reply.Reply.TheVariants.{Made, Node, Taken, Finished, Abandoned, Progress, Part, Refused}
use Rattle.droid_frame.specs.declared.request.Request.{Request}
use Rattle.droid_core_spec.specs.Histories.{Entry, History, is_under, kept}
use Rattle.droid_client.specs.declared.heard.Heard.{Heard}
use Rattle.droid_client.specs.declared.heard.Heard.TheVariants as heard
use Rattle.droid_client.specs.declared.slot.Slot.{Slot}
use Rattle.droid_client.specs.declared.slot.State.{State}
use Rattle.droid_client.specs.declared.slot.State.TheVariants.{Pending, Answered}
use Rattle.droid_client.specs.Cores.{Core, belongs_at, core_hearing, core_submitting, heard_at, heard_in, new_slot, next_frame, next_number, slot_after, slot_at, slot_hearing, slots_hearing}
use Rattle.droid_wire.specs.Desks.{Desk, Answering, Again, Accepts, Refuses, Queries, IsDesk, IsItsOwn, entry_at, is_command, is_refused}
use Rattle.droid_wire.specs.Schedules.{AreOnes, Event, Submits, Arrives, FailsForMemory, Replies, Drops, Moment, Sent, Failure, OfMemory, OfStore, arrived, happens, refusal_for, replied, reply_to, submitted, wanted}
use Rattle.droid_client.proofs.Elements.{contains_got, count_push, found_in, none_there, push_cases, set_cases}
use Rattle.droid_client.proofs.Numbers.{slot_found}
use Rattle.droid_wire.proofs.Invariant.{Within, IsEntry, Says, Refusing, Kept, Reported, IsRequest, IsReply, IsSlot, IsCore, Holds, same_within, reply_more, slot_more, core_more, entry_more}

-- ---- a core submits

submitting_core : (Was : History → Frame → Type 0) (desk : Desk) (history : History) (frames : List Frame) (core : Core) (version : ℕ) (request : Request) → IsCore Was desk history frames core
    → IsCore Was desk history (frames ++ next_frame core version request ∷ []) (core_submitting core version request)
submitting_core Was desk history frames core version request is place slot there =
    let frame = next_frame core version request in
    let more = frames ++ frame ∷ [] in
    elim (push_cases core.slots (new_slot frame) place slot there) [
      | inl t ↦ slot_more Was desk history history frames more core.client (core.first + place) slot (same_within history) (Contains-append_left frames (frame ∷ [])) (is place slot t)
      | inr t ↦ subst (λ (slot : Slot). IsSlot Was desk history more core.client (core.first + place) slot) t.1 (record {
        frame = frame;
        request = record { submitted = Contains-push frames frame; client_is = refl; number_is = ap (λ (n : ℕ). core.first + n) (sym t.0) };
        kind_is = refl;
        state = refl;
      })
    ]

submits : (Was : History → Frame → Type 0) (desk : Desk) (moment : Moment) (which : ℕ) (core : Core) (version : ℕ) (request : Request) → Holds Was desk moment → slice_get moment.cores which ≡ Some core
    → Holds Was desk (record { history = moment.history; cores = set moment.cores which (core_submitting core version request); frames = moment.frames ++ next_frame core version request ∷ []; replies = moment.replies })
submits Was desk moment which core version request holds there =
    let frame = next_frame core version request in
    let more = moment.frames ++ frame ∷ [] in
    let within : Within moment.frames more = Contains-append_left moment.frames (frame ∷ []) in
    let same : Within moment.history moment.history = same_within moment.history in
    record {
      entries = λ entry is. entry_more desk moment.frames more entry within (holds.entries entry is);
      once = holds.once;
      replies = λ sent is. reply_more Was desk moment.history moment.history moment.frames more sent same within (holds.replies sent is);
      cores = λ at other is. elim (set_cases moment.cores which (core_submitting core version request) at other is) [
        | inl t ↦ subst (IsCore Was desk moment.history more) t.1 (submitting_core Was desk moment.history moment.frames core version request (holds.cores which core there))
        | inr t ↦ core_more Was desk moment.history moment.history moment.frames more other same within (holds.cores at other t)
      ];
    }

submits_if : (b : Bool) (Was : History → Frame → Type 0) (desk : Desk) (old new : Moment) → Holds Was desk old → Holds Was desk new → Holds Was desk (if b then new else old)
submits_if true Was desk old new holds goes = goes
submits_if false Was desk old new holds goes = holds

keeps_submitted : (Was : History → Frame → Type 0) (desk : Desk) (moment : Moment) (which : ℕ) (version : ℕ) (request : Request) (o : Option Core) → slice_get moment.cores which ≡ o → Holds Was desk moment → Holds Was desk (submitted moment which version request o)
keeps_submitted Was desk moment which version request None there holds = holds
keeps_submitted Was desk moment which version request (Some core) there holds =
    submits_if (ltb (next_number core) (2 ^ 63)) Was desk moment _ holds (submits Was desk moment which core version request holds there)

-- ---- a reply is sent

answers : (Was : History → Frame → Type 0) (desk : Desk) (moment : Moment) (later : History) (frame : Frame) (reply : Reply) → Holds Was desk moment → Within moment.history later
    → ((entry : Entry) → Contains later entry → IsEntry desk moment.frames entry) → ((client number : ℕ) → count_by (is_under client number) later ≤ 1)
    → Contains moment.frames frame → Says Was desk later frame reply
    → Holds Was desk (record { history = later; cores = moment.cores; frames = moment.frames; replies = moment.replies ++ reply_to frame reply ∷ [] })
answers Was desk moment later frame reply holds longer entries once there says =
    let same : Within moment.frames moment.frames = same_within moment.frames in
    record {
      entries = entries;
      once = once;
      replies = λ sent is. elim (Contains-push_cases moment.replies (reply_to frame reply) sent is) [
        | inl t ↦ reply_more Was desk moment.history later moment.frames moment.frames sent longer same (holds.replies sent t)
        | inr t ↦ subst (IsReply Was desk later moment.frames) t (record { frame = frame; request = record { submitted = there; client_is = refl; number_is = refl }; says = says })
      ];
      cores = λ at core is. core_more Was desk moment.history later moment.frames moment.frames core longer same (holds.cores at core is);
    }

both_true : (a b : Bool) → a && b ≡ true → (a ≡ true) × (b ≡ true)
both_true true true is = (refl, refl)
both_true true false is = absurd cc
both_true false b is = absurd cc

-- an entry under a client and a number has them
under : (client number : ℕ) (entry : Entry) → is_under client number entry ≡ true → (entry.frame.client ≡ client) × (entry.frame.number ≡ number)
under client number entry is =
    let parts = both_true (entry.frame.client == client) (entry.frame.number == number) is in
    (eqb-true entry.frame.client client parts.0, eqb-true entry.frame.number number parts.1)

-- what is kept under the number of a submitted request is that request
its_own : (Was : History → Frame → Type 0) (desk : Desk) (moment : Moment) (frame : Frame) → Holds Was desk moment → AreOnes moment.frames → Contains moment.frames frame → IsItsOwn desk moment.history frame
its_own Was desk moment frame holds ones there entry is =
    let found = found_in (is_under frame.client frame.number) moment.history entry is in
    let known = holds.entries entry found.0 in
    let same = under frame.client frame.number entry found.1 in
    (known.sound, ones entry.frame frame known.submitted there same.0 same.1)

once_more : (b : Bool) (client number : ℕ) (history : History) (entry : Entry) → is_under client number entry ≡ b → count_by (is_under client number) history ≤ 1 → kept history entry.frame.client entry.frame.number ≡ None
    → count_by (is_under client number) history + cond b 1 0 ≤ 1
once_more true client number history entry is once is_new =
    let same = under client number entry is in
    let none : count_by (is_under entry.frame.client entry.frame.number) history ≡ 0 = none_there (is_under entry.frame.client entry.frame.number) history is_new in
    let here : count_by (is_under client number) history ≡ 0 =
    ap (λ (n : ℕ). count_by (is_under n number) history) (sym same.0) ∙ (ap (λ (n : ℕ). count_by (is_under entry.frame.client n) history) (sym same.1) ∙ none) in
    omega (arith, here)
once_more false client number history entry is once is_new = omega (arith, once)

accepts : (Was : History → Frame → Type 0) (desk : Desk) (moment : Moment) (frame : Frame) (reply : Reply) → Holds Was desk moment → Contains moment.frames frame → kept moment.history frame.client frame.number ≡ None → is_command frame ≡ true → is_refused reply ≡ false
    → Holds Was desk (record { history = moment.history ++ entry_at desk frame reply ∷ []; cores = moment.cores; frames = moment.frames; replies = moment.replies ++ reply_to frame reply ∷ [] })
accepts Was desk moment frame reply holds there is_new command accepted =
    let entry = entry_at desk frame reply in
    let sound : IsEntry desk moment.frames entry = record { submitted = there; command = command; sound = record { marked = refl; accepted = accepted } } in
    answers Was desk moment (moment.history ++ entry ∷ []) frame reply holds (Contains-append_left moment.history (entry ∷ []))
    (λ other is. elim (Contains-push_cases moment.history entry other is) [ inl t ↦ holds.entries other t | inr t ↦ subst (IsEntry desk moment.frames) t sound ])
    (λ client number. rw (count_push (is_under client number) moment.history entry) (once_more (is_under client number entry) client number moment.history entry refl (holds.once client number) is_new))
    there
    (Kept entry (Contains-push moment.history entry) refl refl accepted)

says : (Was : History → Frame → Type 0) (desk : Desk) (moment : Moment) (frame : Frame) (reply : Reply) → Holds Was desk moment → Contains moment.frames frame → Says Was desk moment.history frame reply
    → Holds Was desk (record { history = moment.history; cores = moment.cores; frames = moment.frames; replies = moment.replies ++ reply_to frame reply ∷ [] })
says Was desk moment frame reply holds there is = answers Was desk moment moment.history frame reply holds (same_within moment.history) holds.entries holds.once there is

arrives : (Was : History → Frame → Type 0) (desk : Desk) (moment : Moment) (frame : Frame) → Holds Was desk moment → IsItsOwn desk moment.history frame → Contains moment.frames frame → Was moment.history frame → Answering desk moment.history frame
    → Holds Was desk (arrived desk moment (Some frame))
arrives Was desk moment frame holds own there was (Again entry is answered goes) =
    let mine = own entry is in
    let found = found_in (is_under frame.client frame.number) moment.history entry is in
    let reply = desk.answer moment.history frame in
    subst (λ (h : History). Holds Was desk (record { history = h; cores = moment.cores; frames = moment.frames; replies = moment.replies ++ reply_to frame reply ∷ [] })) (sym goes)
    (says Was desk moment frame reply holds there (Kept entry found.0 mine.1 (sym answered) (ap is_refused answered ∙ mine.0.accepted)))
arrives Was desk moment frame holds own there was (Accepts is_new command accepted goes) =
    let reply = desk.answer moment.history frame in
    subst (λ (h : History). Holds Was desk (record { history = h; cores = moment.cores; frames = moment.frames; replies = moment.replies ++ reply_to frame reply ∷ [] })) (sym goes)
    (accepts Was desk moment frame reply holds there is_new command accepted)
arrives Was desk moment frame holds own there was (Refuses refusal other answered goes) =
    let reply = desk.answer moment.history frame in
    subst (λ (h : History). Holds Was desk (record { history = h; cores = moment.cores; frames = moment.frames; replies = moment.replies ++ reply_to frame reply ∷ [] })) (sym goes)
    (says Was desk moment frame reply holds there (Refusing refusal other answered))
arrives Was desk moment frame holds own there was (Queries query reported goes) =
    let reply = desk.answer moment.history frame in
    subst (λ (h : History). Holds Was desk (record { history = h; cores = moment.cores; frames = moment.frames; replies = moment.replies ++ reply_to frame reply ∷ [] })) (sym goes)
    (says Was desk moment frame reply holds there (Reported moment.history was query refl reported))

keeps_arrived : (Was : History → Frame → Type 0) (desk : Desk) (moment : Moment) (which : ℕ) (o : Option Frame) → slice_get moment.frames which ≡ o → IsDesk desk → Holds Was desk moment → AreOnes moment.frames
    → ((frame : Frame) → slice_get moment.frames which ≡ Some frame → Was moment.history frame) → Holds Was desk (arrived desk moment o)
keeps_arrived Was desk moment which None is can holds ones was = holds
keeps_arrived Was desk moment which (Some frame) is can holds ones was =
    let there = contains_got moment.frames which frame is in
    let own = its_own Was desk moment frame holds ones there in
    arrives Was desk moment frame holds own there (was frame is) (can.comes moment.history frame own)

failure_is_other : (failure : Failure) → refusal_for failure ≢ refusals.NumberReused
failure_is_other OfMemory same = cc
failure_is_other OfStore same = cc

keeps_wanted : (Was : History → Frame → Type 0) (desk : Desk) (moment : Moment) (which : ℕ) (failure : Failure) (o : Option Frame) → slice_get moment.frames which ≡ o → Holds Was desk moment → Holds Was desk (wanted desk moment failure o)
keeps_wanted Was desk moment which failure None is holds = holds
keeps_wanted Was desk moment which failure (Some frame) is holds =
    submits_if (desk.is_spelled frame) Was desk moment _ holds
    (says Was desk moment frame (Refused (refusal_for failure)) holds (contains_got moment.frames which frame is) (Refusing (refusal_for failure) (failure_is_other failure) refl))

-- ---- a core hears a reply

-- an answer is no refusal
pub is_no_refusal : (b : Bool) (state : State) (reply : Reply) → (if b then heard_in state reply else heard.Stranger) ≡ heard.Answered → is_refused reply ≡ false
is_no_refusal false state reply is = absurd cc
is_no_refusal true (Answered answer) reply is = absurd cc
is_no_refusal true (Pending frame) (Made profile) is = refl
is_no_refusal true (Pending frame) (Node id) is = refl
is_no_refusal true (Pending frame) (Taken held) is = refl
is_no_refusal true (Pending frame) (Finished method mismatch hash puids) is = refl
is_no_refusal true (Pending frame) Abandoned is = refl
is_no_refusal true (Pending frame) (Progress held missing) is = refl
is_no_refusal true (Pending frame) (Part as_of total bytes) is = refl
is_no_refusal true (Pending frame) (Refused refusal) is = absurd cc

hearing_slot : (Was : History → Frame → Type 0) (desk : Desk) (history : History) (frames : List Frame) (version client number : ℕ) (slot : Slot) (reply : Reply) (h : Heard) → heard_at slot version reply ≡ h
    → (is : IsSlot Was desk history frames client number slot) → Says Was desk history is.frame reply → IsSlot Was desk history frames client number (slot_after slot reply h)
hearing_slot Was desk history frames version client number slot reply heard.Answered so is says = record {
  frame = is.frame;
  request = is.request;
  kind_is = is.kind_is;
  state = (says, is_no_refusal (belongs_at slot version reply) slot.state reply so);
}
hearing_slot Was desk history frames version client number slot reply heard.Refused so is says = record { frame = is.frame; request = is.request; kind_is = is.kind_is; state = is.state }
hearing_slot Was desk history frames version client number slot reply heard.Repeated so is says = is
hearing_slot Was desk history frames version client number slot reply heard.Stranger so is says = is

hearing_slots : (Was : History → Frame → Type 0) (desk : Desk) (history : History) (frames : List Frame) (core : Core) (version number : ℕ) (reply : Reply) (o : Option Slot) → slot_at core number ≡ o → IsCore Was desk history frames core
    → ((frame : Frame) → IsRequest frames frame core.client number → Says Was desk history frame reply) → IsCore Was desk history frames (record core { slots = slots_hearing core version number reply o })
hearing_slots Was desk history frames core version number reply None there is says = is
hearing_slots Was desk history frames core version number reply (Some slot) there is says = λ place other at.
    let found = slot_found core number slot there in
    let before = is (number - core.first) slot found.1 in
    let numbered : core.first + (number - core.first) ≡ number = omega (arith, found.0) in
    let known : IsSlot Was desk history frames core.client number slot = subst (λ (n : ℕ). IsSlot Was desk history frames core.client n slot) numbered before in
    elim (set_cases core.slots (number - core.first) (slot_hearing slot version reply) place other at) [
      | inl t ↦
          let placed : number ≡ core.first + place = sym numbered ∙ ap (λ (n : ℕ). core.first + n) (sym t.0) in
          subst (λ (n : ℕ). IsSlot Was desk history frames core.client n other) placed
          (subst (IsSlot Was desk history frames core.client number) t.1
          (hearing_slot Was desk history frames version core.client number slot reply (heard_at slot version reply) refl known (says known.frame known.request)))
      | inr t ↦ is place other t
    ]

hearing_core : (Was : History → Frame → Type 0) (desk : Desk) (history : History) (frames : List Frame) (core : Core) (sent : Sent) → AreOnes frames → IsCore Was desk history frames core → IsReply Was desk history frames sent
    → IsCore Was desk history frames (core_hearing core sent.version sent.client sent.number sent.reply)
hearing_core Was desk history frames core sent ones is reply =
    elim (eqb_tells sent.client core.client) [
      | inl t ↦ rw t.0 (hearing_slots Was desk history frames core sent.version sent.number sent.reply (slot_at core sent.number) refl is
          (λ frame request.
          let same : reply.frame ≡ frame = ones reply.frame frame reply.request.submitted request.submitted (reply.request.client_is ∙ (t.1 ∙ sym request.client_is)) (reply.request.number_is ∙ sym request.number_is) in
          subst (λ (frame : Frame). Says Was desk history frame sent.reply) same reply.says))
      | inr t ↦ rw t.0 is
    ]

keeps_replied : (Was : History → Frame → Type 0) (desk : Desk) (moment : Moment) (which at : ℕ) (o : Option Core) (s : Option Sent) → slice_get moment.cores which ≡ o → slice_get moment.replies at ≡ s → Holds Was desk moment → AreOnes moment.frames
    → Holds Was desk (replied moment which o s)
keeps_replied Was desk moment which at None s there sent_is holds ones = holds
keeps_replied Was desk moment which at (Some core) None there sent_is holds ones = holds
keeps_replied Was desk moment which at (Some core) (Some sent) there sent_is holds ones = record {
  entries = holds.entries;
  once = holds.once;
  replies = holds.replies;
  cores = λ place other is. elim (set_cases moment.cores which (core_hearing core sent.version sent.client sent.number sent.reply) place other is) [
    | inl t ↦ subst (IsCore Was desk moment.history moment.frames) t.1
        (hearing_core Was desk moment.history moment.frames core sent ones (holds.cores which core there) (holds.replies sent (contains_got moment.replies at sent sent_is)))
    | inr t ↦ holds.cores place other t
  ];
}

-- ---- each event

-- where the event is an arrival, this frame arrives after this history
abbrev pub Marks : (History → Frame → Type 0) → Moment → Event → Type 0
Marks Was moment (Submits which version request) = Unit {0}
Marks Was moment (Arrives which) = (frame : Frame) → slice_get moment.frames which ≡ Some frame → Was moment.history frame
Marks Was moment (FailsForMemory which failure) = Unit {0}
Marks Was moment (Replies which at) = Unit {0}
Marks Was moment (Drops which at) = Unit {0}

pub keeps : (Was : History → Frame → Type 0) (desk : Desk) (moment : Moment) (event : Event) → IsDesk desk → AreOnes moment.frames → Marks Was moment event → Holds Was desk moment → Holds Was desk (happens desk moment event)
keeps Was desk moment (Submits which version request) can ones marks holds = keeps_submitted Was desk moment which version request (slice_get moment.cores which) refl holds
keeps Was desk moment (Arrives which) can ones marks holds = keeps_arrived Was desk moment which (slice_get moment.frames which) refl can holds ones marks
keeps Was desk moment (FailsForMemory which failure) can ones marks holds = keeps_wanted Was desk moment which failure (slice_get moment.frames which) refl holds
keeps Was desk moment (Replies which at) can ones marks holds = keeps_replied Was desk moment which at (slice_get moment.cores which) (slice_get moment.replies at) refl refl holds ones
keeps Was desk moment (Drops which at) can ones marks holds = holds
