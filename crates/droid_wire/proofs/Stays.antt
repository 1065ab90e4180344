-- An answer that a core holds never changes.
use Rattle.std.proofs.Common.{◌≡◌, ℕ, ◌-◌, ◌^◌, ◌≤◌, Bool, true, false, ltb, List, [], ◌∷◌, ◌++◌, set, Option, Some, None, IsSome, refl, sym, ap, ◌∙◌, subst, arith, inl, inr}
use Rattle.std.specs.Bool.{if◌then◌else◌}
use Rattle.std.specs.List.{slice_get}
use Rattle.std.proofs.lemmas.Bool.{ltb-true}
use Rattle.std.proofs.lemmas.Bool.Decides.{eqb_tells}
use Rattle.droid_frame.specs.declared.frame.Frame.{Frame}
use Rattle.droid_frame.specs.declared.reply.Reply.{Reply}
use Rattle.droid_frame.specs.declared.request.Request.{Request}
use Rattle.droid_client.specs.declared.heard.Heard.{Heard}
use Rattle.droid_client.specs.declared.heard.Heard.TheVariants as heard
use Rattle.droid_client.specs.declared.slot.Slot.{Slot}
use Rattle.droid_client.specs.declared.slot.State.{State}
use Rattle.droid_client.specs.declared.slot.State.TheVariants.{Answered}
use Rattle.droid_client.specs.Cores.{Core, answer_in, answer_of, core_hearing, core_submitting, heard_at, new_slot, next_frame, next_number, pending_in, slot_after, slot_answer, slot_at, slot_hearing, slots_hearing}
use Rattle.droid_wire.specs.Desks.{Desk}
use Rattle.droid_wire.specs.Schedules.{Event, Submits, Arrives, FailsForMemory, Replies, Drops, Moment, Sent, Failure, answer_at, arrived, core_answer, happens, replied, run, submitted, wanted}
use Rattle.droid_client.proofs.Elements.{push_stays, set_here, set_stays}
use Rattle.droid_client.proofs.Hearing.{was_pending}
use Rattle.droid_client.proofs.Numbers.{slot_found}
use Rattle.droid_wire.proofs.Held.{answered_slot, run_append}

-- a core that holds this answer to this number
abbrev Keeps : Core → ℕ → Reply → Type 0
Keeps core number reply = answer_of core number ≡ Some reply

slot_there_by : (b : Bool) (core : Core) (number : ℕ) (slot : Slot) → ltb number core.first ≡ b → core.first ≤ number → slice_get core.slots (number - core.first) ≡ Some slot
    → (if b then None else slice_get core.slots (number - core.first)) ≡ Some slot
slot_there_by true core number slot is from there = absurd (omega (arith, ltb-true number core.first is, from))
slot_there_by false core number slot is from there = there

slot_there : (core : Core) (number : ℕ) (slot : Slot) → core.first ≤ number → slice_get core.slots (number - core.first) ≡ Some slot → slot_at core number ≡ Some slot
slot_there core number slot from there = slot_there_by (ltb number core.first) core number slot refl from there

-- a core whose slot at the number's place is answered so
keeps_by : (core : Core) (number : ℕ) (slot : Slot) (reply : Reply) → core.first ≤ number → slice_get core.slots (number - core.first) ≡ Some slot → slot.state ≡ Answered reply → Keeps core number reply
keeps_by core number slot reply from there is = ap slot_answer (slot_there core number slot from there) ∙ ap answer_in is

submitting : (core : Core) (version : ℕ) (request : Request) (number : ℕ) (reply : Reply) → Keeps core number reply → Keeps (core_submitting core version request) number reply
submitting core version request number reply keeps =
    let slot = answered_slot (slot_at core number) reply keeps in
    let found = slot_found core number slot.0 slot.1 in
    keeps_by (core_submitting core version request) number slot.0 reply found.0 (push_stays core.slots (new_slot (next_frame core version request) ∷ []) (number - core.first) slot.0 found.1) slot.2

-- ---- hearing

not_pending : (slot : Slot) (answer : Reply) → slot.state ≡ Answered answer → IsSome (pending_in slot.state) → ⊥
not_pending slot answer is some =
    let none : IsSome (pending_in (Answered answer)) = subst (λ (state : State). IsSome (pending_in state)) is some in
    absurd cc

after_answer : (slot : Slot) (version : ℕ) (reply answer : Reply) (h : Heard) → heard_at slot version reply ≡ h → slot.state ≡ Answered answer → (slot_after slot reply h).state ≡ Answered answer
after_answer slot version reply answer heard.Answered so is = absurd (not_pending slot answer is (was_pending slot version reply so))
after_answer slot version reply answer heard.Refused so is = is
after_answer slot version reply answer heard.Repeated so is = is
after_answer slot version reply answer heard.Stranger so is = is

same_element : (slots : List Slot) (place at : ℕ) (one other : Slot) → place ≡ at → slice_get slots place ≡ Some one → slice_get slots at ≡ Some other → one ≡ other
same_element slots place at one other same is too =
    let here : slice_get slots at ≡ Some one = subst (λ (n : ℕ). slice_get slots n ≡ Some one) same is in
    cc

hearing_slots : (core : Core) (version to : ℕ) (reply : Reply) (o : Option Slot) → slot_at core to ≡ o → (number : ℕ) (answer : Reply) → Keeps core number answer → Keeps (record core { slots = slots_hearing core version to reply o }) number answer
hearing_slots core version to reply None there number answer keeps = keeps
hearing_slots core version to reply (Some other) there number answer keeps =
    let place = number - core.first in
    let at = to - core.first in
    let slot = answered_slot (slot_at core number) answer keeps in
    let found = slot_found core number slot.0 slot.1 in
    let heard_there = (slot_found core to other there).1 in
    let after = slot_hearing other version reply in
    let new : Core = record core { slots = set core.slots at after } in
    elim (set_stays core.slots at after place slot.0 found.1) [
      | inl t ↦
          let same : slot.0 ≡ other = same_element core.slots place at slot.0 other t found.1 heard_there in
          let is : other.state ≡ Answered answer = subst (λ (s : Slot). s.state ≡ Answered answer) same slot.2 in
          let here : slice_get (set core.slots at after) place ≡ Some after = subst (λ (n : ℕ). slice_get (set core.slots at after) n ≡ Some after) (sym t) (set_here core.slots at after other heard_there) in
          keeps_by new number after answer found.0 here (after_answer other version reply answer (heard_at other version reply) refl is)
      | inr t ↦ keeps_by new number slot.0 answer found.0 t slot.2
    ]

hearing : (core : Core) (version client to : ℕ) (reply : Reply) (number : ℕ) (answer : Reply) → Keeps core number answer → Keeps (core_hearing core version client to reply) number answer
hearing core version client to reply number answer keeps =
    elim (eqb_tells client core.client) [
      | inl t ↦ rw t.0 (hearing_slots core version to reply (slot_at core to) refl number answer keeps)
      | inr t ↦ rw t.0 keeps
    ]

-- ---- each event

answered_core : (o : Option Core) (number : ℕ) (reply : Reply) → core_answer o number ≡ Some reply → (core : Core) × (o ≡ Some core) × Keeps core number reply
answered_core None number reply is = absurd cc
answered_core (Some core) number reply is = (core, refl, is)

same_core : (cores : List Core) (which at : ℕ) (one other : Core) → which ≡ at → slice_get cores which ≡ Some one → slice_get cores at ≡ Some other → one ≡ other
same_core cores which at one other same is too =
    let here : slice_get cores at ≡ Some one = subst (λ (n : ℕ). slice_get cores n ≡ Some one) same is in
    cc

-- where one core is put in another's place that keeps what the other did
set_keeps : (cores : List Core) (at : ℕ) (old new : Core) (which number : ℕ) (reply : Reply) → slice_get cores at ≡ Some old → (Keeps old number reply → Keeps new number reply) → core_answer (slice_get cores which) number ≡ Some reply
    → core_answer (slice_get (set cores at new) which) number ≡ Some reply
set_keeps cores at old new which number reply there keeps is =
    let core = answered_core (slice_get cores which) number reply is in
    elim (set_stays cores at new which core.0 core.1) [
      | inl t ↦
          let same : core.0 ≡ old = same_core cores which at core.0 old t core.1 there in
          let here : slice_get (set cores at new) which ≡ Some new = subst (λ (n : ℕ). slice_get (set cores at new) n ≡ Some new) (sym t) (set_here cores at new old there) in
          ap (λ (o : Option Core). core_answer o number) here ∙ keeps (subst (λ (core : Core). Keeps core number reply) same core.2)
      | inr t ↦ ap (λ (o : Option Core). core_answer o number) t ∙ core.2
    ]

stays_if : (b : Bool) (old new : Moment) (which number : ℕ) (reply : Reply) → answer_at old which number ≡ Some reply → answer_at new which number ≡ Some reply → answer_at (if b then new else old) which number ≡ Some reply
stays_if true old new which number reply is goes = goes
stays_if false old new which number reply is goes = is

stays_submitted : (moment : Moment) (at : ℕ) (version : ℕ) (request : Request) (o : Option Core) → slice_get moment.cores at ≡ o → (which number : ℕ) (reply : Reply) → answer_at moment which number ≡ Some reply → answer_at (submitted moment at version request o) which number ≡ Some reply
stays_submitted moment at version request None there which number reply is = is
stays_submitted moment at version request (Some core) there which number reply is =
    stays_if (ltb (next_number core) (2 ^ 63)) moment _ which number reply is
    (set_keeps moment.cores at core (core_submitting core version request) which number reply there (submitting core version request number reply) is)

stays_arrived : (desk : Desk) (moment : Moment) (o : Option Frame) (which number : ℕ) (reply : Reply) → answer_at moment which number ≡ Some reply → answer_at (arrived desk moment o) which number ≡ Some reply
stays_arrived desk moment None which number reply is = is
stays_arrived desk moment (Some frame) which number reply is = is

stays_wanted : (desk : Desk) (moment : Moment) (failure : Failure) (o : Option Frame) (which number : ℕ) (reply : Reply) → answer_at moment which number ≡ Some reply → answer_at (wanted desk moment failure o) which number ≡ Some reply
stays_wanted desk moment failure None which number reply is = is
stays_wanted desk moment failure (Some frame) which number reply is = stays_if (desk.is_spelled frame) moment _ which number reply is is

stays_replied : (moment : Moment) (at : ℕ) (o : Option Core) (s : Option Sent) → slice_get moment.cores at ≡ o → (which number : ℕ) (reply : Reply) → answer_at moment which number ≡ Some reply → answer_at (replied moment at o s) which number ≡ Some reply
stays_replied moment at None s there which number reply is = is
stays_replied moment at (Some core) None there which number reply is = is
stays_replied moment at (Some core) (Some sent) there which number reply is =
    set_keeps moment.cores at core (core_hearing core sent.version sent.client sent.number sent.reply) which number reply there (hearing core sent.version sent.client sent.number sent.reply number reply) is

stays : (desk : Desk) (moment : Moment) (event : Event) (which number : ℕ) (reply : Reply) → answer_at moment which number ≡ Some reply → answer_at (happens desk moment event) which number ≡ Some reply
stays desk moment (Submits at version request) which number reply is = stays_submitted moment at version request (slice_get moment.cores at) refl which number reply is
stays desk moment (Arrives at) which number reply is = stays_arrived desk moment (slice_get moment.frames at) which number reply is
stays desk moment (FailsForMemory at failure) which number reply is = stays_wanted desk moment failure (slice_get moment.frames at) which number reply is
stays desk moment (Replies at sent) which number reply is = stays_replied moment at (slice_get moment.cores at) (slice_get moment.replies sent) refl which number reply is
stays desk moment (Drops at sent) which number reply is = is

stays_on : (desk : Desk) (events : List Event) (moment : Moment) (which number : ℕ) (reply : Reply) → answer_at moment which number ≡ Some reply → answer_at (run desk events moment) which number ≡ Some reply
stays_on desk [] moment which number reply is = is
stays_on desk (event ∷ events) moment which number reply is = stays_on desk events (happens desk moment event) which number reply (stays desk moment event which number reply is)

pub answers_stay : (desk : Desk) (from : Moment) (early late : List Event) (which number : ℕ) (reply : Reply) → answer_at (run desk early from) which number ≡ Some reply → answer_at (run desk (early ++ late) from) which number ≡ Some reply
answers_stay desk from early late which number reply is =
    ap (λ (moment : Moment). answer_at moment which number) (run_append desk early late from) ∙ stays_on desk late (run desk early from) which number reply is
