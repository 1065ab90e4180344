-- The frame that a core submitted last, and the reply that it took last.
use Rattle.std.proofs.Common.{◌≡◌, ℕ, ◌+◌, ◌-◌, ◌≤◌, Bool, true, false, ltb, List, [], ◌∷◌, ◌++◌, length, set, Option, Some, None, IsSome, Bor, refl, sym, ap, ◌∙◌, subst, arith, inl, inr, length-append}
use Rattle.std.specs.Bool.{if◌then◌else◌}
use Rattle.std.specs.List.{slice_get}
use Rattle.std.specs.Option.{option_copied}
use Rattle.std.proofs.lemmas.Bool.{ltb-true}
use Rattle.std.proofs.lemmas.Bool.Decides.{eqb_tells}
use Rattle.std.proofs.lemmas.List.Elements.{filter_map-append}
use Rattle.droid_frame.specs.declared.frame.Frame.{Frame}
use Rattle.droid_frame.specs.declared.refusal.Refusal.{Refusal}
use Rattle.droid_frame.specs.declared.reply.Reply.{Reply}
use Rattle.droid_frame.specs.declared.reply.Reply.TheVariants.{Made, Node, Taken, Finished, Abandoned, Progress, Part, Refused}
use Rattle.droid_lines.specs.declared.parser.VersionedRequest.{VersionedRequest}
use Rattle.droid_client.specs.declared.heard.Heard.{Heard}
use Rattle.droid_client.specs.declared.heard.Heard.TheVariants as heard
use Rattle.droid_client.specs.declared.slot.Slot.{Slot}
use Rattle.droid_client.specs.declared.slot.State.{State}
use Rattle.droid_client.specs.declared.slot.State.TheVariants.{Pending, Answered}
use Rattle.droid_client.specs.Cores.{Core, answer_in, answer_of, belongs_at, core_hearing, core_submitting, heard_by, heard_in, heard_of, heard_pending, new_slot, next_frame, pending_in, pending_of, refusal_in, refusal_of, slot_after, slot_answer, slot_at, slot_hearing, slot_refusal, slots_hearing}
use Rattle.droid_frame.specs.Replies.{SpellsReply}
use Rattle.droid_lines.specs.Printed.{answer_line}
use Rattle.droid_lines.specs.Exchanges.{IsTaken}
use Rattle.droid_lines.specs.Steps.{Takes}
use Rattle.droid_client.proofs.Elements.{set_here}
use Rattle.droid_client.proofs.Numbers.{slot_found}

-- ---- the frame that was submitted last

last_got : {X : Type 0} (xs : List X) (x : X) → slice_get (xs ++ x ∷ []) (length xs) ≡ Some x
last_got [] x = refl
last_got (y ∷ xs) x = last_got xs x

pub pending_now : (core : Core) (asked : VersionedRequest) → pending_of (core_submitting core asked.version asked.request) ≡ pending_of core ++ next_frame core asked.version asked.request ∷ []
pending_now core asked = filter_map-append (λ slot. pending_in slot.state) core.slots (new_slot (next_frame core asked.version asked.request) ∷ [])

-- at least one is pending, and it is the last
pub some_pending : (now core : Core) (asked : VersionedRequest) → now ≡ core_submitting core asked.version asked.request → length (pending_of now) ≡ length (pending_of core) + 1
some_pending now core asked is =
    ap (λ (c : Core). length (pending_of c)) is ∙ (ap (λ (fs : List Frame). length fs) (pending_now core asked) ∙ length-append (pending_of core) (next_frame core asked.version asked.request ∷ []))

pub newest_is : (now core : Core) (asked : VersionedRequest) (place : ℕ) → now ≡ core_submitting core asked.version asked.request → place ≡ length (pending_of now) - 1 → slice_get (pending_of now) place ≡ Some (next_frame core asked.version asked.request)
newest_is now core asked place is at =
    let long = some_pending now core asked is in
    let here : place ≡ length (pending_of core) = omega (arith, at, long) in
    ap (λ (c : Core). slice_get (pending_of c) place) is
    ∙ (ap (λ (fs : List Frame). slice_get fs place) (pending_now core asked)
    ∙ (ap (λ (n : ℕ). slice_get (pending_of core ++ next_frame core asked.version asked.request ∷ []) n) here ∙ last_got (pending_of core) (next_frame core asked.version asked.request)))

-- ---- the reply that was taken last

slot_there_by : (b : Bool) (core : Core) (number : ℕ) (slot : Slot) → ltb number core.first ≡ b → core.first ≤ number → slice_get core.slots (number - core.first) ≡ Some slot
    → (if b then None else slice_get core.slots (number - core.first)) ≡ Some slot
slot_there_by true core number slot is from there = absurd (omega (arith, ltb-true number core.first is, from))
slot_there_by false core number slot is from there = there

slot_there : (core : Core) (number : ℕ) (slot : Slot) → core.first ≤ number → slice_get core.slots (number - core.first) ≡ Some slot → slot_at core number ≡ Some slot
slot_there core number slot from there = slot_there_by (ltb number core.first) core number slot refl from there

-- the slot after a reply to it
slot_now : (core : Core) (version number : ℕ) (reply : Reply) (slot : Slot) → slot_at core number ≡ Some slot
    → slot_at (record core { slots = set core.slots (number - core.first) (slot_hearing slot version reply) }) number ≡ Some (slot_hearing slot version reply)
slot_now core version number reply slot there =
    let found = slot_found core number slot there in
    let after = slot_hearing slot version reply in
    slot_there (record core { slots = set core.slots (number - core.first) after }) number after found.0 (set_here core.slots (number - core.first) after slot found.1)

held_in : (core : Core) (version number : ℕ) (reply : Reply) (o : Option Slot) → slot_at core number ≡ o → heard_by o version reply ≡ heard.Answered → answer_of (record core { slots = slots_hearing core version number reply o }) number ≡ Some reply
held_in core version number reply None there is = absurd cc
held_in core version number reply (Some slot) there is =
    ap slot_answer (slot_now core version number reply slot there) ∙ ap (λ (h : Heard). answer_in (slot_after slot reply h).state) is

-- what is heard as the answer is the answer that is held
pub held : (core : Core) (version client number : ℕ) (reply : Reply) → heard_of core version client number reply ≡ heard.Answered → answer_of (core_hearing core version client number reply) number ≡ Some reply
held core version client number reply is =
    elim (eqb_tells client core.client) [
      | inl t ↦ rw t.0 (held_in core version number reply (slot_at core number) refl (rw t.0 at is))
      | inr t ↦ absurd (let no = rw t.0 at is in cc)
    ]

refused_in : (core : Core) (version number : ℕ) (reply : Reply) (o : Option Slot) → slot_at core number ≡ o → heard_by o version reply ≡ heard.Refused → refusal_of (record core { slots = slots_hearing core version number reply o }) number ≡ refusal_in reply
refused_in core version number reply None there is = absurd cc
refused_in core version number reply (Some slot) there is =
    ap slot_refusal (slot_now core version number reply slot there) ∙ ap (λ (h : Heard). (slot_after slot reply h).refusal) is

-- what is heard as a refusal is the last refusal
pub refused : (core : Core) (version client number : ℕ) (reply : Reply) → heard_of core version client number reply ≡ heard.Refused → refusal_of (core_hearing core version client number reply) number ≡ refusal_in reply
refused core version client number reply is =
    elim (eqb_tells client core.client) [
      | inl t ↦ rw t.0 (refused_in core version number reply (slot_at core number) refl (rw t.0 at is))
      | inr t ↦ absurd (let no = rw t.0 at is in cc)
    ]

-- ---- what is heard as a refusal is one

abbrev IsRefusal : Reply → Type 0
IsRefusal reply = (refusal : Refusal) × (reply ≡ Refused refusal)

refusal_pending : (reply : Reply) → heard_pending reply ≡ heard.Refused → IsRefusal reply
refusal_pending (Made profile) is = absurd cc
refusal_pending (Node id) is = absurd cc
refusal_pending (Taken held) is = absurd cc
refusal_pending (Finished method mismatch hash puids) is = absurd cc
refusal_pending Abandoned is = absurd cc
refusal_pending (Progress held missing) is = absurd cc
refusal_pending (Part as_of total bytes) is = absurd cc
refusal_pending (Refused refusal) is = (refusal, refl)

refusal_state : (b : Bool) (state : State) (reply : Reply) → (if b then heard_in state reply else heard.Stranger) ≡ heard.Refused → IsRefusal reply
refusal_state true (Pending frame) reply is = refusal_pending reply is
refusal_state true (Answered answer) reply is = absurd cc
refusal_state false state reply is = absurd cc

refusal_slot : (o : Option Slot) (version : ℕ) (reply : Reply) → heard_by o version reply ≡ heard.Refused → IsRefusal reply
refusal_slot None version reply is = absurd cc
refusal_slot (Some slot) version reply is = refusal_state (belongs_at slot version reply) slot.state reply is

pub is_refusal : (core : Core) (version client number : ℕ) (reply : Reply) → heard_of core version client number reply ≡ heard.Refused → IsRefusal reply
is_refusal core version client number reply is =
    elim (eqb_tells client core.client) [
      | inl t ↦ refusal_slot (slot_at core number) version reply (rw t.0 at is)
      | inr t ↦ absurd (let no = rw t.0 at is in cc)
    ]

pub some_of : {A : Type 0} (o : Option A) (x : A) → o ≡ Some x → IsSome o
some_of o x is = subst (λ (p : Option _). IsSome p) (sym is) refl

pub answer_now : (core after : Core) (version client number : ℕ) (reply : Reply) → heard_of core version client number reply ≡ heard.Answered → after ≡ core_hearing core version client number reply → answer_of after number ≡ Some reply
answer_now core after version client number reply is same = ap (λ (c : Core). answer_of c number) same ∙ held core version client number reply is

pub refusal_now : (core after : Core) (version client number : ℕ) (reply : Reply) → heard_of core version client number reply ≡ heard.Refused → after ≡ core_hearing core version client number reply
    → (refusal : Refusal) × (reply ≡ Refused refusal) × (refusal_of after number ≡ Some refusal)
refusal_now core after version client number reply is same =
    let one = is_refusal core version client number reply is in
    (one.0, one.1, ap (λ (c : Core). refusal_of c number) same ∙ (refused core version client number reply is ∙ ap refusal_in one.1))

pub took : (core : Core) (frame : Frame) (after : Core) (reply : Reply) (is : Heard) (text : List ℕ) → SpellsReply frame.version frame.kind frame.body reply → heard_of core frame.version frame.client frame.number reply ≡ is → IsTaken is
    → after ≡ core_hearing core frame.version frame.client frame.number reply → text ≡ answer_line (Some reply) → Takes core frame after text
took core frame after reply is text spelled heard_is taken after_is prints =
    record { reply = reply; heard = is; taken = taken; hears = record { spelled = spelled; heard_is = heard_is; after_is = after_is }; prints = prints }

-- ---- what a look-up lends

pub copied_some : {T : Type 0} (o : Option (Bor T)) (x : T) → option_copied o ≡ Some x → IsSome o
copied_some None x is = absurd cc
copied_some (Some y) x is = refl

pub same_copied : {T : Type 0} (o : Option (Bor T)) (lent : Bor T) (x : T) → o ≡ Some lent → option_copied o ≡ Some x → lent.now ≡ x
same_copied None lent x is copied = absurd cc
same_copied (Some y) lent x is copied =
    let here : option_copied (Some lent) ≡ Some x = subst (λ (p : Option (Bor _)). option_copied p ≡ Some x) is copied in
    cc
