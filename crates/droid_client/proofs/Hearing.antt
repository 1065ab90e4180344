-- What hearing a reply leaves of a slot and of a core.
use Rattle.std.proofs.Common.{◌≡◌, ◌≢◌, ℕ, ◌-◌, ◌<◌, ◌≤◌, Bool, true, false, ltb, List, length, set, Option, Some, None, IsSome, refl, sym, ap, ◌∙◌, arith, inl, inr}
use Rattle.std.specs.Bool.{if◌then◌else◌}
use Rattle.std.specs.List.{slice_get}
use Rattle.std.proofs.lemmas.Bool.Decides.{eqb_tells}
use Rattle.std.proofs.lemmas.Bool.{ltb-false, ltb-true}
use Rattle.std.proofs.lemmas.Option.{slice_get_past}
use Rattle.droid_frame.specs.declared.reply.Reply.{Reply}
use Rattle.droid_client.specs.declared.heard.Heard.{Heard}
use Rattle.droid_client.specs.declared.heard.Heard.TheVariants as heard
use Rattle.droid_client.specs.declared.slot.Slot.{Slot}
use Rattle.droid_client.specs.declared.slot.State.{State}
use Rattle.droid_client.specs.declared.slot.State.TheVariants.{Pending, Answered}
use Rattle.droid_client.specs.Cores.{Core, belongs_at, core_hearing, heard_at, heard_by, heard_in, heard_of, pending_in, slot_after, slot_at, slot_hearing, slots_hearing}
use Rattle.droid_client.specs.Places.{place_of}

-- ---- a slot

after_stays : (slot : Slot) (reply : Reply) (is : Heard) → is ≢ heard.Answered → pending_in (slot_after slot reply is).state ≡ pending_in slot.state
after_stays slot reply heard.Answered other = absurd (other refl)
after_stays slot reply heard.Refused other = refl
after_stays slot reply heard.Repeated other = refl
after_stays slot reply heard.Stranger other = refl

-- what is heard as no answer leaves the slot as pending as it was
pub stays : (slot : Slot) (version : ℕ) (reply : Reply) → heard_at slot version reply ≢ heard.Answered → pending_in (slot_hearing slot version reply).state ≡ pending_in slot.state
stays slot version reply other = after_stays slot reply (heard_at slot version reply) other

-- an answered slot isn't pending
pub is_settled : (slot : Slot) (version : ℕ) (reply : Reply) → heard_at slot version reply ≡ heard.Answered → pending_in (slot_hearing slot version reply).state ≡ None
is_settled slot version reply is = ap (λ (h : Heard). pending_in (slot_after slot reply h).state) is

pending_state : (state : State) (reply : Reply) → heard_in state reply ≡ heard.Answered → IsSome (pending_in state)
pending_state (Pending frame) reply is = refl
pending_state (Answered answer) reply is = absurd cc

pending_where : (b : Bool) (state : State) (reply : Reply) → (if b then heard_in state reply else heard.Stranger) ≡ heard.Answered → IsSome (pending_in state)
pending_where true state reply is = pending_state state reply is
pending_where false state reply is = absurd cc

-- what is answered was pending
pub was_pending : (slot : Slot) (version : ℕ) (reply : Reply) → heard_at slot version reply ≡ heard.Answered → IsSome (pending_in slot.state)
was_pending slot version reply is = pending_where (belongs_at slot version reply) slot.state reply is

-- ---- a core

-- a number that has a place
pub record IsPlaced (first count number place : ℕ) : Type 0 where
  pub from_first : ltb number first ≡ false
  pub place_is : number - first ≡ place
  pub within : place < count

placed_by : (a b : Bool) (at place : ℕ) → (if a then None else if b then Some at else None) ≡ Some place → (a ≡ false) × (b ≡ true) × (at ≡ place)
placed_by true b at place is = absurd cc
placed_by false true at place is = (refl, refl, cc)
placed_by false false at place is = absurd cc

pub placed : (first count number place : ℕ) → place_of first count number ≡ Some place → IsPlaced first count number place
placed first count number place is =
    let parts = placed_by (ltb number first) (ltb (number - first) count) (number - first) place is in
    let below = ltb-true (number - first) count parts.1 in
    record { from_first = parts.0; place_is = parts.2; within = omega (arith, below, parts.2) }

-- the slot at a number's place is that of the number
pub slot_there : (core : Core) (number place : ℕ) (slot : Slot) → IsPlaced core.first (length core.slots) number place → slice_get core.slots place ≡ Some slot → slot_at core number ≡ Some slot
slot_there core number place slot is there = rw (is.from_first, is.place_is) there

pub hears : (core : Core) (version client number place : ℕ) (reply : Reply) (slot : Slot) → client ≡ core.client → IsPlaced core.first (length core.slots) number place → slice_get core.slots place ≡ Some slot
    → (heard_of core version client number reply ≡ heard_at slot version reply) × (core_hearing core version client number reply ≡ record core { slots = set core.slots place (slot_hearing slot version reply) })
hears core version client number place reply slot same is there =
    let found = slot_there core number place slot is there in
    elim (eqb_tells client core.client) [
      | inl t ↦ (
        rw t.0 (ap (λ (o : Option Slot). heard_by o version reply) found),
        rw t.0 (ap (λ (o : Option Slot). record core { slots = slots_hearing core version number reply o }) found
            ∙ ap (λ (n : ℕ). record core { slots = set core.slots n (slot_hearing slot version reply) }) is.place_is),
      )
      | inr t ↦ absurd (t.1 same)
    ]

-- ---- a number with no place

past_by : (b : Bool) (at count : ℕ) → ltb at count ≡ b → (if b then Some at else None) ≡ None → count ≤ at
past_by true at count is none = absurd cc
past_by false at count is none = ltb-false at count is

slot_none_by : (b : Bool) (slots : List Slot) (at : ℕ) → (if b then None else if ltb at (length slots) then Some at else None) ≡ None → (if b then None else slice_get slots at) ≡ None
slot_none_by true slots at none = refl
slot_none_by false slots at none = slice_get_past slots at (past_by (ltb at (length slots)) at (length slots) refl none)

-- a reply to it leaves the core as it was
pub hears_none : (core : Core) (version client number : ℕ) (reply : Reply) → place_of core.first (length core.slots) number ≡ None → core ≡ core_hearing core version client number reply
hears_none core version client number reply none =
    let unfound : slot_at core number ≡ None = slot_none_by (ltb number core.first) core.slots (number - core.first) none in
    elim (eqb_tells client core.client) [
      | inl t ↦ rw t.0 (ap (λ (o : Option Slot). record core { slots = slots_hearing core version number reply o }) (sym unfound))
      | inr t ↦ rw t.0 refl
    ]
