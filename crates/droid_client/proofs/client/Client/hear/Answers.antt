use Rattle.std.proofs.Common.{◌≡◌, ◌<◌, ℕ, List, length, None, Some, sym, ap, ◌∙◌, arith, inl, inr}
use Rattle.std.specs.List.{slice_get}
use Rattle.std.proofs.lemmas.List.{length-set}
use Rattle.std.proofs.lemmas.Option.{slice_get_cases}
use Rattle.droid_client.specs.declared.slot.Slot.{Slot}
use Rattle.droid_client.specs.Cores.{Core, slot_hearing}
use Rattle.droid_client.specs.Places.{place_of}
use Rattle.droid_client.proofs.Hearing.{IsPlaced, hears, hears_none, placed}
use Rattle.droid_client.proofs.client.Client.hear.Goals as goal
use Rattle.droid_client.proofs.client.Client.hear.Goals.{After-hear_at}

pub returns-in_default-clause-after : goal.returns-in_default-clause-after
returns-in_default-clause-after c =
    let inside = c.self.inside in
    let counted : c.len.result ≡ length inside.slots.items = c.len.ensures ∙ inside.slots.ok.0 in
    let none : place_of inside.first (length inside.slots.items) c.args.number ≡ None =
    ap (λ (count : ℕ). place_of inside.first count c.args.number) (sym counted) ∙ (sym c.place_of.ensures ∙ c.in_default.is) in
    rw (← c.self.view_is)
    (hears_none (record { client = inside.client; first = inside.first; slots = inside.slots.items }) c.args.version c.args.client c.args.number c.args.reply none)

-- there is a slot at each place below the count
slot_within : (slots : List Slot) (place : ℕ) → place < length slots → (slot : Slot) × (slice_get slots place ≡ Some slot)
slot_within slots place within =
    elim (slice_get_cases slots place).1 [
      | inl there ↦ (there.0, there.2)
      | inr past ↦ absurd (omega (arith, within, past.0))
    ]

-- the number has the place that was found
placed_at : (c : After-hear_at) → IsPlaced c.self.inside.first (length c.self.inside.slots.items) c.args.number c.in-Some.place
placed_at c =
    let inside = c.self.inside in
    let counted : c.len.result ≡ length inside.slots.items = c.len.ensures ∙ inside.slots.ok.0 in
    placed inside.first (length inside.slots.items) c.args.number c.in-Some.place
    (ap (λ (count : ℕ). place_of inside.first count c.args.number) (sym counted) ∙ (sym c.place_of.ensures ∙ c.in-Some.is))

slot_of : (c : After-hear_at) → (slot : Slot) × (slice_get c.self.inside.slots.items c.in-Some.place ≡ Some slot)
slot_of c = slot_within c.self.inside.slots.items c.in-Some.place (placed_at c).within

-- the client's core, before
abbrev core_in : After-hear_at → Core
core_in c = record { client = c.self.inside.client; first = c.self.inside.first; slots = c.self.inside.slots.items }

pub invariant_of-self : goal.invariant_of-self
invariant_of-self c =
    let inside = c.self.inside in
    let slot = slot_of c in
    let after = c.hear_at.ensures.after slot.0 slot.1 in
    let long = length-set inside.slots.items c.in-Some.place (slot_hearing slot.0 c.args.version c.args.reply) in
    record {
      numbers = omega (arith, c.self.invariant.numbers, ap (λ (slots : List Slot). length slots) after, long);
      places = c.hear_at.ensures.places c.self.invariant.places;
    }

pub returns-clause-heard : goal.returns-clause-heard
returns-clause-heard c =
    let slot = slot_of c in
    let hearing = hears (core_in c) c.args.version c.args.client c.args.number c.in-Some.place c.args.reply slot.0 c.if-client-self.false (placed_at c) slot.1 in
    rw (← c.self.view_is) (c.hear_at.ensures.heard slot.0 slot.1 ∙ sym hearing.0)

pub returns-clause-after : goal.returns-clause-after
returns-clause-after c =
    let slot = slot_of c in
    let hearing = hears (core_in c) c.args.version c.args.client c.args.number c.in-Some.place c.args.reply slot.0 c.if-client-self.false (placed_at c) slot.1 in
    rw (← c.self.view_is) (ap (λ (slots : List Slot). record (core_in c) { slots = slots }) (c.hear_at.ensures.after slot.0 slot.1) ∙ sym hearing.1)
