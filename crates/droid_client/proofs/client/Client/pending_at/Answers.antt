use Rattle.std.proofs.Common.{◌≡◌, ◌<◌, ◌≤◌, ℕ, List, length, get_or, Option, None, Some, IsSome, inl, inr, refl, sym, ap, ◌∙◌, arith}
use Rattle.std.specs.List.{slice_get}
use Rattle.std.proofs.lemmas.Bool.Decides.{leb_tells}
use Rattle.std.proofs.lemmas.Option.{slice_get_past, slice_get_read, slice_get_within, get_or_from_slice_get}
use Rattle.droid_client.specs.declared.slot.Slot.{Slot}
use Rattle.droid_client.specs.Cores.{frames_pending, pending_in}
use Rattle.droid_client.specs.Places.{places_from}
use Rattle.droid_client.proofs.PendingPlaces.{Shows, length_places, shown}
use Rattle.droid_client.proofs.client.Client.pending_at.Goals as goal

-- nothing is there past the end
beyond : (index count there : ℕ) {X : Type 0} (read : Option X) → read ≡ None → (index < count → IsSome read) → count ≡ there → there ≤ index
beyond index count there read none inside counted =
    elim (leb_tells count index) [
      | inl past ↦ omega arith
      | inr before ↦ let some : IsSome read = inside before.1 in absurd cc
    ]

pub returns-in_err-place : goal.returns-in_err-place
returns-in_err-place c =
    let inside = c.self.inside in
    let past : length inside.pending.items ≤ c.args.index = beyond _ _ _ c.get.result c.in_err-place.was c.get.ensures.variant.1 inside.pending.ok.0 in
    rw (← c.self.view_is, c.from_residual.ensures)
    (sym (slice_get_past (frames_pending inside.slots.items) c.args.index (omega (arith, past, ap (λ (places : List ℕ). length places) c.self.invariant.places, length_places 0 inside.slots.items))))

-- what the slot at the place shows that was read
reads : (slots : List Slot) (pending : List ℕ) (count index place : ℕ) → pending ≡ places_from 0 slots → count ≡ length pending → index < count → place ≡ get_or pending index place → Shows slots place (slice_get (frames_pending slots) index)
reads slots pending count index place are counted below is =
    let there = get_or_from_slice_get pending index place 0 (slice_get_read pending count index place counted below is) in
    let within : index < length pending = omega arith in
    shown slots index place (rw are at within) (rw are at there)

same_slot : (slots : List Slot) (place : ℕ) (one other : Slot) → slice_get slots place ≡ Some one → slice_get slots place ≡ Some other → one ≡ other
same_slot slots place one other is too = cc

pub index-requires : goal.index-requires
index-requires c =
    let inside = c.self.inside in
    let shows = reads inside.slots.items inside.pending.items _ c.args.index c.in_ok-place.field-0.now c.self.invariant.places inside.pending.ok.0 (c.in_ok-place.ensures.variant.0 refl) c.in_ok-place.ensures.lookup in
    omega (arith, slice_get_within inside.slots.items c.in_ok-place.field-0.now shows.slot shows.is_there, inside.slots.ok.0)

pub returns : goal.returns
returns c =
    let inside = c.self.inside in
    let place = c.in_ok-place.field-0.now in
    let shows = reads inside.slots.items inside.pending.items _ c.args.index place c.self.invariant.places inside.pending.ok.0 (c.in_ok-place.ensures.variant.0 refl) c.in_ok-place.ensures.lookup in
    let there = slice_get_read inside.slots.items _ place c.index.result.now refl (slice_get_within inside.slots.items place shows.slot shows.is_there) c.index.ensures in
    let same : c.index.result.now ≡ shows.slot = same_slot inside.slots.items place _ _ there shows.is_there in
    rw (← c.self.view_is) (c.pending.ensures ∙ (ap (λ (slot : Slot). pending_in slot.state) same ∙ shows.is_frame))
