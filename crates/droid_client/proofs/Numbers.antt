-- Where the slot of a number stands.
use Rattle.std.proofs.Common.{◌≡◌, ℕ, ◌-◌, ◌≤◌, Bool, true, false, ltb, Some, None, refl}
use Rattle.std.specs.Bool.{if◌then◌else◌}
use Rattle.std.specs.List.{slice_get}
use Rattle.std.proofs.lemmas.Bool.{ltb-false}
use Rattle.droid_client.specs.Cores.{Core, slot_at}
use Rattle.droid_client.specs.declared.slot.Slot.{Slot}

slot_found_by : (b : Bool) (core : Core) (number : ℕ) (slot : Slot) → ltb number core.first ≡ b → (if b then None else slice_get core.slots (number - core.first)) ≡ Some slot
    → (core.first ≤ number) × (slice_get core.slots (number - core.first) ≡ Some slot)
slot_found_by true core number slot is there = absurd cc
slot_found_by false core number slot is there = (ltb-false number core.first is, there)

-- the slot of a number stands at its place
pub slot_found : (core : Core) (number : ℕ) (slot : Slot) → slot_at core number ≡ Some slot → (core.first ≤ number) × (slice_get core.slots (number - core.first) ≡ Some slot)
slot_found core number slot there = slot_found_by (ltb number core.first) core number slot refl there
