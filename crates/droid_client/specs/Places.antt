-- For inner clauses and proofs: the indices of the pending requests.
use Rattle.std.specs.Prelude.{◌≡◌, ℕ, suc, ◌+◌, ◌-◌, ◌≤◌, ◌^◌, nat_lt, if◌then◌else◌, List, [], ◌∷◌, length, Option}
use Rattle.std.specs.Prelude.{Some, None, IsSome}
use Rattle.std.specs.List.{slice_get}
use Rattle.droid_frame.specs.declared.frame.Frame.{Frame}
use Rattle.droid_client.specs.declared.slot.Slot.{Slot}
use Rattle.droid_client.specs.Cores.{pending_in}

-- the index in front, if a frame is pending there
abbrev pub place_before : ℕ → Option Frame → List ℕ → List ℕ
place_before place None places = places
place_before place (Some frame) places = place ∷ places

-- the indices of the pending slots, counted from `place`
abbrev pub places_from : ℕ → List Slot → List ℕ
places_from place [] = []
places_from place (slot ∷ slots) = place_before place (pending_in slot.state) (places_from (suc place) slots)

-- the numbers of the slots are below 2^63, and these are the indices of the pending ones
pub record KeepsPlaces (first : ℕ) (slots : List Slot) (pending : List ℕ) : Type 0 where
  pub numbers : first + length slots ≤ 2 ^ 63
  pub places : pending ≡ places_from 0 slots

-- the slot at this index is pending
abbrev pub IsPendingAt : List Slot → ℕ → Type 0
IsPendingAt slots place = (slot : Slot) × (slice_get slots place ≡ Some slot) × IsSome (pending_in slot.state)

-- the index of the slot with a number, among `count` slots numbered from `first` on
abbrev pub place_of : ℕ → ℕ → ℕ → Option ℕ
place_of first count number =
    if nat_lt number first then None else if nat_lt (number - first) count then Some (number - first) else None
