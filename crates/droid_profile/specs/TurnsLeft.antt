-- How much of a batch is left to be read and hashed: each turn makes it less.
use Rattle.std.specs.Prelude.{◌≡◌, ◌⊎◌, ℕ, ◌+◌, ◌-◌, ◌*◌, ◌<◌, ◌^◌, Bool, true, false, List, [], ◌∷◌, length, drop}
use Rattle.std.specs.Prelude.{Some, slice_get}
use Rattle.droid_profile.specs.declared.lanes.batch.Batch.{Batch}
use Rattle.droid_profile.specs.declared.lanes.file_lane.FileLane.{FileLane}
use Rattle.droid_profile.specs.declared.lanes.lane_reader.Came.{Came as Outcome}
use Rattle.droid_profile.specs.declared.lanes.lane_reader.Came.TheVariants as outcomes

-- each offset in a file is below this one
unfoldable pub far : ℕ
far = 2 ^ 64

-- the end of a file is still to come, or the hash of its last bytes
abbrev pub end_left : Bool → ℕ
end_left true = 1
end_left false = 4

-- of the file in a lane: the bytes that are not hashed yet, twice those that may still be read, and its end
abbrev pub file_left : FileLane → ℕ
file_left lane = length (drop lane.hashed lane.buffer.items) + (2 * (far - lane.from) + end_left lane.at_end)

-- only a busy lane has something left
abbrev pub if_busy : Bool → ℕ → ℕ
if_busy true left = left
if_busy false left = 0

-- what is left of a lane's file
abbrev pub lane_left : FileLane → ℕ
lane_left lane = if_busy lane.busy (file_left lane)

-- what is left in all lanes
abbrev pub lanes_left : List FileLane → ℕ
lanes_left [] = 0
lanes_left (lane ∷ lanes) = lane_left lane + lanes_left lanes

-- a file that waits counts more than one that was just begun
abbrev pub waiting_left : List ℕ → ℕ
waiting_left [] = 0
waiting_left (place ∷ places) = (2 * far + 5) + waiting_left places

-- what is left of a batch: it lessens with each turn, so the turns end
abbrev pub batch_left : Batch → ℕ
batch_left batch = waiting_left batch.waiting.items + lanes_left batch.lanes.items

-- a file is read in some lane
pub record HasBusy (lanes : List FileLane) : Type 0 where
  pub j : ℕ
  pub lane : FileLane
  pub there : slice_get lanes j ≡ Some lane
  pub busy : lane.busy ≡ true

-- some file waits, or is read in a lane
abbrev pub IsLeft : Batch → Type 0
IsLeft batch = (0 < length batch.waiting.items) ⊎ HasBusy batch.lanes.items

-- ---- one lane

-- bytes are left to be hashed
abbrev pub HasRest : FileLane → Type 0
HasRest lane = 0 < length (drop lane.hashed lane.buffer.items)

-- not all bytes of the lane's file are hashed
abbrev pub IsUnfinished : FileLane → Type 0
IsUnfinished lane = lane.busy ≡ true → lane.at_end ≡ true → HasRest lane

-- the lane does not have to read on
abbrev pub IsNotDue : FileLane → Type 0
IsNotDue lane = lane.busy ≡ true → lane.at_end ≡ false → HasRest lane

-- an idle lane has no file to begin
abbrev pub IsServed : List ℕ → FileLane → Type 0
IsServed waiting lane = lane.busy ≡ false → waiting ≡ []

-- P holds of the lane with this number
abbrev pub At : List FileLane → ℕ → (FileLane → Type 0) → Type 0
At lanes j P = (lane : FileLane) → slice_get lanes j ≡ Some lane → P lane

-- more of the file was read
abbrev pub MovesOn : Outcome → FileLane → FileLane → Type 0
MovesOn outcomes.Piece old new = (new.busy ≡ old.busy) × (file_left new < 2 * (far - old.from) + 4)
MovesOn outcomes.Last old new = (new.busy ≡ old.busy) × (file_left new < 2 * (far - old.from) + 4)
MovesOn (outcomes.Stopped why) old new = Unit {0}

-- ---- a step

-- less is left, or the lanes are as they were and this holds
abbrev pub LanesLessen : List FileLane → List FileLane → Type 0 → Type 0
LanesLessen old new calm = (lanes_left new < lanes_left old) ⊎ ((new ≡ old) × calm)

-- less is left, or the batch is as it was and this holds
abbrev pub Lessens : Batch → Batch → Type 0 → Type 0
Lessens old new calm =
    (batch_left new < batch_left old)
    ⊎ ((new.waiting.items ≡ old.waiting.items) × (new.lanes.items ≡ old.lanes.items) × calm)
